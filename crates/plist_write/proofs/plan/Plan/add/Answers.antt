use Rattle.std.proofs.Common.{refl, rules, sym}
use Rattle.std.proofs.lemmas.List.{append-nil}
use Rattle.plist_write.proofs.plan.Plan.add.Goals as goal

pub returns-clause-adds : goal.returns-clause-adds
returns-clause-adds g c = record {
  number_is = search rules;
  scalars_kept = refl;
  memo_kept = refl;
  original_added = rw c.in_ok-original.ensures.value at c.in_ok-push.ensures.items;
  references_added = sym (append-nil _);
}
