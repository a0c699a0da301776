use Rattle.std.proofs.Common.{◌∙◌, refl, subst, inr}
use Rattle.std.proofs.lemmas.List.{append-nil}
use Rattle.plist_value.specs.Scalars.{content_of}
use Rattle.plist_write.specs.ObjectNumbers.{KeepsNumber}
use Rattle.plist_write.specs.declared.object_numbers.ObjectNumbers.{ObjectNumbers}
use Rattle.plist_write.proofs.Remembering.{new-seen, knows-more}
use Rattle.plist_write.proofs.Walking.{Walks-new}
use Rattle.plist_write.proofs.plan.Plan.unique_scalar.Goals as goal

pub returns-clause-numbers : goal.returns-clause-numbers
returns-clause-numbers g c = λ f r.
    let i = c.args.object in
    let old = c.args.self.now in
    let n = c.in_ok-number.number in
    let adds = c.in_ok-number.ensures.adds in
    record {
      walks = λ unseen.
          let alone = (unseen.knows.singles i c.requires).1 in
          Walks-new f (content_of r) i old _ n unseen.holds (new-seen f i r old unseen n old.scalars (inr (refl, alone))) adds.number_is adds.original_added (adds.references_added ∙ append-nil _);
      references_kept = adds.references_added ∙ append-nil _;
    }

pub returns-clause-knows : goal.returns-clause-knows
returns-clause-knows g c = λ f r unseen.
    let i = c.args.object in
    let old = c.args.self.now in
    let n = c.in_ok-number.number in
    let adds = c.in_ok-number.ensures.adds in
    let alone = (unseen.knows.singles i c.requires).1 in
    let keeps = subst (λ (memo : ObjectNumbers). KeepsNumber i n memo c.keep.new.self) adds.memo_kept c.keep.ensures in
    knows-more f i r old unseen n _ c.in_ok-number.ensures.some keeps adds.number_is adds.original_added (inr (adds.scalars_kept, alone))
