use Rattle.std.proofs.Common.{List, sym, subst}
use Rattle.std.specs.Prelude.{All}
use Rattle.std.proofs.lemmas.List.Sorted.{All-permutation}
use Rattle.plist_object.specs.Views.{octets_of}
use Rattle.plist_keys.specs.declared.keys.Key.{Key}
use Rattle.plist_keys.specs.Ranks.{HoldsKey}
use Rattle.plist_keys.proofs.keys.Keys.ranks.Goals as goal

pub ranks_in_order-requires-clause-held : goal.ranks_in_order-requires-clause-held
ranks_in_order-requires-clause-held c =
    let f = octets_of c.args.file.now in
    let old = c.args.self.now.entries.items in
    let sorted = c.sort_unstable.new.self.items in
    let held = All-permutation (HoldsKey f) old sorted c.sort_unstable.ensures.permutation c.requires.held in
    subst (λ (keys : List Key). All (HoldsKey f) keys) (sym c.deref.ensures.value) held
