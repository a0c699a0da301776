use Rattle.std.proofs.Common.{◌++◌, List, ℕ, length, take, drop, sym, ap, refl, ◌∙◌}
use Rattle.std.proofs.lemmas.List.{take_at, take-append-drop}
use Rattle.std.proofs.lemmas.Slice.Eq.{starts_is}
use Rattle.std.proofs.lemmas.Bool.Decides.{Decides-eqb}
use Rattle.plist_object.proofs.shortest.begins.Goals as goal

pub returns : goal.returns
returns c =
    let octets = c.args.octets.now in
    let first = c.args.first.now in
    let starts = starts_is Decides-eqb octets first c.starts_with.result c.starts_with.ensures.value in (
      λ yes. ap (take (length first)) (starts.0 yes) ∙ take_at first (drop (length first) octets) (length first) refl,
      λ is. starts.1 (drop (length first) octets) (sym (take-append-drop (length first) octets) ∙ ap (λ (xs : List ℕ). xs ++ drop (length first) octets) is),
    )
