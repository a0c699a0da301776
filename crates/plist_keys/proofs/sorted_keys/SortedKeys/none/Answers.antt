use Rattle.std.proofs.Common.{◌≡◌, ℕ, List, [], refl, arith}
use Rattle.std.specs.Prelude.{◌↔◌, IsTrue, true}
use Rattle.std.proofs.lemmas.List.Sorted.{IsPermutation-refl}
use Rattle.plist_keys.specs.Order.{Ascend, IsInOrder}
use Rattle.plist_object.specs.Views.{numbers_of}
use Rattle.plist_keys.proofs.Ascents.{sorted_from_ascent}
use Rattle.plist_keys.proofs.sorted_keys.SortedKeys.none.Goals as goal

no_keys : (f keys indices : List ℕ) → keys ≡ [] → indices ≡ [] → IsInOrder f keys indices × (IsTrue true ↔ Ascend f keys indices)
no_keys f keys indices none nowhere = rw (none, nowhere) (
  record { moved = IsPermutation-refl []; sorted = λ k d low high. absurd (omega (arith, low, high)) },
  (λ _. sorted_from_ascent [] (λ k h. absurd (omega (arith, h))), λ _. refl),
)

pub returns : goal.returns
returns c f =
    let keys = no_keys f (numbers_of c.none.result) c.new.result.items c.none.ensures c.new.ensures.items in
    record { order = keys.0; tells = keys.1 }
