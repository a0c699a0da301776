-- Ascending keys, in a map and in the entries of a dictionary.
use Rattle.std.proofs.Common.{◌≡◌, ℕ, List, [], ◌∷◌, Less, Greater, false}
use Rattle.std.specs.declared.cmp.Ordering.{Ordering}
use Rattle.std.specs.Ordering.{is_eq, is_lt, nat_cmp, ordering_reverse}
use Rattle.std.proofs.lemmas.Cmp.{nat_list_cmp_total}
use Rattle.std.specs.Cmp.Lexicographic.{slice_cmp}
use Rattle.std.specs.List.Sorted.{IsStrictlySortedBy}
use Rattle.std.specs.Map.{keys_of}
use Rattle.plist_value.specs.declared.value.Value.{Value}
use Rattle.plist_value.specs.Plist.{Pairs, no_pairs, pair, IsKeyBelow}
use Rattle.plist_value.specs.View.{view_pairs}

-- the first key is below the next, and the others ascend
pub IsKeyBelow-ordered : (key : List ℕ) (v : Value) (rest : List (List ℕ × Value)) → IsStrictlySortedBy (slice_cmp nat_cmp) (keys_of ((key, v) ∷ rest)) → IsKeyBelow key (view_pairs rest) × IsStrictlySortedBy (slice_cmp nat_cmp) (keys_of rest)
unfolding IsStrictlySortedBy
IsKeyBelow-ordered key v [] ordered = (tt, tt)
IsKeyBelow-ordered key v (p ∷ ps) ordered = (ordered.0.0, ordered.1)

-- what is below a key that is below all entries is below all of them
pub below_next : (low key : List ℕ) (ps : Pairs) → slice_cmp nat_cmp low key ≡ Less → IsKeyBelow key ps → IsKeyBelow low ps
below_next low key no_pairs below others = tt
below_next low key (pair next v ps) below others = nat_list_cmp_total.trans low key next below others

-- if the second is neither below nor equal to the first, the first is below the second
pub turned : (o p : Ordering) → o ≡ ordering_reverse p → is_lt p ≡ false → is_eq o ≡ false → o ≡ Less
turned o Greater is order apart = is
turned o _ is order apart = absurd cc
