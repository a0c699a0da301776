-- The keys of a dictionary in the order of their strings.
use Rattle.std.specs.Prelude.{ℕ, List, EachIndex, length, map, slice_index}
use Rattle.std.specs.Ordering.{nat_cmp}
use Rattle.std.specs.Cmp.Lexicographic.{slice_cmp}
use Rattle.std.specs.List.{range_with_len}
use Rattle.std.specs.List.Sorted.{IsPermutation, IsSorted, IsStrictlySortedBy}
use Rattle.plist_object.specs.Places.{what_holds, units_in, HoldsText}

-- each of the references points to a string
abbrev pub NameTexts : List ℕ → List ℕ → Type 0
NameTexts f keys = EachIndex keys (λ k. HoldsText f (slice_index keys k))

-- the strings of the keys at these positions
abbrev pub strings_at : List ℕ → List ℕ → List ℕ → List (List ℕ)
strings_at f keys indices = map (λ index. units_in (what_holds f (slice_index keys index))) indices

-- the positions of the keys, in the order of their strings
pub record IsInOrder (f keys indices : List ℕ) : Type 0 where
  pub moved : IsPermutation (range_with_len 0 (length keys)) indices
  pub sorted : IsSorted (slice_cmp nat_cmp) (strings_at f keys indices)

-- at these positions each string is below the next
abbrev pub Ascend : List ℕ → List ℕ → List ℕ → Type 0
Ascend f keys indices = IsStrictlySortedBy (slice_cmp nat_cmp) (strings_at f keys indices)

-- the key and the value at a position
abbrev pub pair_of : List ℕ → List ℕ → ℕ → ℕ × ℕ
pair_of keys values index = (slice_index keys index, slice_index values index)
