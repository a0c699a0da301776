-- Ranks: the sort positions of the strings that are keys of dictionaries.
use Rattle.std.specs.Prelude.{◌≡◌, ℕ, zero, suc, ◌<◌, length, List, [], Option, Some, None}
use Rattle.std.specs.Prelude.{slice_index_or, slice_get, map, All}
use Rattle.std.specs.declared.cmp.Ordering.{Ordering}
use Rattle.std.specs.Ordering.{nat_cmp, ordering_then}
use Rattle.std.specs.Cmp.Lexicographic.{slice_cmp}
use Rattle.std.specs.List.Sorted.{IsStrictlySortedBy}
use Rattle.plist_value.specs.Plist.{text, AreUnits}
use Rattle.plist_value.specs.Texts.{units_of}
use Rattle.plist_value.specs.declared.text_ref.TextRef.{TextRef}
use Rattle.plist_object.specs.Layout.{trailer_of}
use Rattle.plist_object.specs.Objects.{holds_scalar}
use Rattle.plist_object.specs.Places.{Holds}
use Rattle.plist_keys.specs.declared.keys.Key.{Key}
use Rattle.plist_keys.specs.declared.keys.Keys.{Keys}
use Rattle.plist_keys.specs.declared.ranks.Ranks.{Ranks}
use Rattle.plist_keys.specs.declared.reached.Reached.{Reached}

-- the object contains the string of these units
abbrev pub HoldsUnits : List ℕ → ℕ → List ℕ → Type 0
HoldsUnits f i units = Holds f i (holds_scalar (text units)) × AreUnits units

abbrev pub HoldsKey : List ℕ → Key → Type 0
HoldsKey f key = HoldsUnits f key.object (units_of key.text)

-- by strings, and by object numbers if these are equal
abbrev pub in_order : Key → Key → Ordering
in_order a b =
    ordering_then (slice_cmp nat_cmp (units_of a.text) (units_of b.text))
    (nat_cmp a.object b.object)

-- each entry is a string that its object contains, and each object has a mark for whether it was
-- seen
pub record AreKeys (f : List ℕ) (keys : Keys) : Type 0 where
  pub held : All (HoldsKey f) keys.entries.items
  pub marked : length keys.seen.items ≡ (trailer_of f).count

-- each object has a mark
abbrev pub AreMarked : List ℕ → Reached → Type 0
AreMarked f reached = length reached.marks.items ≡ (trailer_of f).count

-- the rank that is one less than the number, and none for 0
abbrev pub rank_in : ℕ → Option ℕ
rank_in zero = None
rank_in (suc rank) = Some rank

-- the rank of the object, if it has one
abbrev pub rank_of : Ranks → ℕ → Option ℕ
rank_of ranks i = rank_in (slice_index_or ranks.of_objects.items i 0)

-- the string with the rank, if there is one
abbrev pub text_of_rank : Ranks → ℕ → Option TextRef
text_of_rank ranks rank = slice_get ranks.texts.items rank

-- the strings, in the order of their ranks
abbrev pub texts_of : Ranks → List (List ℕ)
texts_of ranks = map units_of ranks.texts.items

-- Each string is below the next, and an object with a rank contains the string with that rank.
pub record AreRanks (f : List ℕ) (ranks : Ranks) : Type 0 where
  pub ascending : IsStrictlySortedBy (slice_cmp nat_cmp) (texts_of ranks)
  pub within : (i rank : ℕ) → rank_of ranks i ≡ Some rank → rank < length (texts_of ranks)
  pub held : (i rank : ℕ) → rank_of ranks i ≡ Some rank
      → HoldsUnits f i (slice_index_or (texts_of ranks) rank [])
