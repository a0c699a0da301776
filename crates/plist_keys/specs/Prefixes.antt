-- The sort prefix of a string: a number of its first units after those that it shares with all
-- strings it is sorted with. These are the keys of a dictionary, or a run of them whose prefixes so
-- far are equal.
use Rattle.std.specs.Prelude.{◌≡◌, ◌↔◌, ℕ, zero, suc, ◌+◌, ◌*◌, ◌^◌, ◌<◌, nat_lt, List, [], ◌∷◌}
use Rattle.std.specs.Prelude.{All, map, take, drop, if◌then◌else◌}
use Rattle.std.specs.List.Sorted.{IsNonDecreasingBy, IsPermutation}
use Rattle.plist_value.specs.declared.text_ref.TextRef.{TextRef}
use Rattle.plist_keys.specs.declared.order.Row.{Row}
use Rattle.plist_keys.specs.declared.prefixes.Width.{Width}
use Rattle.plist_keys.specs.declared.prefixes.Width.TheVariants.{Bits8, Bits16}
use Rattle.plist_keys.specs.KeyOrder.{sort_key, row_units}

-- the digit for the first unit: `most` for a greater unit, and 0 at the end
abbrev pub digit_of : ℕ → List ℕ → ℕ
digit_of most [] = 0
digit_of most (unit ∷ units) = if nat_lt most unit then most else unit

-- the units for the next digit: a unit above `most` stays the first
abbrev pub behind : ℕ → List ℕ → List ℕ
behind most [] = []
behind most (unit ∷ units) = if nat_lt most unit then unit ∷ units else units

-- the first k digits as one big-endian number
abbrev pub digits_of : ℕ → ℕ → List ℕ → ℕ
digits_of most zero units = 0
digits_of most (suc k) units =
    digit_of most units * (most + 1) ^ k + digits_of most k (behind most units)

-- eight digits of 8 bits, or four of 16
abbrev pub prefix_of : Width → List ℕ → ℕ
prefix_of Bits8 units = digits_of 255 8 units
prefix_of Bits16 units = digits_of 65535 4 units

-- the next eight units fit 8 bits
abbrev pub IsNarrow : List ℕ → Type 0
IsNarrow units = All (λ unit. unit < 256) (take 8 units)

-- the row, numbered by the index at which its run begins, and then by the sort prefix of its units
-- after the first `front`
abbrev pub in_run : List TextRef → ℕ → ℕ → Width → Row → Row
in_run texts start front width row = record {
  prefix = prefix_of width (drop front (row_units texts row));
  run = start;
  index = row.index;
}

-- The rows of the run that begins at index `start` were numbered and sorted. Their strings share
-- the first `front` units. All prefixes have 8 bits for a unit, or if the next units of a string do
-- not fit these, 16.
pub record IsRunSorted (texts : List TextRef) (start : ℕ) (old new : List Row) : Type 0 where
  pub front : ℕ
  pub width : Width
  pub first : List ℕ
  pub shared : All (λ row. take front (row_units texts row) ≡ take front first) old
  pub fits : width ≡ Bits8 ↔ All (λ row. IsNarrow (drop front (row_units texts row))) old
  pub moved : IsPermutation (map (in_run texts start front width) old) new
  pub sorted : IsNonDecreasingBy sort_key new
