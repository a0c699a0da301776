-- Keys of a dictionary that ascend in the order of the file.
use Rattle.std.specs.Prelude.{◌≡◌, ℕ, suc, ◌<◌, List, length, slice_index}
use Rattle.std.specs.declared.cmp.Ordering.TheVariants.{Less}
use Rattle.std.specs.Ordering.{nat_cmp}
use Rattle.std.specs.Cmp.Lexicographic.{slice_cmp}
use Rattle.plist_value.specs.Plist.{text}
use Rattle.plist_object.specs.Objects.{holds_scalar}
use Rattle.plist_keys.specs.Order.{NameTexts}
use Rattle.plist_object.specs.Places.{Holds}

-- both objects are strings, the first below the second
pub record AreInOrder (f : List ℕ) (i j : ℕ) : Type 0 where
  pub first : List ℕ
  pub second : List ℕ
  pub holds_first : Holds f i (holds_scalar (text first))
  pub holds_second : Holds f j (holds_scalar (text second))
  pub below : slice_cmp nat_cmp first second ≡ Less

-- each reference points to a string that is below the next
abbrev pub AscendInTurn : List ℕ → List ℕ → Type 0
AscendInTurn f keys = (k : ℕ) → suc k < length keys
    → AreInOrder f (slice_index keys k) (slice_index keys (suc k))

-- each reference points to a string, and each string is below the next
pub record AreAscending (f keys : List ℕ) : Type 0 where
  pub names : NameTexts f keys
  pub ascend : AscendInTurn f keys
