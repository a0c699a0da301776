-- Laws of all printed texts.
use Rattle.std.specs.Prelude.{◌≡◌, ◌↔◌, ℕ, ◌+◌, ◌*◌, ◌≤◌, min, List, ◌++◌, length}
use Rattle.plist_value.specs.Plist.{Plist, IsPlist}
use Rattle.plist_value.specs.Limits.{nodes, depth, payload}
use Rattle.plist_print.specs.Printed.{printed, printed_at}

-- two property lists have equal printed texts if and only if they are equal
abbrev pub PrintTellsValuesApart : Type 0
PrintTellsValuesApart = (v w : Plist) → IsPlist v → IsPlist w → (printed v ≡ printed w) ↔ (v ≡ w)

-- if two equal texts begin with the printed texts of two values, then the values and the rests are
-- equal
abbrev pub PrintIsKnownByItsFront : Type 0
PrintIsKnownByItsFront =
    (level : ℕ) (v w : Plist) (r s : List ℕ) → IsPlist v → IsPlist w
    → printed_at level v ++ r ≡ printed_at level w ++ s → (v ≡ w) × (r ≡ s)

-- the maximum length of a printed text
abbrev pub PrintIsBounded : Type 0
PrintIsBounded =
    (v : Plist) → IsPlist v → length (printed v) ≤ 5 * payload v + (70 + 4 * min (depth v) 32)
    * nodes v
