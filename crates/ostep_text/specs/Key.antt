-- Keys of dictionaries, and their numbers.
use Rattle.std.specs.Prelude.{ℕ, ◌+◌, ◌*◌, ◌-◌, ◌%◌, ◌^◌, Bool, ◌&&◌, List, [], ◌∷◌}
use Rattle.std.specs.Prelude.{length, drop, nat_lt, if◌then◌else◌}
use Rattle.std.specs.declared.cmp.Ordering.{Ordering}
use Rattle.std.specs.Cmp.Lexicographic.{slice_cmp}
use Rattle.std.specs.Ordering.{nat_cmp, on, then_cmp}
use Rattle.std.specs.List.{list_all}
use Rattle.plist_value.specs.Texts.{units_of}
use Rattle.ostep_text.specs.declared.key.KeyText.{KeyText}
use Rattle.ostep_text.specs.declared.key.KeyText.TheVariants.{Borrowed, Owned}

-- the units of a key, borrowed or owned
abbrev pub units_in : KeyText → List ℕ
units_in (Borrowed text) = units_of text
units_in (Owned text) = text

-- whether the key has at most 7 units, of 16 bits, or at most 15 units, each below 256
abbrev pub is_short_key : List ℕ → Bool
is_short_key key =
    if nat_lt (length key) 8
    then list_all (λ unit. nat_lt unit 65536) key
    else nat_lt (length key) 16 && list_all (λ unit. nat_lt unit 256) key

-- the units as the digits of one number, the first one the lowest, and a 1 above the last; of a
-- unit that is no digit the rest of its division
abbrev pub packed : ℕ → List ℕ → ℕ
packed base [] = 1
packed base (unit ∷ units) = unit % base + base * packed base units

-- at most 7 units as a number from 2^125 on, and otherwise the last 15 units as one below that
abbrev pub number_of : List ℕ → ℕ
number_of key =
    if nat_lt (length key) 8
    then 2 ^ 125 + packed 65536 key
    else packed 256 (drop (length key - 15) key)

-- keys are compared by their numbers, and then by their units
abbrev pub key_cmp : List ℕ → List ℕ → Ordering
key_cmp = then_cmp (on number_of nat_cmp) (slice_cmp nat_cmp)
