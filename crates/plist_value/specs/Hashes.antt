-- What a string feeds a hasher: units below 256 eight at a time, and others four at a time.
use Rattle.std.specs.Prelude.{ℕ, ◌+◌, ◌-◌, ◌*◌, if◌then◌else◌, List, [], ◌∷◌, ◌++◌, length}
use Rattle.std.specs.Prelude.{replicate, slice_index}
use Rattle.std.specs.Hash as fed
use Rattle.plist_value.specs.Narrow.{are_narrow}

-- two units as one number, the first in the lower half
abbrev pub pair_word : ℕ → ℕ → ℕ
pair_word a b = a + 65536 * b

-- four units as one number, the first in the lowest bits
abbrev pub word : ℕ → ℕ → ℕ → ℕ → ℕ
word a b c d = pair_word a b + 4294967296 * pair_word c d

-- the two units from position i on
abbrev pub pair_from : ℕ → List ℕ → ℕ
pair_from i units = pair_word (slice_index units i) (slice_index units (i + 1))

abbrev pub word_from : ℕ → List ℕ → ℕ
word_from i units = pair_from i units + 4294967296 * pair_from (i + 2) units

-- a number for each four units, and one for the rest
abbrev pub fed_units : List ℕ → List (List ℕ)
fed_units [] = []
fed_units (a ∷ []) = fed.u64 (word a 0 0 0)
fed_units (a ∷ b ∷ []) = fed.u64 (word a b 0 0)
fed_units (a ∷ b ∷ c ∷ []) = fed.u64 (word a b c 0)
fed_units (a ∷ b ∷ c ∷ d ∷ rest) = fed.u64 (word a b c d) ++ fed_units rest

-- the number of units, the units, and 255
abbrev pub fed_wide : List ℕ → List (List ℕ)
fed_wide units = fed.usize (length units) ++ (fed_units units ++ fed.u8 255)

-- Each write has eight units as bytes. The last write has the rest, zeros, and the sum of 128 and
-- the number of units in the rest.
abbrev pub fed_narrow : List ℕ → List (List ℕ)
fed_narrow (a ∷ b ∷ c ∷ d ∷ e ∷ f ∷ g ∷ h ∷ rest) = (a ∷ b ∷ c ∷ d ∷ e ∷ f ∷ g ∷ h ∷ [])
    ∷ fed_narrow rest
fed_narrow rest = (rest ++ (replicate (7 - length rest) 0 ++ ((128 + length rest) ∷ []))) ∷ []

-- the last byte is above 127, which the kind of no other scalar is
abbrev pub fed_text : List ℕ → List (List ℕ)
fed_text units = if are_narrow units then fed_narrow units else fed_wide units

-- the first seven bytes, zeros after the end, and then `last`
abbrev pub seven_and : List ℕ → ℕ → List ℕ
seven_and xs last =
    slice_index xs 0 ∷ slice_index xs 1 ∷ slice_index xs 2 ∷ slice_index xs 3 ∷ slice_index xs 4
    ∷ slice_index xs 5 ∷ slice_index xs 6 ∷ last ∷ []
