-- Bytes as hexadecimal digits.
use Rattle.std.specs.Prelude.{ℕ, ◌/◌, ◌%◌, List, [], ◌∷◌}
use Rattle.std.specs.Char.{digit_char}

-- a byte as two lower-case hexadecimal digits
abbrev pub two_digits : ℕ → List ℕ
two_digits x = digit_char (x / 16) ∷ digit_char (x % 16) ∷ []
