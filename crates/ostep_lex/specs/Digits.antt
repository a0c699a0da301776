-- Numbers of consecutive digits, up to some count.
use Rattle.std.specs.Prelude.{ℕ, zero, suc, ◌+◌, ◌*◌, Bool, false, List, [], ◌∷◌, if◌then◌else◌}
use Rattle.std.specs.Char.{is_digit, digit_value}

-- whether the text begins with a digit of the base
abbrev pub begins_digit : ℕ → List ℕ → Bool
begins_digit base [] = false
begins_digit base (c ∷ rest) = is_digit c base

-- a number, and the text after its digits
pub record Number : Type 0 where
  pub value : ℕ
  pub after : List ℕ

-- the number that continues `high` with at most `count` digits at the start of the text
abbrev pub number_from : (base count high : ℕ) → List ℕ → Number
number_from base zero high text = record { value = high; after = text }
number_from base (suc count) high [] = record { value = high; after = [] }
number_from base (suc count) high (c ∷ rest) =
    if is_digit c base then number_from base count (high * base + digit_value c) rest
    else record { value = high; after = c ∷ rest }
