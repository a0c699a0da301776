-- How reals are printed: IEEE 754 binary32 and binary64, given by their bytes.
use Rattle.std.specs.Prelude.{ℕ, zero, suc, ◌+◌, ◌-◌, ◌*◌, ◌/◌, ◌%◌, ◌^◌, Bool, ◌&&◌, ◌==◌, nat_le}
use Rattle.std.specs.Prelude.{nat_lt, List, [], ◌∷◌, ◌++◌, Option, Some, None, codes, decimal}
use Rattle.std.specs.Prelude.{if◌then◌else◌}
use Rattle.std.specs.Fmt.{sign_text}
use Rattle.byteorder.specs.Endian.{big_number}
use Rattle.plist_print.specs.Units.{printed_data}
use Rattle.plist_print.specs.declared.numbers.Format.{Format}

-- four bytes; decimals below 2^25
abbrev pub single : Format
single = record {
  octets = 4;
  sign = 2 ^ 31;
  hidden = 2 ^ 23;
  infinite = 0x7f80_0000;
  one = 149;
  to = 152;
}

-- eight bytes; decimals below 2^54
abbrev pub double : Format
double = record {
  octets = 8;
  sign = 2 ^ 63;
  hidden = 2 ^ 52;
  infinite = 0x7ff0_0000_0000_0000;
  one = 1074;
  to = 1077;
}

-- The real above 0 with these bits, as a multiple of the least real above 0.
unfoldable pub value_of : ℕ → ℕ → ℕ
value_of hidden bits = if nat_lt bits hidden then bits
    else (hidden + bits % hidden) * 2 ^ (bits / hidden - 1)

-- A real with its neighbours: the next below it, itself, the next above it, and 1, as multiples of
-- the same number.
pub record Scaled : Type 0 where
  pub below : ℕ
  pub here : ℕ
  pub above : ℕ
  pub unit : ℕ

-- the numerator over `over` that is nearest to the real; the greater one if there are two
abbrev pub nearest : Scaled → ℕ → ℕ
nearest x over = (2 * (x.here * over) + x.unit) / (2 * x.unit)

-- n / over reads as the real: it is between the midpoints to the neighbours, the lower one included
abbrev pub reads_as : Scaled → ℕ → ℕ → Bool
reads_as x over n =
    nat_le ((x.below + x.here) * over) (2 * (n * x.unit))
    && nat_lt (2 * (n * x.unit)) ((x.here + x.above) * over)

-- The decimal with the fewest digits after the decimal point that reads as the real, as its
-- numerator and the number of these digits. The numbers of digits are tried from the given one on.
abbrev pub shortest : Scaled → ℕ → ℕ → Option (ℕ × ℕ)
shortest x zero digits = None
shortest x (suc more) digits =
    if reads_as x (10 ^ digits) (nearest x (10 ^ digits))
    then Some (nearest x (10 ^ digits), digits)
    else shortest x more (suc digits)

-- the real with these bits; the next below 0 is 0
abbrev pub scaled_in : Format → ℕ → Scaled
scaled_in f bits =
    record {
      below = value_of f.hidden (bits - 1);
      here = value_of f.hidden bits;
      above = value_of f.hidden (suc bits);
      unit = 2 ^ f.one;
    }

-- with 1 to 21 digits after the decimal point
unfoldable pub decimal_of : Format → ℕ → Option (ℕ × ℕ)
decimal_of f bits = if nat_lt (bits / f.hidden) f.to then shortest (scaled_in f bits) 21 1 else None

-- the last k decimal digits of n
unfoldable pub last_digits : ℕ → ℕ → List ℕ
last_digits zero n = []
last_digits (suc k) n = (48 + n / 10 ^ k % 10) ∷ last_digits k n

-- n / 10^k with k digits after the decimal point
abbrev pub printed_decimal : ℕ → ℕ → List ℕ
printed_decimal n k = decimal (n / 10 ^ k) ++ (46 ∷ last_digits k n)

-- a finite real: as its decimal, or as its bytes if it has none
abbrev pub printed_finite : List ℕ → Option (ℕ × ℕ) → List ℕ
printed_finite xs (Some d) = printed_decimal d.0 d.1
printed_finite xs None = codes "real " ++ printed_data xs

-- a real without its sign
abbrev pub printed_size : Format → List ℕ → ℕ → List ℕ
printed_size f xs bits =
    if nat_lt bits f.infinite then printed_finite xs (decimal_of f bits)
    else (if bits == f.infinite then codes "infinity"
    else codes "nan " ++ printed_data xs)

abbrev pub printed_real : Format → List ℕ → List ℕ
printed_real f xs =
    let bits = big_number f.octets xs in
    sign_text (nat_le f.sign bits) ++ printed_size f xs (bits % f.sign)
