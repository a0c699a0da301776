-- The maximum length of a printed real, date or integer.
use Rattle.std.proofs.Common.{◌≡◌, ℕ, suc, ◌+◌, ◌-◌, ◌*◌, ◌/◌, ◌%◌, ◌^◌, ◌<◌, ◌≤◌, Bool, true, false, List, ◌∷◌, length, Option, Some, None, refl, ap, ◌∙◌, arith, length-append}
use Rattle.std.specs.Prelude.{codes, decimal, ◌==◌, nat_le, nat_lt, ℤ, pos, negsuc}
use Rattle.std.specs.Fmt.{signed_decimal, sign_text}
use Rattle.std.proofs.lemmas.Fmt.{length-decimal-le_wide}
use Rattle.std.proofs.lemmas.Int.{ints}
use Rattle.std.proofs.lemmas.Nat.{pow-add}
use Rattle.std.proofs.Math.Nat.{div-lt_iff_lt-mul, pow-le-pow_right}
use Rattle.byteorder.specs.Endian.{big_number}
use Rattle.plist_value.specs.Plist.{IsWhole}
use Rattle.plist_print.specs.Units.{printed_data}
use Rattle.plist_print.specs.declared.numbers.Format.{Format}
use Rattle.plist_print.specs.Reals.{double, decimal_of, last_digits, printed_decimal, printed_finite, printed_size, printed_real}
use Rattle.plist_print.specs.Dates.{printed_day, printed_time, printed_moment, second_of, in_brackets, printed_date}
use Rattle.plist_print.proofs.Neighbours.{decimal-is, decimal-short, IsFormat, double-format}
use Rattle.plist_print.proofs.Deciding.{some-power}
use Rattle.plist_print.proofs.RealFronts.{last-long}
use Rattle.plist_print.proofs.TextBounds.{if-long, data-long}

-- a decimal has at most 128 bits, and 1 to 21 digits after the decimal point
abbrev Few : Option (ℕ × ℕ) → Type 0
Few None = Unit {0}
Few (Some d) = (d.0 < 2 ^ 128) × (1 ≤ d.1) × (d.1 ≤ 21)

decimal-few : (f : Format) (bits : ℕ) → IsFormat f → (o : Option (ℕ × ℕ)) → decimal_of f bits ≡ o → Few o
decimal-few f bits format None e = tt
decimal-few f bits format (Some d) e =
    let is = decimal-is f bits d.0 d.1 e in (decimal-short f bits d.0 d.1 format is, is.some, is.few)

decimal-long : (n k : ℕ) → n < 2 ^ 128 → 1 ≤ k → k ≤ 21 → length (printed_decimal n k) ≤ 40
decimal-long n k fits some few =
    let places : 39 ≡ (39 - k) + k = omega arith in
    let split : 10 ^ 39 ≡ 10 ^ (39 - k) * 10 ^ k = ap (λ e. 10 ^ e) places ∙ pow-add 10 (39 - k) k in
    let high : n / 10 ^ k < 10 ^ (39 - k) = (div-lt_iff_lt-mul (some-power k)).1 (omega (arith, fits, split)) in
    let places_64 : 39 - k ≤ 64 = omega arith in
    let wide : 10 ^ (39 - k) ≤ 10 ^ 64 = pow-le-pow_right {n = 10} (omega arith) places_64 in
    let whole = length-decimal-le_wide (39 - k) (n / 10 ^ k) (omega arith) high (omega (arith, high, wide)) in
    let behind = last-long k n in
    let all = length-append (decimal (n / 10 ^ k)) (46 ∷ last_digits k n) in
    omega (arith, some, few, whole, behind, all)

finite-long : (xs : List ℕ) (o : Option (ℕ × ℕ)) → length xs ≤ 8 → Few o → length (printed_finite xs o) ≤ 40
finite-long xs (Some d) short few = decimal-long d.0 d.1 few.0 few.1 few.2
finite-long xs None short few =
    let octets = data-long xs in
    let all = length-append (codes "real ") (printed_data xs) in
    omega (arith, short, octets, all)

size-long : (f : Format) (xs : List ℕ) (bits : ℕ) → IsFormat f → length xs ≤ 8 → length (printed_size f xs bits) ≤ 40
size-long f xs bits format short =
    let octets = data-long xs in
    let all = length-append (codes "nan ") (printed_data xs) in
    if-long (nat_lt bits f.infinite) _ _ 40 (finite-long xs (decimal_of f bits) short (decimal-few f bits format (decimal_of f bits) refl)) (if-long (bits == f.infinite) _ _ 40 (omega arith) (omega (arith, short, octets, all)))

sign-long : (negative : Bool) → length (sign_text negative) ≤ 1
sign-long true = omega arith
sign-long false = omega arith

pub real-long : (f : Format) (xs : List ℕ) → IsFormat f → length xs ≤ 8 → length (printed_real f xs) ≤ 41
real-long f xs format short =
    let bits = big_number f.octets xs in
    let sign = sign-long (nat_le f.sign bits) in
    let size = size-long f xs (bits % f.sign) format short in
    simp length-append (omega (arith, sign, size))

day-long : (day : ℕ) → length (printed_day day) ≡ 10
unfolding printed_day
day-long day = simp (length-append, last-long) refl

time-long : (second : ℕ) → length (printed_time second) ≡ 8
unfolding printed_time
time-long second = simp (length-append, last-long) refl

moment-long : (second : ℕ) → length (printed_moment second) ≡ 20
unfolding printed_moment
moment-long second = simp (length-append, day-long, time-long) refl

brackets-long : (moment : Option ℕ) → length (in_brackets moment) ≤ 23
brackets-long None = omega arith
brackets-long (Some second) = simp (length-append, moment-long) (omega arith)

pub date-long : (xs : List ℕ) → length xs ≤ 8 → length (printed_date xs) ≤ 64
date-long xs short =
    let seconds = real-long double xs double-format short in
    let brackets = brackets-long (second_of xs) in
    let all = length-append (printed_real double xs) (in_brackets (second_of xs)) in
    omega (arith, seconds, brackets, all)

pub whole-long : (z : ℤ) → IsWhole z → length (signed_decimal z) ≤ 21
whole-long (pos n) h =
    let most = h.most in let digits = length-decimal-le_wide 20 n (omega arith) (omega (arith, ints)) (omega (arith, ints)) in omega (arith, digits)
whole-long (negsuc n) h =
    let least = h.least in let digits = length-decimal-le_wide 20 (suc n) (omega arith) (omega (arith, ints)) (omega (arith, ints)) in omega (arith, digits)
