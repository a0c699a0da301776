-- The table of hexadecimal digits.
use Rattle.std.proofs.Common.{◌≡◌, ℕ, zero, suc, ◌-◌, ◌<◌, Bool, true, false, ◌&&◌, T, eqb, get_or, inl, inr, arith, eqb→eq, eq-zero-or-pos}
use Rattle.std.specs.Char.{digit_char}
use Rattle.plist_value.specs.declared.hexadecimal.TheConstants.{DIGITS}

both : (a b : Bool) → T (a && b) → T a × T b
both true b t = (tt, t)
both false b t = absurd t

abbrev are_digits : ℕ → Bool
are_digits zero = true
are_digits (suc n) = eqb (get_or DIGITS n 0) (digit_char n) && are_digits n

below : (m n : ℕ) → T (are_digits m) → n < m → get_or DIGITS n 0 ≡ digit_char n
below zero n t h = absurd (omega arith)
below (suc m) n t h =
    let parts = both (eqb (get_or DIGITS m 0) (digit_char m)) (are_digits m) t in
    elim (eq-zero-or-pos (m - n)) [
      | inl z ↦ let e : n ≡ m = omega arith in rw e (eqb→eq _ _ parts.0)
      | inr g ↦ below m n parts.1 (omega arith)
    ]

pub DIGITS_at : (n : ℕ) → n < 16 → get_or DIGITS n 0 ≡ digit_char n
DIGITS_at n h = below 16 n tt h
