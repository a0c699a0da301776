-- Units of two bytes each, big-endian.
use Rattle.std.proofs.Common.{◌≡◌, ℕ, zero, suc, ◌+◌, ◌*◌, ◌/◌, ◌<◌, ◌≤◌, List, [], ◌∷◌, length, slice_index, take, refl, ap, ⊎_elim, arith, Ordering, nat_cmp}
use Rattle.std.specs.Cmp.Lexicographic.{slice_cmp}
use Rattle.std.specs.Ordering.{ordering_then}
use Rattle.std.proofs.lemmas.List.{get_or_past}
use Rattle.std.proofs.lemmas.Bool.{cases_lt}
use Rattle.std.proofs.lemmas.Bool.Decides.{nat_tests}
use Rattle.plist_value.specs.Plist.{AreOctets, AreUnits}
use Rattle.plist_value.specs.Texts.{wide_units}

-- half as many units as bytes
pub length-wide_units : (xs : List ℕ) → length (wide_units xs) ≡ length xs / 2
length-wide_units (x ∷ y ∷ rest) = let half = length-wide_units rest in omega arith
length-wide_units _ = refl

-- the unit at position i is in the two bytes from j on, where j is twice i
pub wide_units-at : (xs : List ℕ) (i j : ℕ) → j ≡ 2 * i → i < length (wide_units xs) → slice_index (wide_units xs) i ≡ 256 * slice_index xs j + slice_index xs (suc j)
wide_units-at (x ∷ y ∷ rest) zero zero twice h = refl
wide_units-at (x ∷ y ∷ rest) (suc i) (suc (suc j)) twice h =
    wide_units-at rest i j (omega arith) (omega arith)
wide_units-at _ _ _ twice h = absurd (omega arith)

-- units read from bytes are units
pub AreUnits-wide_units : (xs : List ℕ) → AreOctets xs → AreUnits (wide_units xs)
AreUnits-wide_units xs octets i =
    ⊎_elim
    (λ (h : i < length (wide_units xs)).
    let at = wide_units-at xs i (2 * i) refl h in
    omega (arith, octets (2 * i), octets (suc (2 * i))))
    (λ (h : length (wide_units xs) ≤ i). let past = get_or_past (wide_units xs) i 0 h in omega arith)
    (cases_lt i (length (wide_units xs)))

-- strings share their first units if they share the bytes of these
pub take-wide_units : (i bytes : ℕ) (xs : List ℕ) → bytes ≡ 2 * i → take i (wide_units xs) ≡ wide_units (take bytes xs)
take-wide_units zero zero xs twice = refl
take-wide_units (suc i) (suc (suc bytes)) [] twice = refl
take-wide_units (suc i) (suc (suc bytes)) (x ∷ []) twice = refl
take-wide_units (suc i) (suc (suc bytes)) (high ∷ low ∷ xs) twice =
    ap (λ (units : List ℕ). (256 * high + low) ∷ units) (take-wide_units i bytes xs (omega arith))
take-wide_units _ _ _ twice = absurd (omega arith)

-- the order of two units is that of their first bytes, and else that of their second
pair_cmp : (a b c d : ℕ) (rest : Ordering) → b < 256 → d < 256 → ordering_then (nat_cmp (256 * a + b) (256 * c + d)) rest ≡ ordering_then (nat_cmp a c) (ordering_then (nat_cmp b d) rest)
pair_cmp a b c d rest low other = grind (arith, nat_tests)

-- units compare as the bytes of whole pairs do
pub slice_cmp-pairs : (m n : ℕ) (xs ys : List ℕ) → m ≡ length xs / 2 * 2 → n ≡ length ys / 2 * 2 → AreOctets xs → AreOctets ys → slice_cmp nat_cmp (take m xs) (take n ys) ≡ slice_cmp nat_cmp (wide_units xs) (wide_units ys)
slice_cmp-pairs zero zero [] [] e g h k = refl
slice_cmp-pairs zero zero [] (y ∷ []) e g h k = refl
slice_cmp-pairs zero zero (x ∷ []) [] e g h k = refl
slice_cmp-pairs zero zero (x ∷ []) (y ∷ []) e g h k = refl
slice_cmp-pairs zero (suc (suc n)) [] (c ∷ d ∷ ys) e g h k = refl
slice_cmp-pairs zero (suc (suc n)) (x ∷ []) (c ∷ d ∷ ys) e g h k = refl
slice_cmp-pairs (suc (suc m)) zero (a ∷ b ∷ xs) [] e g h k = refl
slice_cmp-pairs (suc (suc m)) zero (a ∷ b ∷ xs) (y ∷ []) e g h k = refl
slice_cmp-pairs (suc (suc m)) (suc (suc n)) (a ∷ b ∷ xs) (c ∷ d ∷ ys) e g h k =
    let rest = slice_cmp-pairs m n xs ys (omega arith) (omega arith) (λ i. h (suc (suc i))) (λ i. k (suc (suc i))) in
    rw (rest, pair_cmp a b c d (slice_cmp nat_cmp (wide_units xs) (wide_units ys)) (h 1) (k 1)) refl
slice_cmp-pairs _ _ _ _ e g h k = absurd (omega arith)
