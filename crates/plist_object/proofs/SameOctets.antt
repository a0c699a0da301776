-- Bytes are determined by the number that they encode.
use Rattle.std.proofs.Common.{◌≡◌, ℕ, zero, suc, ◌+◌, ◌*◌, ◌/◌, ◌%◌, ◌^◌, ◌<◌, ◌≤◌, List, [], ◌∷◌, length, take, drop, refl, sym, ap, ◌∙◌, arith, length-drop}
use Rattle.std.proofs.Math.Arith.{digits_div, digits_mod}
use Rattle.std.proofs.Math.Nat.{mod-lt}
use Rattle.std.proofs.Math.Seq.{take-add}
use Rattle.std.proofs.lemmas.List.{length-take-le, get_or-drop}
use Rattle.byteorder.specs.Endian.{big_from, big_number, big_bytes}
use Rattle.byteorder.specs.Numbers.{big_from-cons, big_from-lt, big_from-take, length-bytes_high_first}
use Rattle.plist_value.specs.Plist.{AreOctets}
use Rattle.plist_value.specs.Texts.{wide_units}
use Rattle.plist_object.specs.Objects.{numbers}
use Rattle.plist_object.specs.Spelling.{references}
use Rattle.plist_object.proofs.ReadBack.{big_number-big_bytes}

-- equally many bytes that encode the same number are equal
same_octets : (w : ℕ) (xs ys : List ℕ) → length xs ≡ w → length ys ≡ w → AreOctets xs → AreOctets ys → big_number w xs ≡ big_number w ys → xs ≡ ys
same_octets zero [] [] long_xs long_ys octets_xs octets_ys same = refl
same_octets (suc w) (x ∷ xs) (y ∷ ys) long_xs long_ys octets_xs octets_ys same =
    let rest_xs : big_from 1 w (x ∷ xs) ≡ big_from 0 w xs = big_from-cons 0 w x xs in
    let rest_ys : big_from 1 w (y ∷ ys) ≡ big_from 0 w ys = big_from-cons 0 w y ys in
    let under_xs : big_from 0 w xs < 256 ^ w = big_from-lt 0 w xs (λ i. octets_xs (suc i)) in
    let under_ys : big_from 0 w ys < 256 ^ w = big_from-lt 0 w ys (λ i. octets_ys (suc i)) in
    let both : x * 256 ^ w + big_from 0 w xs ≡ y * 256 ^ w + big_from 0 w ys = rw (rest_xs, rest_ys) at same in
    let first : x ≡ y = sym (digits_div x under_xs) ∙ ap (λ (n : ℕ). n / 256 ^ w) both ∙ digits_div y under_ys in
    let others : big_from 0 w xs ≡ big_from 0 w ys = sym (digits_mod x under_xs) ∙ ap (λ (n : ℕ). n % 256 ^ w) both ∙ digits_mod y under_ys in
    let tails = same_octets w xs ys (omega arith) (omega arith) (λ i. octets_xs (suc i)) (λ i. octets_ys (suc i)) others in
    rw (first, tails) refl
same_octets _ _ _ long_xs long_ys octets_xs octets_ys same = absurd (omega arith)

AreOctets-big_bytes : (w n : ℕ) → AreOctets (big_bytes w n)
AreOctets-big_bytes zero n i = omega arith
AreOctets-big_bytes (suc zero) n zero = mod-lt n (omega arith)
AreOctets-big_bytes (suc (suc w)) n zero = mod-lt (n / 256 ^ suc w) (omega arith)
AreOctets-big_bytes (suc w) n (suc i) = AreOctets-big_bytes w n i

pub AreOctets-take : (n : ℕ) (xs : List ℕ) → AreOctets xs → AreOctets (take n xs)
AreOctets-take (suc n) (x ∷ xs) octets zero = octets zero
AreOctets-take (suc n) (x ∷ xs) octets (suc i) = AreOctets-take n xs (λ j. octets (suc j)) i
AreOctets-take _ _ octets i = omega arith

pub AreOctets-drop : (n : ℕ) (xs : List ℕ) → AreOctets xs → AreOctets (drop n xs)
AreOctets-drop n xs octets i = rw (get_or-drop n xs i 0) (octets (n + i))

-- encoding the number that the first bytes encode gives those bytes
pub big_bytes-big_number : (w : ℕ) (xs : List ℕ) → AreOctets xs → w ≤ length xs → big_bytes w (big_number w xs) ≡ take w xs
big_bytes-big_number w xs octets long =
    let first : big_number w (take w xs) ≡ big_number w xs = big_from-take 0 w w xs (omega arith) in
    let back : big_number w (big_bytes w (big_number w xs)) ≡ big_number w xs = big_number-big_bytes w (big_number w xs) (big_from-lt 0 w xs octets) in
    same_octets w (big_bytes w (big_number w xs)) (take w xs) (length-bytes_high_first w (big_number w xs)) (length-take-le w xs long) (AreOctets-big_bytes w (big_number w xs)) (AreOctets-take w xs octets) (back ∙ sym first)

-- encoding decoded numbers gives their bytes
pub references-numbers : (w n : ℕ) (xs : List ℕ) → AreOctets xs → n * w ≤ length xs → references w (numbers w n xs) ≡ take (n * w) xs
references-numbers w zero xs octets long = let none : 0 * w ≡ 0 = omega arith in rw none refl
references-numbers w (suc n) xs octets long =
    let all : suc n * w ≡ w + n * w = omega arith in
    let first = big_bytes-big_number w xs octets (omega arith) in
    let others = references-numbers w n (drop w xs) (AreOctets-drop w xs octets) (omega (arith, length-drop w xs)) in
    rw (first, others, all) (sym (take-add w (n * w) xs))

-- encoding decoded units gives their bytes
pub references-wide_units : (n : ℕ) (xs : List ℕ) → AreOctets xs → length xs ≡ n * 2 → references 2 (wide_units xs) ≡ xs
references-wide_units n [] octets long = refl
references-wide_units (suc n) (x ∷ y ∷ rest) octets long =
    let under_x : x < 256 = octets 0 in
    let under_y : y < 256 = octets 1 in
    let high : (256 * x + y) / 256 ^ 1 % 256 ≡ x = omega arith in
    let low : (256 * x + y) % 256 ≡ y = omega arith in
    let others = references-wide_units n rest (λ i. octets (suc (suc i))) (omega arith) in
    rw (high, low, others) refl
references-wide_units _ _ octets long = absurd (omega arith)
