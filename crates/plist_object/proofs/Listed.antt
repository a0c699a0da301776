-- Contiguous numbers of one width.
use Rattle.std.proofs.Common.{◌≡◌, ℕ, zero, suc, ◌+◌, ◌-◌, ◌*◌, ◌<◌, ◌≤◌, List, length, take, drop, slice_index, refl, ap, subst, ◌∙◌, arith}
use Rattle.std.proofs.Math.Nat.{mul-le-mul_right}
use Rattle.std.proofs.lemmas.List.{drop-drop, drop-take}
use Rattle.byteorder.specs.Numbers.{big_from-take}
use Rattle.byteorder.specs.Endian.{big_number}
use Rattle.plist_object.specs.Objects.{numbers}

pub length-numbers : (width n : ℕ) (xs : List ℕ) → length (numbers width n xs) ≡ n
length-numbers width zero xs = refl
length-numbers width (suc n) xs = ap suc (length-numbers width n (drop width xs))

-- number i is after the i numbers before it
pub numbers-at : (width n i : ℕ) (xs : List ℕ) → i < n → slice_index (numbers width n xs) i ≡ big_number width (drop (i * width) xs)
numbers-at width zero i xs h = absurd (omega arith)
numbers-at width (suc n) zero xs h = let none : 0 * width ≡ 0 = omega arith in rw none refl
numbers-at width (suc n) (suc i) xs h =
    let behind : width + i * width ≡ suc i * width = omega arith in
    numbers-at width n i (drop width xs) (omega arith) ∙ ap (big_number width) (drop-drop (i * width) width xs ∙ ap (λ (k : ℕ). drop k xs) behind)

-- the bytes of number i are within those of n numbers
pub number_within : (width n i : ℕ) → i < n → i * width + width ≤ n * width
number_within width n i h =
    let below = mul-le-mul_right width h in
    let next : suc i * width ≡ i * width + width = omega arith in
    omega arith

-- further bytes do not change the first numbers
pub numbers-take : (width n m : ℕ) (xs : List ℕ) → n * width ≤ m → numbers width n (take m xs) ≡ numbers width n xs
numbers-take width zero m xs h = refl
numbers-take width (suc n) m xs h =
    let all : suc n * width ≡ width + n * width = omega arith in
    let rest : width + (m - width) ≡ m = omega arith in
    let first : big_number width (take m xs) ≡ big_number width xs = big_from-take 0 width m xs (omega arith) in
    let behind : drop width (take m xs) ≡ take (m - width) (drop width xs) = subst (λ (k : ℕ). drop width (take k xs) ≡ take (m - width) (drop width xs)) rest (drop-take width (m - width) xs) in
    let later = numbers-take width n (m - width) (drop width xs) (omega arith) in
    rw (first, behind, later) refl
