-- The decimal of a real does not depend on the unit in which it is counted.
use Rattle.std.proofs.Common.{◌≡◌, ℕ, zero, suc, ◌+◌, ◌-◌, ◌*◌, ◌^◌, ◌<◌, ◌≤◌, min, refl, sym, ap, ◌∙◌, arith, inl, inr}
use Rattle.std.specs.Prelude.{nat_le, nat_lt}
use Rattle.std.proofs.lemmas.Bool.{cases_lt}
use Rattle.std.proofs.lemmas.Bool.Decides.{nat_tests}
use Rattle.std.proofs.lemmas.Nat.{pow-add, pow_pos}
use Rattle.std.proofs.Math.Nat.{mul-div-mul_right, mul-le-mul_right, mul-lt-mul_of_pos_right}
use Rattle.plist_print.specs.declared.numbers.Format.{Format}
use Rattle.plist_print.specs.Reals.{Scaled, value_of, nearest, reads_as, shortest, scaled_in}
use Rattle.plist_print.specs.Shown.{placed}
use Rattle.plist_print.proofs.Neighbours.{value-at}

abbrev scaled : ℕ → Scaled → Scaled
scaled k x = record { below = x.below * k; here = x.here * k; above = x.above * k; unit = x.unit * k }

nearest-scaled : (k over : ℕ) (x : Scaled) → 0 < k → nearest (scaled k x) over ≡ nearest x over
nearest-scaled k over x pos =
    let top : 2 * (x.here * k * over) + x.unit * k ≡ (2 * (x.here * over) + x.unit) * k = grind arith in
    let bottom : 2 * (x.unit * k) ≡ 2 * x.unit * k = grind arith in
    rw (top, bottom) (mul-div-mul_right {m = k} (2 * (x.here * over) + x.unit) (2 * x.unit) pos)

le-scaled : (a b k : ℕ) → 0 < k → nat_le (a * k) (b * k) ≡ nat_le a b
le-scaled a b k pos = elim (cases_lt b a) [
  | inl gt ↦ (let more : b * k < a * k = mul-lt-mul_of_pos_right gt pos in grind (arith, nat_tests))
  | inr le ↦ (let most : a * k ≤ b * k = mul-le-mul_right k le in grind (arith, nat_tests))
]

lt-scaled : (a b k : ℕ) → 0 < k → nat_lt (a * k) (b * k) ≡ nat_lt a b
lt-scaled a b k pos = elim (cases_lt a b) [
  | inl lt ↦ (let less : a * k < b * k = mul-lt-mul_of_pos_right lt pos in grind (arith, nat_tests))
  | inr ge ↦ (let least : b * k ≤ a * k = mul-le-mul_right k ge in grind (arith, nat_tests))
]

reads-scaled : (k over n : ℕ) (x : Scaled) → 0 < k → reads_as (scaled k x) over n ≡ reads_as x over n
reads-scaled k over n x pos =
    let low : (x.below * k + x.here * k) * over ≡ (x.below + x.here) * over * k = grind arith in
    let middle : 2 * (n * (x.unit * k)) ≡ 2 * (n * x.unit) * k = grind arith in
    let high : (x.here * k + x.above * k) * over ≡ (x.here + x.above) * over * k = grind arith in
    rw (low, middle, high, le-scaled ((x.below + x.here) * over) (2 * (n * x.unit)) k pos, lt-scaled (2 * (n * x.unit)) ((x.here + x.above) * over) k pos) refl

shortest-scaled : (k more digits : ℕ) (x : Scaled) → 0 < k → shortest (scaled k x) more digits ≡ shortest x more digits
shortest-scaled k zero digits x pos = refl
shortest-scaled k (suc more) digits x pos =
    rw (nearest-scaled k (10 ^ digits) x pos, reads-scaled k (10 ^ digits) (nearest x (10 ^ digits)) x pos, shortest-scaled k more (suc digits) x pos) refl

-- a real as a multiple of half the distance to the next real
doubled : (h q t m : ℕ) → 0 < h → t ≤ h → m ≡ 2 * (h + t) → value_of h (suc (suc q) * h + t) ≡ m * 2 ^ q
doubled h q t m pos le is =
    let twice : 2 ^ suc q ≡ 2 * 2 ^ q = omega arith in
    value-at h (suc q) t pos le ∙ rw (twice, is) (grind arith)

below-doubled : (h q t : ℕ) → t < h → value_of h (suc (suc q) * h + t - 1) ≡ (2 * (h + t) - 1 - min t 1) * 2 ^ q
below-doubled h q zero lt =
    let before : suc (suc q) * h + 0 - 1 ≡ suc q * h + (h - 1) = (let f : suc (suc q) * h ≡ suc q * h + h = grind arith in omega arith) in
    let same : 2 * (h + 0) - 1 - min 0 1 ≡ h + (h - 1) = omega arith in
    rw (before, same) (value-at h q (h - 1) (omega arith) (omega arith))
below-doubled h q (suc t) lt =
    let before : suc (suc q) * h + suc t - 1 ≡ suc (suc q) * h + t = omega arith in
    rw before (doubled h q t (2 * (h + suc t) - 1 - min (suc t) 1) (omega arith) (omega arith) (omega arith))

pub shortest-placed : (f : Format) (q t shift : ℕ) → 0 < f.hidden → t < f.hidden → shift + q ≡ f.one
    → shortest (scaled_in f (suc (suc q) * f.hidden + t)) 21 1 ≡ shortest (placed (2 * (f.hidden + t) - 1 - min t 1) (2 * (f.hidden + t)) (2 ^ shift)) 21 1
shortest-placed f q t shift pos lt split =
    let one : 2 ^ f.one ≡ 2 ^ shift * 2 ^ q = ap (λ n. 2 ^ n) (sym split) ∙ pow-add 2 shift q in
    let next : suc (suc (suc q) * f.hidden + t) ≡ suc (suc q) * f.hidden + suc t = omega arith in
    let here = doubled f.hidden q t (2 * (f.hidden + t)) pos (omega arith) refl in
    let above = doubled f.hidden q (suc t) (2 * (f.hidden + t) + 2) pos (omega arith) (omega arith) in
    rw (below-doubled f.hidden q t lt, here, next, above, one) (shortest-scaled (2 ^ q) 21 1 (placed (2 * (f.hidden + t) - 1 - min t 1) (2 * (f.hidden + t)) (2 ^ shift)) (pow_pos q))
