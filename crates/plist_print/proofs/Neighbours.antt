-- A decimal reads as only one real.
use Rattle.std.proofs.Common.{◌≡◌, ℕ, zero, suc, ◌+◌, ◌-◌, ◌*◌, ◌/◌, ◌%◌, ◌^◌, ◌<◌, ◌≤◌, true, false, Option, Some, None, refl, sym, ap, subst, ◌∙◌, arith, inl, inr}
use Rattle.std.specs.Prelude.{nat_le, nat_lt}
use Rattle.std.proofs.lemmas.Bool.{cases_Bool, and_parts, cases_lt}
use Rattle.std.proofs.lemmas.Bool.Decides.{nat_tests}
use Rattle.std.proofs.lemmas.Nat.{mul-le, div-mul-add, mod-mul-add, div-add-mod', mod_below}
use Rattle.std.proofs.Math.Nat.{div-lt_iff_lt-mul, pow-le-pow_right}
use Rattle.plist_print.specs.declared.numbers.Format.{Format}
use Rattle.plist_print.specs.Reals.{single, double, Scaled, value_of, nearest, reads_as, shortest, scaled_in, decimal_of}
use Rattle.plist_print.proofs.Compared.{le-told, lt-told, gt-told, ascends}

past-hidden : (h b : ℕ) → h ≤ b → value_of h b ≡ (h + b % h) * 2 ^ (b / h - 1)
unfolding value_of
past-hidden h b le = let is : nat_lt b h ≡ false = grind (arith, nat_tests) in rw is refl

value-within : (h q t : ℕ) → t < h → value_of h (suc q * h + t) ≡ (h + t) * 2 ^ q
value-within h q t lt =
    let d : (suc q * h + t) / h ≡ suc q = div-mul-add (suc q) h t lt in
    let m : (suc q * h + t) % h ≡ t = mod-mul-add (suc q) h t lt in
    let one : suc q - 1 ≡ q = omega arith in
    past-hidden h (suc q * h + t) (grind arith) ∙ rw (d, m, one) refl

-- the value from the exponent and the digits, also where the next exponent begins
pub value-at : (h q t : ℕ) → 0 < h → t ≤ h → value_of h (suc q * h + t) ≡ (h + t) * 2 ^ q
value-at h q t pos le = elim (cases_lt t h) [
  | inl lt ↦ value-within h q t lt
  | inr full ↦ (
      let next : suc q * h + t ≡ suc (suc q) * h + 0 = (let same : suc (suc q) * h ≡ suc q * h + h = grind arith in omega arith) in
      let twice : 2 ^ suc q ≡ 2 * 2 ^ q = omega arith in
      let last : t ≡ h = omega arith in
      rw (next, value-within h (suc q) 0 pos, twice, last) (grind arith)
      )
]

pub below-hidden : (h b : ℕ) → 0 < h → b ≤ h → value_of h b ≡ b
unfolding value_of
below-hidden h b pos le = elim (cases_lt b h) [
  | inl lt ↦ (let is : nat_lt b h ≡ true = grind (arith, nat_tests) in rw is refl)
  | inr last ↦ (let is : b ≡ 1 * h + 0 = omega arith in rw is (value-within h 0 0 pos ∙ omega arith))
]

-- the bits, split into exponent and digits
record Parted (h b : ℕ) : Type 0 where
  q : ℕ
  t : ℕ
  within : t < h
  is : b ≡ suc q * h + t

parted : (h b : ℕ) → 0 < h → h ≤ b → Parted h b
parted h b pos le =
    let whole : b / h * h + b % h ≡ b = div-add-mod' b h in
    let rest : b % h < h = mod_below b h pos in
    by (b / h) (b % h) whole rest
  where
    by : (q t : ℕ) → q * h + t ≡ b → t < h → Parted h b
    by zero t e lt = absurd (omega arith)
    by (suc q) t e lt = record { q = q; t = t; within = lt; is = sym e }

value-step : (h : ℕ) → 0 < h → (b : ℕ) → value_of h b ≤ value_of h (suc b)
value-step h pos b = elim (cases_lt b h) [
  | inl lt ↦ (let x = below-hidden h b pos (omega arith) in let y = below-hidden h (suc b) pos lt in omega arith)
  | inr past ↦ (
      let p = parted h b pos past in
      let next : suc b ≡ suc p.q * h + suc p.t = (let e = p.is in omega arith) in
      let x = ap (value_of h) p.is ∙ value-at h p.q p.t pos (omega (arith, p.within)) in
      let y = ap (value_of h) next ∙ value-at h p.q (suc p.t) pos p.within in
      let z = mul-le (h + p.t) (2 ^ p.q) (h + suc p.t) (2 ^ p.q) (omega arith) (omega arith) in
      omega arith
      )
]

pub value-ascends : (h a b : ℕ) → 0 < h → a ≤ b → value_of h a ≤ value_of h b
value-ascends h a b pos le = ascends (value_of h) (value-step h pos) a b le

-- a decimal that reads as a real is between the midpoints to its neighbours
pub record Between (x : Scaled) (over n : ℕ) : Type 0 where
  pub from : (x.below + x.here) * over ≤ 2 * (n * x.unit)
  pub to : 2 * (n * x.unit) < (x.here + x.above) * over

pub between : (x : Scaled) (over n : ℕ) → reads_as x over n ≡ true → Between x over n
between x over n e =
    let both = and_parts (nat_le ((x.below + x.here) * over) (2 * (n * x.unit))) (nat_lt (2 * (n * x.unit)) ((x.here + x.above) * over)) e in
    record {
      from = le-told ((x.below + x.here) * over) (2 * (n * x.unit)) both.0;
      to = lt-told (2 * (n * x.unit)) ((x.here + x.above) * over) both.1;
    }

not-both : (f : Format) (a b over n : ℕ) → 0 < f.hidden → a < b → reads_as (scaled_in f a) over n ≡ true → reads_as (scaled_in f b) over n ≡ true → ⊥
not-both f a b over n pos lt x y =
    let p = between (scaled_in f a) over n x in
    let q = between (scaled_in f b) over n y in
    let low = value-ascends f.hidden a (b - 1) pos (omega arith) in
    let high = value-ascends f.hidden (suc a) b pos (omega arith) in
    let c = mul-le (value_of f.hidden a + value_of f.hidden (suc a)) over (value_of f.hidden (b - 1) + value_of f.hidden b) over (omega arith) (omega arith) in
    let d = p.to in
    let e = q.from in
    omega arith

pub one-real : (f : Format) (a b over n : ℕ) → 0 < f.hidden → reads_as (scaled_in f a) over n ≡ true → reads_as (scaled_in f b) over n ≡ true → a ≡ b
one-real f a b over n pos x y = elim (cases_lt a b) [
  | inl lt ↦ absurd (not-both f a b over n pos lt x y)
  | inr ge ↦ elim (cases_lt b a) [
    | inl gt ↦ absurd (not-both f b a over n pos gt y x)
    | inr le ↦ omega arith
  ]
]

-- the decimal found reads as the real
record Reads (x : Scaled) (least n k : ℕ) (most : ℕ) : Type 0 where
  some : least ≤ k
  few : k < most
  reads : reads_as x (10 ^ k) n ≡ true

shortest-reads : (x : Scaled) (more digits n k : ℕ) → shortest x more digits ≡ Some (n, k) → Reads x digits n k (digits + more)
shortest-reads x zero digits n k e = absurd (cc)
shortest-reads x (suc more) digits n k e = elim (cases_Bool (reads_as x (10 ^ digits) (nearest x (10 ^ digits)))) [
  | inl is ↦ (
      let found : Some (nearest x (10 ^ digits), digits) ≡ Some (n, k) = rw is at e in
      let same_n : nearest x (10 ^ digits) ≡ n = ap (λ (o : Option (ℕ × ℕ)). numerator o) found in
      let same_k : digits ≡ k = ap (λ (o : Option (ℕ × ℕ)). places o) found in
      record {
        some = omega arith;
        few = omega arith;
        reads = subst (λ (m : ℕ). reads_as x (10 ^ k) m ≡ true) same_n (subst (λ (d : ℕ). reads_as x (10 ^ d) (nearest x (10 ^ digits)) ≡ true) same_k is);
      }
      )
  | inr not ↦ (
      let rest = shortest-reads x more (suc digits) n k (rw not at e) in
      record { some = omega (arith, rest.some); few = omega (arith, rest.few); reads = rest.reads }
      )
]
  where
    numerator : Option (ℕ × ℕ) → ℕ
    numerator None = 0
    numerator (Some d) = d.0

    places : Option (ℕ × ℕ) → ℕ
    places None = 0
    places (Some d) = d.1

pub record IsDecimal (f : Format) (bits n k : ℕ) : Type 0 where
  pub small : bits / f.hidden < f.to
  pub some : 1 ≤ k
  pub few : k ≤ 21
  pub reads : reads_as (scaled_in f bits) (10 ^ k) n ≡ true

pub decimal-is : (f : Format) (bits n k : ℕ) → decimal_of f bits ≡ Some (n, k) → IsDecimal f bits n k
unfolding decimal_of
decimal-is f bits n k e = elim (cases_Bool (nat_lt (bits / f.hidden) f.to)) [
  | inl is ↦ (
      let found = shortest-reads (scaled_in f bits) 21 1 n k (rw is at e) in
      record { small = lt-told (bits / f.hidden) f.to is; some = found.some; few = omega (arith, found.few); reads = found.reads }
      )
  | inr not ↦ absurd (let none : None ≡ Some (n, k) = rw not at e in cc)
]

-- the properties that formats have
pub record IsFormat (f : Format) : Type 0 where
  pub positive : 0 < f.hidden
  pub limit : value_of f.hidden (f.to * f.hidden) ≤ 2 ^ 54 * 2 ^ f.one
  pub halves : (x y : ℕ) → x < 256 ^ f.octets → y < 256 ^ f.octets → nat_le f.sign x ≡ nat_le f.sign y → x % f.sign ≡ y % f.sign → x ≡ y

halves-4 : (x y : ℕ) → x < 4294967296 → y < 4294967296 → nat_le 2147483648 x ≡ nat_le 2147483648 y → x % 2147483648 ≡ y % 2147483648 → x ≡ y
halves-4 x y h k same e = elim (cases_Bool (nat_le 2147483648 x)) [
  | inl high ↦ (let a = le-told 2147483648 x high in let b = le-told 2147483648 y (sym same ∙ high) in omega arith)
  | inr low ↦ (let a = gt-told 2147483648 x low in let b = gt-told 2147483648 y (sym same ∙ low) in omega arith)
]

halves-8 : (x y : ℕ) → x < 18446744073709551616 → y < 18446744073709551616 → nat_le 9223372036854775808 x ≡ nat_le 9223372036854775808 y → x % 9223372036854775808 ≡ y % 9223372036854775808 → x ≡ y
halves-8 x y h k same e = elim (cases_Bool (nat_le 9223372036854775808 x)) [
  | inl high ↦ (let a = le-told 9223372036854775808 x high in let b = le-told 9223372036854775808 y (sym same ∙ high) in omega arith)
  | inr low ↦ (let a = gt-told 9223372036854775808 x low in let b = gt-told 9223372036854775808 y (sym same ∙ low) in omega arith)
]

limit-of : (f : Format) → nat_le (value_of f.hidden (f.to * f.hidden)) (2 ^ 54 * 2 ^ f.one) ≡ true → value_of f.hidden (f.to * f.hidden) ≤ 2 ^ 54 * 2 ^ f.one
limit-of f e = le-told (value_of f.hidden (f.to * f.hidden)) (2 ^ 54 * 2 ^ f.one) e

pub single-format : IsFormat single
unfolding value_of
single-format = record { positive = omega arith; limit = limit-of single refl; halves = halves-4 }

pub double-format : IsFormat double
unfolding value_of
double-format = record { positive = omega arith; limit = limit-of double refl; halves = halves-8 }

-- the numerator of a decimal has at most 128 bits
pub decimal-short : (f : Format) (bits n k : ℕ) → IsFormat f → IsDecimal f bits n k → n < 2 ^ 128
decimal-short f bits n k format is =
    let h = f.hidden in
    let unit = 2 ^ f.one in
    let p = between (scaled_in f bits) (10 ^ k) n is.reads in
    let within : bits < f.to * h = (div-lt_iff_lt-mul {k = h} {x = bits} {y = f.to} format.positive).0 is.small in
    let last = value-ascends h (suc bits) (f.to * h) format.positive (omega arith) in
    let here = value-ascends h bits (suc bits) format.positive (omega arith) in
    let most : value_of h bits + value_of h (suc bits) ≤ 2 * (2 ^ 54 * unit) = (let limit = format.limit in omega arith) in
    let over : (value_of h bits + value_of h (suc bits)) * 10 ^ k ≤ 2 * (2 ^ 54 * unit) * 10 ^ k = mul-le (value_of h bits + value_of h (suc bits)) (10 ^ k) (2 * (2 ^ 54 * unit)) (10 ^ k) most (omega arith) in
    let turned : 2 * (2 ^ 54 * unit) * 10 ^ k ≡ 2 * (2 ^ 54 * 10 ^ k * unit) = grind arith in
    elim (cases_lt n (2 ^ 54 * 10 ^ k)) [
      | inl below ↦ (
          let power : 10 ^ k ≤ 10 ^ 21 = pow-le-pow_right {n = 10} (omega arith) is.few in
          let all : 2 ^ 54 * 10 ^ k ≤ 2 ^ 54 * 10 ^ 21 = mul-le (2 ^ 54) (10 ^ k) (2 ^ 54) (10 ^ 21) (omega arith) power in
          omega arith
          )
      | inr above ↦ absurd (
          let many : 2 ^ 54 * 10 ^ k * unit ≤ n * unit = mul-le (2 ^ 54 * 10 ^ k) unit n unit above (omega arith) in
          let to = p.to in
          omega arith
          )
    ]
