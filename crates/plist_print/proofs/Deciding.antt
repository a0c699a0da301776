-- The decimal that is found for a real.
use Rattle.std.proofs.Common.{◌≡◌, ℕ, zero, suc, ◌+◌, ◌-◌, ◌*◌, ◌/◌, ◌%◌, ◌^◌, ◌<◌, ◌≤◌, min, true, Option, Some, None, refl, sym, ap, ◌∙◌, arith, inl, inr}
use Rattle.std.specs.Prelude.{nat_lt}
use Rattle.std.proofs.lemmas.Bool.{cases_Bool, cases_lt}
use Rattle.std.proofs.lemmas.Nat.{mul-le, div-add-mod', mod_below, pow-add, pow_pos}
use Rattle.std.proofs.Math.Nat.{pow-le-pow_right, div-lt_iff_lt-mul}
use Rattle.plist_print.specs.declared.numbers.Format.{Format}
use Rattle.plist_print.specs.Reals.{Scaled, value_of, nearest, reads_as, shortest, scaled_in, decimal_of}
use Rattle.plist_print.specs.Shown.{Fits, placed, tried}
use Rattle.plist_print.proofs.Scaling.{shortest-placed}
use Rattle.plist_print.proofs.Neighbours.{between, below-hidden, value-at, value-ascends, decimal-is}
use Rattle.plist_print.proofs.Compared.{lt-denied, lt-tells}

pub small-power : (digits : ℕ) → digits ≤ 21 → 10 ^ digits ≤ 1000000000000000000000
small-power digits h = pow-le-pow_right {n = 10} (omega arith) h

pub some-power : (digits : ℕ) → 0 < 10 ^ digits
some-power zero = omega arith
some-power (suc digits) = let e : 10 ^ suc digits ≡ 10 * 10 ^ digits = omega arith in let h = some-power digits in omega arith

-- a numerator is found
pub shortest-found : (x : Scaled) (digits n : ℕ) → digits < 22 → Some n ≡ tried x (10 ^ digits) → shortest x (22 - digits) digits ≡ Some (n, digits)
shortest-found x digits n h e =
    let left : 22 - digits ≡ suc (21 - digits) = omega arith in
    elim (cases_Bool (reads_as x (10 ^ digits) (nearest x (10 ^ digits)))) [
      | inl is ↦ (let same : Some n ≡ Some (nearest x (10 ^ digits)) = rw is at e in rw (left, is) cc)
      | inr not ↦ absurd (let none : Some n ≡ None = rw not at e in cc)
    ]

-- none is found, so one more digit is tried
pub shortest-more : (x : Scaled) (digits : ℕ) → digits < 22 → None ≡ tried x (10 ^ digits) → shortest x (22 - digits) digits ≡ shortest x (22 - (digits + 1)) (digits + 1)
shortest-more x digits h e =
    let left : 22 - digits ≡ suc (22 - (digits + 1)) = omega arith in
    let next : digits + 1 ≡ suc digits = omega arith in
    elim (cases_Bool (reads_as x (10 ^ digits) (nearest x (10 ^ digits)))) [
      | inl is ↦ absurd (let some : None ≡ Some (nearest x (10 ^ digits)) = rw is at e in cc)
      | inr not ↦ rw (left, not, next) refl
    ]

-- all were tried
pub shortest-none : (x : Scaled) (digits : ℕ) → 22 ≤ digits → shortest x (22 - digits) digits ≡ None
shortest-none x digits h = let none : 22 - digits ≡ 0 = omega arith in rw none refl

pub decimal-zero : (f : Format) → Fits f → decimal_of f 0 ≡ Some (0, 1)
unfolding decimal_of
decimal-zero f fits =
    let unit = 2 ^ f.one in
    let to : nat_lt (0 / f.hidden) f.to ≡ true = lt-tells (0 / f.hidden) f.to (omega (arith, fits.least, fits.to)) in
    let here : value_of f.hidden 0 ≡ 0 = below-hidden f.hidden 0 fits.least (omega arith) in
    let above : value_of f.hidden 1 ≡ 1 = below-hidden f.hidden 1 fits.least fits.least in
    let some : 0 < unit = pow_pos f.one in
    let less : (0 + unit) / (2 * unit) < 1 = (div-lt_iff_lt-mul {k = 2 * unit} {x = 0 + unit} {y = 1} (omega arith)).1 (omega arith) in
    let none : (0 + unit) / (2 * unit) ≡ 0 = omega arith in
    let low : 0 * unit ≡ 0 = omega arith in
    rw (to, here, above, none, low) refl

-- a real out of the range of the format
pub decimal-high : (f : Format) (bits : ℕ) → f.to ≤ bits / f.hidden → decimal_of f bits ≡ None
unfolding decimal_of
decimal-high f bits high = rw (lt-denied (bits / f.hidden) f.to high) refl

-- a real above 0 that is less than half of the last of 21 digits has no decimal
pub decimal-low : (f : Format) (bits : ℕ) → Fits f → 0 < bits → bits / f.hidden < f.one - 124 → (o : Option (ℕ × ℕ)) → decimal_of f bits ≡ o → decimal_of f bits ≡ None
decimal-low f bits fits some low None e = e
decimal-low f bits fits some low (Some (n, k)) e =
    let h = f.hidden in
    let q = f.one - 125 in
    let is = decimal-is f bits n k e in
    let p = between (scaled_in f bits) (10 ^ k) n is.reads in
    let first : suc q ≡ f.one - 124 = omega (arith, fits.one) in
    let within : bits < suc q * h = (div-lt_iff_lt-mul {k = h} {x = bits} {y = suc q} (omega (arith, fits.least))).0 (omega arith) in
    let last = value-at h q 0 fits.least (omega arith) in
    let one = value-ascends h 1 bits fits.least some in
    let least = below-hidden h 1 fits.least fits.least in
    let here = value-ascends h bits (suc bits) fits.least (omega arith) in
    let above = value-ascends h (suc bits) (suc q * h + 0) fits.least (omega arith) in
    let over : 10 ^ k ≤ 10 ^ 21 = small-power k is.few in
    let unit : 2 ^ f.one ≡ 2 ^ 125 * 2 ^ q = (let all : f.one ≡ 125 + q = omega (arith, fits.one) in ap (λ m. 2 ^ m) all ∙ pow-add 2 125 q) in
    let some-q : 0 < 2 ^ q = pow_pos q in
    let high = mul-le (h + 0) (2 ^ q) (2 ^ 52) (2 ^ q) (omega (arith, fits.most)) (omega arith) in
    let wide = mul-le (value_of h bits + value_of h (suc bits)) (10 ^ k) (2 * (2 ^ 52 * 2 ^ q)) (10 ^ 21) (omega arith) over in
    let narrow = mul-le 1 1 (value_of h (bits - 1) + value_of h bits) (10 ^ k) (omega arith) (some-power k) in
    elim (cases_lt 0 n) [
      | inl more ↦ absurd (let most = mul-le 1 (2 ^ f.one) n (2 ^ f.one) more (omega arith) in omega (arith, p.to))
      | inr none ↦ absurd (let empty : n ≡ 0 = omega arith in let nothing = ap (λ m. m * 2 ^ f.one) empty in omega (arith, p.from))
    ]

-- a real in the range of the format
pub decimal-near : (f : Format) (bits q shift below here : ℕ) → 0 < f.hidden → bits / f.hidden ≡ suc (suc q) → suc (suc q) < f.to → shift + q ≡ f.one → here ≡ 2 * (f.hidden + bits % f.hidden) → below ≡ here - 1 - min (bits % f.hidden) 1
    → decimal_of f bits ≡ shortest (placed below here (2 ^ shift)) 21 1
unfolding decimal_of
decimal-near f bits q shift below here pos e high split is was =
    let whole : bits ≡ suc (suc q) * f.hidden + bits % f.hidden = sym (div-add-mod' bits f.hidden) ∙ ap (λ m. m * f.hidden + bits % f.hidden) e in
    let to : nat_lt (bits / f.hidden) f.to ≡ true = ap (λ m. nat_lt m f.to) e ∙ lt-tells (suc (suc q)) f.to high in
    rw (to, was, is) (ap (λ b. shortest (scaled_in f b) 21 1) whole ∙ shortest-placed f q (bits % f.hidden) shift pos (mod_below bits f.hidden pos) split)
