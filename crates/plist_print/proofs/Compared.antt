-- What comparisons of two numbers imply.
use Rattle.std.proofs.Common.{◌≡◌, ℕ, zero, suc, ◌<◌, ◌≤◌, true, false, arith, inl, inr}
use Rattle.std.specs.Prelude.{nat_le, nat_lt, ◌==◌}
use Rattle.std.proofs.lemmas.Bool.{cases_lt}
use Rattle.std.proofs.lemmas.Bool.Decides.{nat_tests}

pub le-tells : (a b : ℕ) → a ≤ b → nat_le a b ≡ true
le-tells a b h = grind (arith, nat_tests)

pub le-denied : (a b : ℕ) → b < a → nat_le a b ≡ false
le-denied a b h = grind (arith, nat_tests)

pub le-told : (a b : ℕ) → nat_le a b ≡ true → a ≤ b
le-told a b e = grind (arith, nat_tests)

pub gt-told : (a b : ℕ) → nat_le a b ≡ false → b < a
gt-told a b e = grind (arith, nat_tests)

pub lt-tells : (a b : ℕ) → a < b → nat_lt a b ≡ true
lt-tells a b h = grind (arith, nat_tests)

pub lt-denied : (a b : ℕ) → b ≤ a → nat_lt a b ≡ false
lt-denied a b h = grind (arith, nat_tests)

pub lt-told : (a b : ℕ) → nat_lt a b ≡ true → a < b
lt-told a b e = grind (arith, nat_tests)

pub equal : (a b : ℕ) → (a == b) ≡ true → a ≡ b
equal a b e = grind (arith, nat_tests)

pub unlike : (a b : ℕ) → (a == b) ≡ false → a ≡ b → ⊥
unlike a b e = grind (arith, nat_tests)

pub is-denied : (a b : ℕ) → (a ≡ b → ⊥) → (a == b) ≡ false
is-denied a b h = grind (arith, nat_tests)

-- a function that falls at no step
pub ascends : (f : ℕ → ℕ) → ((n : ℕ) → f n ≤ f (suc n)) → (a b : ℕ) → a ≤ b → f a ≤ f b
ascends f step a zero le = let same : a ≡ 0 = omega arith in rw same (omega arith)
ascends f step a (suc b) le = elim (cases_lt a (suc b)) [
  | inl lt ↦ (let before = ascends f step a b (omega arith) in let last = step b in omega arith)
  | inr ge ↦ (let same : a ≡ suc b = omega arith in rw same (omega arith))
]
