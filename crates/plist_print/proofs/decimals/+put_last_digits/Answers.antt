use Rattle.std.proofs.Common.{◌≡◌, ℕ, zero, suc, ◌+◌, ◌*◌, ◌/◌, ◌%◌, ◌^◌, [], ◌∷◌, ◌++◌, ◌-◌, refl, sym, arith, append_assoc}
use Rattle.std.proofs.lemmas.List.{append-nil}
use Rattle.std.proofs.Math.Nat.{div-div-eq-div-mul}
use Rattle.plist_print.specs.Reals.{last_digits}
use Rattle.plist_print.proofs.decimals.+put_last_digits.Goals as goal

-- the last of the last digits
last-back : (k n : ℕ) → last_digits (suc k) n ≡ last_digits k (n / 10) ++ ((48 + n % 10) ∷ [])
unfolding last_digits
last-back zero n = let one : n / 10 ^ 0 ≡ n = omega arith in rw one refl
last-back (suc k) n =
    let power : 10 ^ suc k ≡ 10 * 10 ^ k = omega arith in
    rw (last-back k n, power, ← div-div-eq-div-mul n 10 (10 ^ k)) refl

none : (n : ℕ) → last_digits 0 n ≡ []
unfolding last_digits
none n = refl

pub returns-then-digits-eq0 : goal.returns-then-digits-eq0
returns-then-digits-eq0 t c = rw (c.if-digits-eq0.true, none) (sym (append-nil c.args.out.now.items))

pub returns : goal.returns
returns t c =
    let more : c.args.digits ≡ suc (c.args.digits - 1) = omega arith in
    rw (more, last-back, c.in_ok-push.ensures.items, c.in_ok-put_last_digits.ensures) (append_assoc c.args.out.now.items _ _)
