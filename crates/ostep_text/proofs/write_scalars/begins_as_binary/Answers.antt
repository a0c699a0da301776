use Rattle.std.proofs.Common.{◌≡◌, ℕ, ◌+◌, ◌<◌, ◌≤◌, Bool, List, drop, length, get_or, true, false, refl, sym, ◌∙◌, arith, add-one, drop-cons}
use Rattle.std.specs.Prelude.{codes, nat_eq, ◌&&◌}
use Rattle.std.specs.List.{starts_with}
use Rattle.std.proofs.lemmas.List.{drop_all}
use Rattle.std.proofs.lemmas.Bool.Decides.{nat_tests}
use Rattle.plist_value.specs.Texts.{units_of}
use Rattle.ostep_text.proofs.write_scalars.begins_as_binary.Goals as goal

abbrev begins : List ℕ → ℕ → Bool
begins us i = starts_with nat_eq (drop i us) (drop i (codes "bplist"))

more : (us : List ℕ) (i : ℕ) → i < 6 → i < length us → begins us i ≡ nat_eq (get_or (codes "bplist") i 0) (get_or us i 0) && begins us (i + 1)
more us i h k = rw (add-one, drop-cons us i 0, drop-cons (codes "bplist") i 0) refl

past : (us : List ℕ) (i : ℕ) → i < 6 → length us ≤ i → begins us i ≡ false
past us i h k = rw (drop_all i us k, drop-cons (codes "bplist") i 0) refl

same : (us : List ℕ) (i : ℕ) → i < 6 → i < length us → get_or us i 0 ≡ get_or (codes "bplist") i 0 → begins us (i + 1) ≡ begins us i
same us i h k e =
    let one : nat_eq (get_or (codes "bplist") i 0) (get_or us i 0) ≡ true = grind (arith, nat_tests) in
    sym (more us i h k ∙ rw one refl)

other : (us : List ℕ) (i : ℕ) → i < 6 → i < length us → (get_or us i 0 ≡ get_or (codes "bplist") i 0 → ⊥) → begins us i ≡ false
other us i h k e =
    let one : nat_eq (get_or (codes "bplist") i 0) (get_or us i 0) ≡ false = grind (arith, nat_tests) in
    more us i h k ∙ rw one refl

pub loop-i-preserved : goal.loop-i-preserved
loop-i-preserved c = same (units_of c.args.text.now) c.loop-i.i (omega arith) (omega arith) (cc) ∙ c.loop-i.invariant

pub returns-then-i-len : goal.returns-then-i-len
returns-then-i-len c = sym (past (units_of c.args.text.now) c.loop-i.i (omega arith) (omega arith)) ∙ c.loop-i.invariant

pub returns-then-unit-i : goal.returns-then-unit-i
returns-then-unit-i c = sym (other (units_of c.args.text.now) c.loop-i.i (omega arith) (omega arith) (λ e. c.if-unit-i.true (c.unit.ensures ∙ e))) ∙ c.loop-i.invariant
