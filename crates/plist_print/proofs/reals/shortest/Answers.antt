use Rattle.std.proofs.Common.{sym, ◌∙◌, arith}
use Rattle.plist_print.specs.Shown.{placed}
use Rattle.plist_print.proofs.Deciding.{small-power, shortest-found, shortest-more}
use Rattle.plist_print.proofs.reals.shortest.Goals as goal

pub pow-requires : goal.pow-requires
pow-requires c = omega (arith, small-power c.loop-digits.digits (omega arith))

pub numerator_at-requires-clause-over : goal.numerator_at-requires-clause-over
numerator_at-requires-clause-over c = omega (arith, c.pow.ensures, small-power c.loop-digits.digits (omega arith))

pub returns-in-Some : goal.returns-in-Some
returns-in-Some c =
    let x = placed c.args.below c.args.here c.args.unit in
    sym (shortest-found x c.loop-digits.digits c.in-Some.numerator c.loop-digits-test.true (rw c.pow.ensures at c.in-Some.ensures)) ∙ c.loop-digits.invariant

pub loop-digits-preserved : goal.loop-digits-preserved
loop-digits-preserved c =
    let x = placed c.args.below c.args.here c.args.unit in
    let none = rw c.pow.ensures at (sym c.in_default.is ∙ c.numerator_at.ensures) in
    sym (shortest-more x c.loop-digits.digits c.loop-digits-test.true none) ∙ c.loop-digits.invariant
