use Rattle.std.proofs.Common.{arith}
use Rattle.std.proofs.lemmas.Bool.Decides.{nat_tests}
use Rattle.plist_print.specs.Dates.{second_of}
use Rattle.plist_print.proofs.dates.second_of.Goals as goal
use Rattle.plist_print.proofs.dates.second_of.Goals.{then-decimal-ne1-via-then-decimal-ne1, then-decimal-ne1-via-else-decimal-ne1+then-decimal-ne0}

pub returns-in_err-decimal-clause-value : goal.returns-in_err-decimal-clause-value
unfolding second_of
returns-in_err-decimal-clause-value c =
    rw (← c.read_u64-bits.ensures, ← c.decimal_of.ensures, c.in_err-decimal.was) c.from_residual.ensures

pub returns-then-decimal-ne1-clause-value : goal.returns-then-decimal-ne1-clause-value
unfolding second_of
returns-then-decimal-ne1-clause-value c =
    rw (← c.read_u64-bits.ensures, ← c.decimal_of.ensures, c.in_ok-decimal.was) (elim c.then-decimal-ne1.branch [
      | then-decimal-ne1-via-then-decimal-ne1 w ↦ grind (arith, nat_tests, w.if-decimal-ne1.true)
      | then-decimal-ne1-via-else-decimal-ne1+then-decimal-ne0 w ↦ grind (arith, nat_tests, w.if-decimal-ne0.true)
    ])

pub returns-clause-value : goal.returns-clause-value
unfolding second_of
returns-clause-value c =
    rw (← c.read_u64-bits.ensures, ← c.decimal_of.ensures, c.in_ok-decimal.was) (grind (arith, nat_tests, c.second_at.ensures.value, c.if-decimal-ne1.false, c.if-decimal-ne0.false))
