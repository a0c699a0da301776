use Rattle.std.proofs.Common.{sym, arith}
use Rattle.plist_print.proofs.Calendar.{year-is}
use Rattle.plist_print.proofs.dates.year_of.Goals as goal

pub returns-clause-value : goal.returns-clause-value
returns-clause-value c =
    let kept = c.loop-year.invariant in
    sym (year-is c.args.day c.loop-year.year kept.some kept.most kept.begun (omega (arith, c.days_before.ensures)))
