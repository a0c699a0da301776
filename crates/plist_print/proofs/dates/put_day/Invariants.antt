use Rattle.std.proofs.Common.{◌≡◌, ◌+◌, ◌-◌, ◌≤◌}
use Rattle.plist_print.specs.Dates.{days_before, days_of_months}
use Rattle.plist_print.proofs.dates.put_day.Given as goal

abbrev pub invariant-loop-left : goal.invariant-loop-left
invariant-loop-left l = record {
  some : 1 ≤ l.month;
  most : l.month ≤ 12;
  behind : days_before l.year + days_of_months l.year (l.month - 1) + l.left ≡ l.fn.day;
}

abbrev pub decreases-loop-left : goal.decreases-loop-left
decreases-loop-left l = 12 - l.month
