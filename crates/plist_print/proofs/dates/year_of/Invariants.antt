use Rattle.std.proofs.Common.{◌-◌, ◌≤◌}
use Rattle.plist_print.specs.Dates.{days_before}
use Rattle.plist_print.proofs.dates.year_of.Given as goal

abbrev pub invariant-loop-year : goal.invariant-loop-year
invariant-loop-year l = record { some : 1 ≤ l.year; most : l.year ≤ 9999; begun : days_before l.year ≤ l.day }

abbrev pub decreases-loop-year : goal.decreases-loop-year
decreases-loop-year l = 9999 - l.year
