use Rattle.std.proofs.Common.{◌≤◌, ◌-◌, length}
use Rattle.plist_keys.proofs.SortedRuns.{AreRunsSorted}
use Rattle.plist_keys.proofs.prefixes.sort_runs.Given as goal

abbrev pub invariant-loop-start : goal.invariant-loop-start
invariant-loop-start l = record {
  within : l.start ≤ length l.initial.rows;
  so_far : AreRunsSorted l.texts l.start l.initial.rows l.rows;
}

abbrev pub decreases-loop-start : goal.decreases-loop-start
decreases-loop-start l = length l.initial.rows - l.start
