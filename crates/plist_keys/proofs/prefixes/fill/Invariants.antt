use Rattle.std.proofs.Common.{◌≡◌, ◌++◌, take, drop, map}
use Rattle.plist_keys.specs.Prefixes.{in_run}
use Rattle.plist_keys.proofs.prefixes.fill.Given as goal

-- the rows so far are numbered, the others are as they were
abbrev pub invariant-loop-row : goal.invariant-loop-row
invariant-loop-row l =
    l.rows ≡ map (in_run l.texts l.start l.front l.width) (take l.row-index l.initial.rows) ++ drop l.row-index l.initial.rows
