use Rattle.std.proofs.Common.{ℕ, List, length, ◌++◌}
use Rattle.ostep_lex.specs.Quoted.{Run}
use Rattle.ostep_lex.specs.Cursor.{ahead, SameInput}
use Rattle.ostep_lex.proofs.quoted.run.Given as goal

abbrev pub invariant-loop-c : goal.invariant-loop-c
invariant-loop-c l = ((more end : List ℕ) → Run (ahead l.rest) more end → Run (ahead l.cursor) (l.units.items ++ more) end) × SameInput l.cursor l.rest

abbrev pub decreases-loop-c : goal.decreases-loop-c
decreases-loop-c l = length (ahead l.rest)
