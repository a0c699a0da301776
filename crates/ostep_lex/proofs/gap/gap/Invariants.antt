use Rattle.std.proofs.Common.{ℕ, List, length}
use Rattle.ostep_lex.specs.Gap.{Gap}
use Rattle.ostep_lex.specs.Cursor.{ahead, SameInput}
use Rattle.ostep_lex.proofs.gap.gap.Given as goal

abbrev pub invariant-loop-after : goal.invariant-loop-after
invariant-loop-after l = ((end : List ℕ) → Gap (ahead l.rest) end → Gap (ahead l.cursor) end) × SameInput l.cursor l.rest

abbrev pub decreases-loop-after : goal.decreases-loop-after
decreases-loop-after l = length (ahead l.rest)
