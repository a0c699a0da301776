use Rattle.std.proofs.Common.{ℕ, List, length}
use Rattle.ostep_lex.specs.Stands.{White}
use Rattle.ostep_lex.specs.Cursor.{ahead, SameInput}
use Rattle.ostep_lex.proofs.opening.after_white.Given as goal

abbrev pub invariant-loop-c : goal.invariant-loop-c
invariant-loop-c l = ((end : List ℕ) → White (ahead l.rest) end → White (ahead l.cursor) end) × SameInput l.cursor l.rest

abbrev pub decreases-loop-c : goal.decreases-loop-c
decreases-loop-c l = length (ahead l.rest)
