use Rattle.std.proofs.Common.{ℕ, List, length}
use Rattle.ostep_lex.specs.Gap.{LineComment}
use Rattle.ostep_lex.specs.Cursor.{ahead, SameInput}
use Rattle.ostep_lex.proofs.gap.line_comment.Given as goal

abbrev pub invariant-loop-c : goal.invariant-loop-c
invariant-loop-c l = ((after : List ℕ) → LineComment (ahead l.rest) after → LineComment (ahead l.cursor) after) × SameInput l.cursor l.rest

abbrev pub decreases-loop-c : goal.decreases-loop-c
decreases-loop-c l = length (ahead l.rest)
