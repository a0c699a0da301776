use Rattle.std.proofs.Common.{ℕ, List, length}
use Rattle.ostep_lex.specs.Gap.{BlockComment, NeverCloses}
use Rattle.ostep_lex.specs.Cursor.{ahead, SameInput}
use Rattle.ostep_lex.proofs.gap.block_comment.Given as goal

abbrev pub invariant-loop-after : goal.invariant-loop-after
invariant-loop-after l = ((after : List ℕ) → BlockComment (ahead l.rest) after → BlockComment (ahead l.cursor) after)
    × (NeverCloses (ahead l.rest) → NeverCloses (ahead l.cursor)) × SameInput l.cursor l.rest

abbrev pub decreases-loop-after : goal.decreases-loop-after
decreases-loop-after l = length (ahead l.rest)
