use Rattle.std.proofs.Common.{length}
use Rattle.ostep_lex.specs.Remaining.{encoding_by, FrontsOf}
use Rattle.ostep_lex.proofs.remaining.after_characters.Given as goal

abbrev pub invariant-loop-after : goal.invariant-loop-after
invariant-loop-after l = FrontsOf (encoding_by l.order) l.octets l.rest

abbrev pub decreases-loop-after : goal.decreases-loop-after
decreases-loop-after l = length l.rest
