use Rattle.std.proofs.Common.{length}
use Rattle.ostep_lex.specs.Stretch.{BeginsWithUnits}
use Rattle.ostep_lex.proofs.stretch.after_units.Given as goal

abbrev pub invariant-loop-unit : goal.invariant-loop-unit
invariant-loop-unit l = BeginsWithUnits l.class l.order l.octets l.rest

abbrev pub decreases-loop-unit : goal.decreases-loop-unit
decreases-loop-unit l = length l.rest
