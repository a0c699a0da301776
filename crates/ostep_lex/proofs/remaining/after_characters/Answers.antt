use Rattle.ostep_lex.proofs.TextLemmas.{FrontsOf-none, FrontsOf-more}
use Rattle.ostep_lex.proofs.remaining.after_characters.Goals as goal

pub loop-after-init : goal.loop-after-init
loop-after-init c = FrontsOf-none _ _

pub loop-after-preserved : goal.loop-after-preserved
loop-after-preserved c = FrontsOf-more c.loop-after.invariant c.in-Some.ensures
