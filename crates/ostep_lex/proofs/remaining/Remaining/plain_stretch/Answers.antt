use Rattle.ostep_lex.proofs.StretchLemmas.{leads_stretch}
use Rattle.ostep_lex.proofs.remaining.Remaining.plain_stretch.Goals as goal

pub returns-in-Utf8 : goal.returns-in-Utf8
returns-in-Utf8 c = leads_stretch c.in-Utf8.is c.stretch.ensures.stretch c.stretch.ensures.chars c.stretch.ensures.split c.stretch.ensures.utf8
