use Rattle.ostep_lex.proofs.LawProofs.{one_lexing}
use Rattle.ostep_lex.proofs.laws.one_lexing.Goals as goal

pub returns : goal.returns
returns c = one_lexing
