use Rattle.ostep_lex.proofs.LawProofs.{faulty_has_none}
use Rattle.ostep_lex.proofs.laws.faulty_has_none.Goals as goal

pub returns : goal.returns
returns c = faulty_has_none
