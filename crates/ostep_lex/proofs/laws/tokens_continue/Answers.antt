use Rattle.ostep_lex.proofs.LawProofs.{tokens_continue}
use Rattle.ostep_lex.proofs.laws.tokens_continue.Goals as goal

pub returns : goal.returns
returns c = tokens_continue
