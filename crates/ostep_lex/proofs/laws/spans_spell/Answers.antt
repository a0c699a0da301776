use Rattle.ostep_lex.proofs.LawProofs.{HasTokens-spans}
use Rattle.ostep_lex.proofs.laws.spans_spell.Goals as goal

pub returns : goal.returns
returns c octets tokens h = HasTokens-spans h
