use Rattle.ostep_text.proofs.FaultyProof.{faulty_is_no_text}
use Rattle.ostep_text.proofs.laws.faulty_is_no_text.Goals as goal

pub returns : goal.returns
returns c = faulty_is_no_text c.one_lexing.ensures c.faulty_has_none.ensures
