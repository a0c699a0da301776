use Rattle.ostep_text.proofs.WrittenProof.{written_is_text}
use Rattle.ostep_text.proofs.laws.written_is_text.Goals as goal

pub returns : goal.returns
returns c = written_is_text
