use Rattle.plistconv_c.proofs.Gathered.{gathered_unwritten}
use Rattle.plistconv_c.proofs.openstep.written_text.Goals as goal

pub returns-in-Err-clause-refused : goal.returns-in-Err-clause-refused
returns-in-Err-clause-refused c = rw c.unsent.ensures
    (gathered_unwritten c.args.octets.now _ _ _ _ c.in-Err.fault c.in_ok-admit.ensures.within c.in-Err.ensures.writes)
