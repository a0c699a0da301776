use Rattle.plistconv_c.proofs.Gathered.{gathered_refused}
use Rattle.plistconv_c.specs.Inputs.{refused}
use Rattle.plistconv_c.proofs.prints.printed_text.Goals as goal

pub returns-in-Err-clause-refused : goal.returns-in-Err-clause-refused
returns-in-Err-clause-refused c = rw c.unsent.ensures
    (refused c.in_ok-admit.ensures.within (gathered_refused c.args.octets.now _ _ _ _ c.in-Err.fault c.in-Err.ensures.prints))
