use Rattle.plistconv_c.proofs.Codes.{code_above}
use Rattle.plistconv_c.proofs.refusals.Refused.set.Goals as goal

pub returns-clause-above : goal.returns-clause-above
returns-clause-above c = rw c.of.ensures (code_above c.args.fault.now)
