use Rattle.std.proofs.Common.{refl}
use Rattle.plist_forms.proofs.statuses.Status.code.Goals as goal

pub returns-in-Refused-clause-code : goal.returns-in-Refused-clause-code
returns-in-Refused-clause-code c = rw c.in-Refused.is refl
