use Rattle.std.proofs.Common.{rules}
use Rattle.plist_value.proofs.limits.fits.Goals as goal

pub returns-clause-limits : goal.returns-clause-limits
returns-clause-limits c = search rules
