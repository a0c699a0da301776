use Rattle.std.proofs.Common.{rules}
use Rattle.plist_value.proofs.whole.Whole.get.Goals as goal

pub returns-in-Unsigned-clause-value : goal.returns-in-Unsigned-clause-value
returns-in-Unsigned-clause-value c = search rules
