use Rattle.std.proofs.Common.{rules}
use Rattle.plist_value.proofs.whole.WholePartialEq.eq.Goals as goal

pub returns : goal.returns
returns c = search rules
