use Rattle.std.proofs.Common.{rules}
use Rattle.plist_value.proofs.whole.WholeHash.hash.Goals as goal

pub returns : goal.returns
returns g c = search rules
