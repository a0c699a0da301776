use Rattle.std.proofs.Common.{rules}
use Rattle.plist_keys.proofs.keys.Keys.overlap.Goals as goal

pub returns : goal.returns
returns c = search rules
