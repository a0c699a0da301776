use Rattle.std.proofs.Common.{rules}
use Rattle.plist_object.proofs.reading.whole_in.Goals as goal

pub returns : goal.returns
returns c = search rules
