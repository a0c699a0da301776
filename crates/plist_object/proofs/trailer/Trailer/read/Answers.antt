use Rattle.std.proofs.Common.{rules}
use Rattle.plist_object.proofs.trailer.Trailer.read.Goals as goal

pub returns : goal.returns
returns c = search rules
