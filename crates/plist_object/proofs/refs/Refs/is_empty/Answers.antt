use Rattle.std.proofs.Common.{refl}
use Rattle.plist_object.proofs.refs.Refs.is_empty.Goals as goal

pub returns : goal.returns
returns c = rw c.len.ensures refl
