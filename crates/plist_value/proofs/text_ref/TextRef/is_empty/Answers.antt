use Rattle.std.proofs.Common.{refl}
use Rattle.plist_value.proofs.text_ref.TextRef.is_empty.Goals as goal

pub returns : goal.returns
returns c = rw c.len.ensures refl
