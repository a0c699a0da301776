use Rattle.std.proofs.Common.{refl}
use Rattle.plist_value.proofs.scalar_ref.ScalarRef.payload.Goals as goal

pub returns-in-Text : goal.returns-in-Text
returns-in-Text c = rw (c.in-Text.is, c.len.ensures) refl
