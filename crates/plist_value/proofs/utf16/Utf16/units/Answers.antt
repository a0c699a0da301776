use Rattle.std.proofs.Common.{refl}
use Rattle.plist_value.proofs.utf16.Utf16.units.Goals as goal

pub returns : goal.returns
returns c = rw (c.as_slice.ensures.value, c.self.view_is) refl
