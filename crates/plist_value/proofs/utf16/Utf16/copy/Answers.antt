use Rattle.std.proofs.Common.{refl}
use Rattle.plist_value.proofs.utf16.Utf16.copy.Goals as goal

pub returns : goal.returns
returns c = rw (c.from_units.ensures, c.in_ok-from_slice.ensures.items, c.units.ensures) refl
