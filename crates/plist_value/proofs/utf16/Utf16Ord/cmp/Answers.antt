use Rattle.std.proofs.Common.{refl}
use Rattle.plist_value.proofs.utf16.Utf16Ord.cmp.Goals as goal

pub returns : goal.returns
returns c = rw (c.cmp.ensures, c.units.ensures, c.units-2.ensures) refl
