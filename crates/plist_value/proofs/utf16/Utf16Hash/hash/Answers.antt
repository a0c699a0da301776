use Rattle.std.proofs.Common.{refl}
use Rattle.plist_value.proofs.utf16.Utf16Hash.hash.Goals as goal

pub returns : goal.returns
returns g c = rw (c.hash.ensures, c.of_units.ensures.text, c.units.ensures) refl
