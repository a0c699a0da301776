use Rattle.std.proofs.Common.{refl}
use Rattle.plist_value.proofs.utf16.Utf16.from_units.Goals as goal

pub returns : goal.returns
returns c = refl
