use Rattle.std.proofs.Common.{refl}
use Rattle.plist_devices.proofs.list_source.ListSourceSource.failures.Goals as goal

pub returns : goal.returns
returns c = refl
