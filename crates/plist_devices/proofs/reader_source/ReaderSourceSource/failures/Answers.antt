use Rattle.std.proofs.Common.{refl}
use Rattle.plist_devices.proofs.reader_source.ReaderSourceSource.failures.Goals as goal

pub returns : goal.returns
returns g c = refl
