use Rattle.std.proofs.Common.{refl}
use Rattle.plist_devices.proofs.stream.Stream.new.Goals as goal

pub returns-clause-failures : goal.returns-clause-failures
returns-clause-failures g c = refl
