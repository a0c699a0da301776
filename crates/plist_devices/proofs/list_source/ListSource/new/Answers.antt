use Rattle.std.proofs.Common.{refl}
use Rattle.plist_devices.proofs.list_source.ListSource.new.Goals as goal

pub returns-clause-takes : goal.returns-clause-takes
returns-clause-takes c = refl
