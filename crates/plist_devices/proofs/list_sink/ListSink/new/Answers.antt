use Rattle.std.proofs.Common.{refl}
use Rattle.plist_devices.proofs.list_sink.ListSink.new.Goals as goal

pub returns-clause-failures : goal.returns-clause-failures
returns-clause-failures c = refl
