use Rattle.std.proofs.Common.{refl}
use Rattle.plist_devices.proofs.list_sink.ListSinkSink.failures.Goals as goal

pub returns : goal.returns
returns c = refl
