use Rattle.plist_devices.proofs.list_sink.ListSink.taken.Goals as goal

pub returns : goal.returns
returns c = c.as_slice.ensures.value
