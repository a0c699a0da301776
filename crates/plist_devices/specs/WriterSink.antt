-- What contracts know of a `WriterSink`.
use Rattle.std.specs.Prelude.{ℕ, List, Option}
use Rattle.plist_devices.specs.declared.writer_sink.WriterSink.{WriterSink}

-- the device that is written
abbrev pub writer_device : {W : Type 0} → WriterSink W → W
writer_device sink = sink.device

-- the bytes taken, if the device knows them
abbrev pub writer_taken : {W : Type 0} → (W → Option (List ℕ)) → WriterSink W → Option (List ℕ)
writer_taken contents sink = contents (writer_device sink)

-- the number of puts that failed, up to the maximum
abbrev pub writer_failures : {W : Type 0} → WriterSink W → ℕ
writer_failures sink = sink.failures
