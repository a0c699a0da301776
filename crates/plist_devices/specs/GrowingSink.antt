-- What contracts know of a `GrowingSink`.
use Rattle.std.specs.Prelude.{ℕ, List}
use Rattle.plist_devices.specs.declared.growing_sink.GrowingSink.{GrowingSink}

abbrev pub growing_sink_taken : GrowingSink → List ℕ
growing_sink_taken sink = sink.octets.items

-- the number of puts that failed
abbrev pub growing_sink_failures : GrowingSink → ℕ
growing_sink_failures sink = sink.failures
