-- What contracts know of a `ListSink`.
use Rattle.std.specs.Prelude.{◌≡◌, ℕ, ◌<◌, ◌≤◌, ◌⊎◌, List, length}
use Rattle.plist_devices.specs.Count.{count_limit}
use Rattle.plist_devices.specs.declared.list_sink.ListSink.{ListSink}

abbrev pub list_sink_taken : ListSink → List ℕ
list_sink_taken sink = sink.octets.items

-- the number of bytes that it takes in total
abbrev pub sink_room : ListSink → ℕ
sink_room sink = sink.room

-- the number of bytes that a put takes at most
abbrev pub sink_step : ListSink → ℕ
sink_step sink = sink.step

-- the number of puts that failed
abbrev pub list_sink_failures : ListSink → ℕ
list_sink_failures sink = sink.failures

-- a put of the piece fails: the sink is full and the piece is not empty, or the count is at the
-- maximum
abbrev pub FailsAt : ListSink → List ℕ → Type 0
FailsAt sink piece =
    ((length (list_sink_taken sink) ≡ sink_room sink) × (0 < length piece))
    ⊎ (count_limit ≤ list_sink_failures sink)
