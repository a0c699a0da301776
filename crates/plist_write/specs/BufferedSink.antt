-- Writing to a sink through a buffer.
use Rattle.std.specs.Prelude.{◌≡◌, ℕ, ◌+◌, ◌<◌, ◌≤◌, ◌^◌, List, ◌++◌, length, take, Option, Result}
use Rattle.std.specs.Prelude.{OnOk, IfErr}
use Rattle.std.specs.Borrow.{GName}
use Rattle.std.specs.Io.KnownBytes.{Appends}
use Rattle.plist_devices.specs.declared.sinks.Sink.{Ghosts}
use Rattle.plist_object.specs.Spelling.{least_width, references}
use Rattle.plist_write.specs.Canonical.{trailer_octets}
use Rattle.plist_write.specs.declared.faults.WriteFault.{WriteFault}
use Rattle.plist_write.specs.declared.buffered_sink.BufferedSink.{BufferedSink}
use Rattle.plist_write.specs.Sending.{sent_of, IsBlamed, Allows}

-- The state of a buffered sink: the name of the borrowed sink and its device, the bytes that the
-- sink took, if it records them, the buffered bytes, and the number of bytes sent. The sink's
-- failures and its longest piece are part of it too.
pub record SinkState : Type 0 where
  pub sink : GName
  pub device : Option GName
  pub taken : Option (List ℕ)
  pub waiting : List ℕ
  pub sent : ℕ
  pub failures : ℕ
  pub longest : ℕ

abbrev pub sink_state : {W : Type 0} → Ghosts W → BufferedSink W → SinkState
sink_state sink out = record {
  sink = out.sink.ghost_name;
  device = sink.device out.sink.now;
  taken = sink.taken out.sink.now;
  waiting = out.waiting.now.items;
  sent = out.sent;
  failures = sink.failures out.sink.now;
  longest = sink.longest out.sink.now;
}

-- after these bytes, fewer than 2^64 bytes will have been sent
abbrev pub CanTake : List ℕ → SinkState → Type 0
CanTake octets state = state.sent + (length state.waiting + length octets) < 2 ^ 64

-- the sink and its device are unchanged
pub record Stays (old new : SinkState) : Type 0 where
  pub sink : new.sink ≡ old.sink
  pub device : new.device ≡ old.device

-- The bytes were written after those in the buffer: the sink took `gone`, and the others are in the
-- buffer.
pub record Gathers (octets : List ℕ) (old new : SinkState) : Type 0 where
  pub gone : List ℕ
  pub whole : old.waiting ++ octets ≡ gone ++ new.waiting
  pub taken : Appends old.taken new.taken gone
  pub sent : new.sent ≡ old.sent + length gone
  pub failures : new.failures ≡ old.failures

-- The call failed after the sink had taken the first `more` of the buffered bytes and these bytes,
-- but not all of them.
pub record Stops (octets : List ℕ) (old new : SinkState) (fault : WriteFault) : Type 0 where
  pub more : ℕ
  pub sent : sent_of fault ≡ old.sent + more
  pub within : more < length (old.waiting ++ octets)
  pub taken : Appends old.taken new.taken (take more (old.waiting ++ octets))
  pub blamed : IsBlamed fault old.failures new.failures

pub record Emits {T : Type 0} (octets : List ℕ) (old new : SinkState)
    (result : Result T WriteFault) : Type 0 where
  pub stays : Stays old new
  pub done : OnOk result (Gathers octets old new)
  pub stopped : IfErr result (Stops octets old new)

-- no piece and no buffer is longer than `most`
pub record PiecesWithin (most : ℕ) (state : SinkState) : Type 0 where
  pub waits : length state.waiting ≤ most
  pub pieces : state.longest ≤ most

-- no piece is longer than `most`, and the buffer has space for `more` bytes within such a piece
pub record LeavesRoom {T : Type 0} (most more : ℕ) (state : SinkState)
    (result : Result T WriteFault) : Type 0 where
  pub waits : OnOk result (length state.waiting + more ≤ most)
  pub pieces : state.longest ≤ most

-- If pieces may be as long as each of these objects, and as `more` bytes, then none is longer, as
-- long as none was before.
abbrev pub KeepsShort : {T : Type 0} → List (List ℕ) → ℕ → SinkState → SinkState
    → Result T WriteFault
    → Type 0
KeepsShort objects more old new result =
    (most : ℕ) → Allows most objects → more ≤ most → PiecesWithin most old
    → LeavesRoom most more new result

-- the end of a file: the offset table with these offsets, and the trailer, which has its own
abbrev pub end_of : List ℕ → ℕ → List ℕ
end_of offsets offset = references (least_width offset) offsets
    ++ trailer_octets (length offsets) offset

-- a piece was appended to the old bytes, and the rest is still to be appended
pub record PutsPiece (old new all rest : List ℕ) : Type 0 where
  pub piece : List ℕ
  pub put : new ≡ old ++ piece
  pub split : all ≡ piece ++ rest
