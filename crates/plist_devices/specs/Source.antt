-- What a source does. It has the bytes still to come, if it knows them, and a count of failures.
use Rattle.std.specs.Prelude.{ℕ, List, Option, Result}
use Rattle.std.specs.Io.{ReadsAtMost}
use Rattle.std.specs.Io.KnownBytes.{ReadConsumes}
use Rattle.plist_devices.specs.Count.{Counts}

-- One take: the bytes to come and the count of failures, before and after it, its result, and the
-- buffer after it.
pub record IsTake {E : Type 0} (to_come rest : Option (List ℕ)) (before after : ℕ)
    (result : Result ℕ E) (buffer : List ℕ) : Type 0 where
  -- it gives no more bytes than fit into the buffer
  pub within : ReadsAtMost result buffer
  -- the start of the buffer is the next bytes, none only at the end or for an empty buffer; a take
  -- that fails gives none
  pub octets : ReadConsumes to_come rest result buffer
  pub count : Counts before after result
