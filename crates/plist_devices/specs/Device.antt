-- One read of a reader of the standard library, and one write to a writer.
use Rattle.std.specs.Prelude.{ℕ, List, Option, Result}
use Rattle.std.specs.Io.{ReadsAtMost, WritesAtMost}
use Rattle.std.specs.Io.KnownBytes.{ReadConsumes, WriteAppends}

-- What the standard library promises of a read: the reader before and after it, the buffer after
-- it, and its result. It does not say when a read fails.
abbrev pub Reads : {R E : Type 0} → (R → Option (List ℕ)) → R → R → List ℕ → Result ℕ E → Type 0
Reads remaining before after buffer result =
    ReadsAtMost result buffer × ReadConsumes (remaining before) (remaining after) result buffer

-- What the standard library promises of a write: the writer before and after it, the piece, and its
-- result. It does not say when a write fails.
abbrev pub Writes : {W E : Type 0} → (W → Option (List ℕ)) → W → W → List ℕ → Result ℕ E → Type 0
Writes contents before after piece result =
    WritesAtMost result piece × WriteAppends (contents before) (contents after) result piece
