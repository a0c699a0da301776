-- What a sink does. It has the bytes taken, if it knows them, and a count of failures.
use Rattle.std.specs.Prelude.{◌≡◌, ◌⊎◌, ℕ, ◌<◌, ◌≤◌, List, length, Ok, Option, Result, IfOk, IsErr}
use Rattle.std.specs.Prelude.{OnErr}
use Rattle.std.specs.Io.KnownBytes.{WriteAppends}
use Rattle.plist_devices.specs.Count.{Counts}

-- One put: the bytes taken and the count of failures, before and after it, its result, and the
-- piece.
pub record IsPut {E : Type 0} (taken after_taken : Option (List ℕ)) (before after : ℕ)
    (result : Result ℕ E) (piece : List ℕ) : Type 0 where
  -- it takes no more than the piece has, and some of a piece that is not empty
  pub within : IfOk result (λ n. n ≤ length piece)
  pub some : IfOk result (λ n. 0 < length piece → 0 < n)
  -- a prefix of the piece is appended to the bytes taken; a put that fails appends nothing
  pub octets : WriteAppends taken after_taken result piece
  pub count : Counts before after result

-- How the result of a put follows from one write of the piece. It is the number of bytes written,
-- or a failure if the write failed or took none of a piece that is not empty.
pub record IsAnswerOf {E : Type 0} (written : Result ℕ E) (piece : List ℕ)
    (result : Result ℕ E) : Type 0 where
  pub taken : IfOk result (λ n. written ≡ Ok n)
  pub failed : OnErr result (IsErr written ⊎ ((written ≡ Ok 0) × (0 < length piece)))

-- A put is one write of the device: the device before and after it, the piece, and its result.
abbrev pub IsOneWrite : {D E : Type 0} → (D → D → List ℕ → Result ℕ E → Type 0) → D → D → List ℕ
    → Result ℕ E → Type 0
IsOneWrite {E = E} gives before after piece result =
    (written : Result ℕ E) × gives before after piece written × IsAnswerOf written piece result

-- After a piece of this length the recorded maximum length is at most the greater of it and the
-- maximum before.
abbrev pub IsLongest : ℕ → ℕ → ℕ → Type 0
IsLongest longest now_longest length = (most : ℕ) → longest ≤ most → length ≤ most
    → now_longest ≤ most
