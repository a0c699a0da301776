-- Bytes written to a buffer of the caller.
use Rattle.std.specs.Prelude.{◌≡◌, ◌≤◌, ◌<◌, ℕ, List, ◌++◌, length, drop}

-- The bytes are at the start of the buffer if they fit, and the rest of it is unchanged; otherwise
-- the whole buffer is. The count is their number.
pub record IsGiven (octets before after : List ℕ) (count : ℕ) : Type 0 where
  pub counted : count ≡ length octets
  pub given : length octets ≤ length before → after ≡ octets ++ drop (length octets) before
  pub kept : length before < length octets → after ≡ before
