-- Bytes appended to a `Vec`.
use Rattle.std.specs.Prelude.{◌≡◌, ℕ, ◌+◌, ◌≤◌, List, ◌++◌, length, Vec, vec_len, vec_capacity}
use Rattle.std.specs.declared.alloc.Global.{Global}

-- the bytes were appended, and the capacity did not shrink
pub record Appends (old new : Vec ℕ Global) (octets : List ℕ) : Type 0 where
  pub items : new.items ≡ old.items ++ octets
  pub len : vec_len new ≡ vec_len old + length octets
  pub room : vec_capacity old ≤ vec_capacity new

-- the capacity suffices for n more bytes
abbrev pub HasRoom : Vec ℕ Global → ℕ → Type 0
HasRoom out n = vec_len out + n ≤ vec_capacity out
