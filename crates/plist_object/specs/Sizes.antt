-- Bounds on the size of encoded objects, and the size of a marker with its count.
use Rattle.std.specs.Prelude.{ℕ, ◌+◌, ◌<◌, ◌^◌, nat_lt, if◌then◌else◌, length, ⊤, IsTrue, ◌==◌}
use Rattle.std.specs.Prelude.{◌||◌}
use Rattle.plist_value.specs.Plist.{Scalar, text, whole, flag, real4, real8, moment, bytes}
use Rattle.plist_object.specs.Spelling.{least_width}

-- fewer than 2^32 units or bytes
abbrev pub IsSmall : Scalar → Type 0
IsSmall (text units) = length units < 2 ^ 32
IsSmall (whole z) = ⊤
IsSmall (flag b) = ⊤
IsSmall (real4 xs) = ⊤
IsSmall (real8 xs) = ⊤
IsSmall (moment xs) = ⊤
IsSmall (bytes xs) = length xs < 2 ^ 32

-- the number of bytes of a marker with its count
abbrev pub head_size : ℕ → ℕ
head_size n = if nat_lt n 15 then 1 else 2 + least_width n

-- a width of references: 1, 2, 4 or 8 bytes
abbrev pub IsWidth : ℕ → Type 0
IsWidth width = IsTrue (width == 1 || width == 2 || width == 4 || width == 8)
