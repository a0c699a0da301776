-- A bit for each scalar, which several may share.
use Rattle.std.specs.Prelude.{◌≡◌, ℕ, pos, ◌≤◌, ◌/◌, ◌%◌, List, slice_index_or, bit_and, fold, max}
use Rattle.std.specs.Prelude.{nat_le, if◌then◌else◌, Option, Some, None}
use Rattle.std.specs.Int.{bit_at}
use Rattle.std.specs.Hash as fed
use Rattle.std.specs.Hash.FoldHasher as folding
use Rattle.std.specs.Hash.DefaultHasher as sip
use Rattle.plist_value.specs.Plist.{Scalar, bytes, whole}
use Rattle.plist_value.specs.Equality.{fed_scalar}
use Rattle.plist_write.specs.ScalarNumbers.{is_long}
use Rattle.plist_write.specs.declared.bits.Bits.{Bits}

-- the bit is set in the words; bits past the end count as set
unfoldable pub IsSet : List ℕ → ℕ → Type 0
IsSet words n = bit_at (slice_index_or words (n / 64) 18446744073709551615) (n % 64) ≡ 1

abbrev pub HasBit : Bits → ℕ → Type 0
HasBit bits n = IsSet bits.words.items n

-- no bit up to `most` is set
abbrev pub IsClear : ℕ → Bits → Type 0
IsClear most bits = (n : ℕ) → n ≤ most → HasBit bits n → ⊥

-- each bit that was set is still set
abbrev pub KeepsBits : Bits → Bits → Type 0
KeepsBits old new = (n : ℕ) → HasBit old n → HasBit new n

-- a hash of the seed and the scalar
unfoldable pub fast_hash : ℕ → Scalar → ℕ
fast_hash seed s =
    folding.finish
    (fold folding.write (fold folding.write folding.initial (fed.u64 seed)) (fed_scalar s))

-- a slower hash
unfoldable pub strong_hash : ℕ → Scalar → ℕ
strong_hash seed s =
    sip.finish (fold sip.write (fold sip.write sip.initial (fed.u64 seed)) (fed_scalar s))

-- the hash of the scalar, or 0 for long data
abbrev pub hash_of : ℕ → Scalar → ℕ
hash_of seed (bytes xs) = if is_long (bytes xs) then 0 else strong_hash seed (bytes xs)
hash_of seed s = fast_hash seed s

-- the integer that the scalar contains, if it is one that is not negative
abbrev pub as_u64 : Scalar → Option ℕ
as_u64 (whole (pos n)) = Some n
as_u64 s = None

-- the number if there is one and it is at most `most`, else `other`
abbrev pub up_to : ℕ → ℕ → Option ℕ → ℕ
up_to most other (Some n) = if nat_le n most then n else other
up_to most other None = other

-- the bit of the scalar, from 0 to the mask
abbrev pub any_bit_of : ℕ → ℕ → Scalar → ℕ
any_bit_of mask seed s = up_to mask (bit_and (hash_of seed s) mask) (as_u64 s)

-- the bit of the scalar, from 1 to the mask
abbrev pub bit_of : ℕ → ℕ → Scalar → ℕ
bit_of mask seed s = max (any_bit_of mask seed s) 1
