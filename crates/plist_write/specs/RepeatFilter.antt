-- Which objects of a file may contain a scalar that another object contains, as shown by bits.
use Rattle.std.specs.Prelude.{◌≡◌, ◌≢◌, ℕ, ◌<◌, List, length, slice_index, Ok}
use Rattle.plist_value.specs.Plist.{Scalar}
use Rattle.plist_value.specs.Scalars.{content_of}
use Rattle.plist_value.specs.declared.scalar_ref.ScalarRef.{ScalarRef}
use Rattle.plist_object.specs.Objects.{holds_scalar}
use Rattle.plist_object.specs.Places.{what_holds}
use Rattle.plist_write.specs.Bits.{HasBit, bit_of}
use Rattle.plist_write.specs.declared.bits.Bits.{Bits}
use Rattle.plist_write.specs.declared.repeat_filter.RepeatFilterBuilder.{RepeatFilterBuilder}
use Rattle.plist_write.specs.declared.repeat_filter.RepeatFilter.{RepeatFilter}

-- marks an object that is a container; no scalar has this bit
abbrev pub no_bit : ℕ
no_bit = 0

abbrev pub HoldsIt : List ℕ → ℕ → Scalar → Type 0
HoldsIt f i s = what_holds f i ≡ Ok (holds_scalar s)

-- an object with another bit than that of containers contains a scalar
abbrev pub AreScalars : List ℕ → ℕ → List ℕ → Type 0
AreScalars f i bits = (k : ℕ) → k < i → slice_index bits k ≢ no_bit → (r : ScalarRef)
    × HoldsIt f k (content_of r)

-- the objects before i were added: the bit of each that contains a scalar is kept
pub record AreAdded (f : List ℕ) (i : ℕ) (builder : RepeatFilterBuilder) : Type 0 where
  pub added : length builder.bits.items ≡ i
  pub kept : (k : ℕ) (s : Scalar) → k < i → HoldsIt f k s
      → slice_index builder.bits.items k ≡ bit_of builder.mask builder.seed s
  pub are_scalars : AreScalars f i builder.bits.items

-- no object was added
pub record AddsNone (old new : RepeatFilterBuilder) : Type 0 where
  pub bits : new.bits.items ≡ old.bits.items
  pub mask : new.mask ≡ old.mask
  pub seed : new.seed ≡ old.seed

-- each bit that occurs more than once among the first n is set
abbrev pub AreSeenAgain : ℕ → List ℕ → Bits → Type 0
AreSeenAgain n bits again = (j k : ℕ) → j < k → k < n → slice_index bits j ≡ slice_index bits k
    → HasBit again (slice_index bits k)

-- object i contains a scalar, and another may contain it
abbrev pub MayRepeat : RepeatFilter → ℕ → Type 0
MayRepeat filter i = (slice_index filter.bits.items i ≢ no_bit)
    × HasBit filter.again (slice_index filter.bits.items i)

-- the bits show that object i contains a scalar, and that no other contains it
abbrev pub IsUnlike : RepeatFilter → ℕ → Type 0
IsUnlike filter i = (slice_index filter.bits.items i ≢ no_bit) × (MayRepeat filter i → ⊥)

-- what is known of the objects before i: if two of them contain the same scalar, both may repeat
-- another
pub record HasAdded (f : List ℕ) (i : ℕ) (filter : RepeatFilter) : Type 0 where
  pub added : length filter.bits.items ≡ i
  pub again : (j k : ℕ) (s : Scalar) → j < k → k < i → HoldsIt f j s → HoldsIt f k s
      → MayRepeat filter j × MayRepeat filter k
  pub are_scalars : AreScalars f i filter.bits.items
