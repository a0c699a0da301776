-- A map from scalars to numbers: some long data is in a list, and all others are in a hash map.
use Rattle.std.specs.Prelude.{◌≡◌, ℕ, ◌<◌, nat_le, Bool, true, false, if◌then◌else◌, List, [], ◌∷◌}
use Rattle.std.specs.Prelude.{length, Option, Some, None}
use Rattle.std.specs.Option.{option_or}
use Rattle.std.specs.Ordering.{on}
use Rattle.indexmap.specs.IndexMap.{get, IsUnchanged}
use Rattle.plist_value.specs.Plist.{Scalar, bytes}
use Rattle.plist_value.specs.Equality.{scalar_eq}
use Rattle.plist_value.specs.Scalars.{content_of}
use Rattle.plist_value.specs.declared.scalar_ref.ScalarRef.{ScalarRef}
use Rattle.plist_write.specs.declared.scalar_numbers.Listed.{Listed}
use Rattle.plist_write.specs.declared.scalar_numbers.ScalarNumbers.{ScalarNumbers}

-- the number of the first entry that equals the scalar, if one does
abbrev pub number_listed : List Listed → Scalar → Option ℕ
number_listed [] s = None
number_listed (one ∷ others) s =
    if scalar_eq (content_of one.scalar) s then Some one.number else number_listed others s

-- the number of the scalar in the hash map, if it has one
abbrev pub number_hashed : {S H : Type 0} → ScalarNumbers S H → ScalarRef → Option ℕ
number_hashed known r = get (on content_of scalar_eq) known.hashed r

-- the number of a scalar, if it has one: that in the list, or else that in the hash map
abbrev pub number_stored : {S H : Type 0} → ScalarNumbers S H → ScalarRef → Option ℕ
number_stored known r =
    option_or (number_listed known.listed.items (content_of r)) (number_hashed known r)

-- data of at least 65,536 bytes
abbrev pub is_long : Scalar → Bool
is_long (bytes xs) = nat_le 65536 (length xs)
is_long s = false

abbrev pub IsLong : ScalarRef → Type 0
IsLong r = is_long (content_of r) ≡ true

abbrev pub IsShort : ScalarRef → Type 0
IsShort r = is_long (content_of r) ≡ false

-- the list has space for one more
abbrev pub HasListRoom : {S H : Type 0} → ScalarNumbers S H → Type 0
HasListRoom known = length known.listed.items < 8

-- The list contains only long data, and the hash map contains none while the list has space.
pub record AreNumbered {S H : Type 0} (known : ScalarNumbers S H) : Type 0 where
  pub short_hashed : (r : ScalarRef) → IsShort r → number_listed known.listed.items (content_of r)
      ≡ None
  pub long_listed : HasListRoom known → (r : ScalarRef) → IsLong r → number_hashed known r ≡ None

-- no scalar has a number
pub record AreNew {S H : Type 0} (known : ScalarNumbers S H) : Type 0 where
  pub numbered : AreNumbered known
  pub unknown : (r : ScalarRef) → number_stored known r ≡ None

-- the scalar is not in the list and will not be added to it
pub record IsUnlisted {S H : Type 0} (known : ScalarNumbers S H) (r : ScalarRef) : Type 0 where
  pub numbered : AreNumbered known
  pub missed : number_listed known.listed.items (content_of r) ≡ None
  pub refused : HasListRoom known → IsShort r

-- each scalar has the number that it had, or none
pub record KeepsScalars {S H : Type 0} (old new : ScalarNumbers S H) : Type 0 where
  pub listed : new.listed.items ≡ old.listed.items
  pub hashed : IsUnchanged old.hashed new.hashed

-- The scalar has the number that it had, or the next one if it had none. All others are unchanged.
pub record EntersScalar {S H : Type 0} (shown : ScalarRef) (next : ℕ) (old new : ScalarNumbers S H)
    (had : Option ℕ) : Type 0 where
  pub numbered : AreNumbered new
  pub had_is : had ≡ number_stored old shown
  pub each : (r : ScalarRef)
      → number_stored new r
      ≡ option_or (number_stored old r) (if scalar_eq (content_of shown) (content_of r)
      then Some next else None)
