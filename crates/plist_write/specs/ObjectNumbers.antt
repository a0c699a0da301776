-- What a plan knows of each object of the file: the number of its scalar, or that no other object
-- contains the scalar.
use Rattle.std.specs.Prelude.{◌≡◌, ◌≢◌, ◌⊎◌, ℕ, ◌-◌, ◌^◌, ◌<◌, List, length, slice_index_or}
use Rattle.plist_value.specs.Plist.{Scalar}
use Rattle.plist_value.specs.Scalars.{content_of}
use Rattle.plist_value.specs.declared.scalar_ref.ScalarRef.{ScalarRef}
use Rattle.plist_object.specs.Layout.{trailer_of}
use Rattle.plist_object.specs.Objects.{holds_scalar}
use Rattle.plist_object.specs.Places.{Holds, place_of}
use Rattle.plist_write.specs.RepeatFilter.{IsUnlike}
use Rattle.plist_write.specs.declared.object_numbers.ObjectNumbers.{ObjectNumbers}
use Rattle.plist_write.specs.declared.repeat_filter.RepeatFilter.{RepeatFilter}

-- marks an object that has no number
abbrev pub no_number : ℕ
no_number = 2 ^ 32 - 1

-- marks an object that has no number, and whose scalar no other object contains
abbrev pub unique : ℕ
unique = 2 ^ 32 - 2

-- all smaller values are numbers
abbrev pub IsNumber : ℕ → Type 0
IsNumber n = n < unique

abbrev pub kept_at : List ℕ → ℕ → ℕ
kept_at numbers i = slice_index_or numbers i no_number

-- what is known of object i
abbrev pub kept : ObjectNumbers → ℕ → ℕ
kept memo i = kept_at memo.numbers.items i

-- an object that has this number begins at the same offset as object i
pub record IsNumberAt (f : List ℕ) (i : ℕ) (memo : ObjectNumbers) (number : ℕ) : Type 0 where
  pub first : ℕ
  pub listed : first < (trailer_of f).count
  pub at_offset : place_of f first ≡ place_of f i
  pub is_kept : kept memo first ≡ number
  pub some : IsNumber number

-- no other object of the file contains the scalar of object i
abbrev pub IsAlone : List ℕ → ℕ → Type 0
IsAlone f i =
    (s : Scalar) (j : ℕ) → Holds f i (holds_scalar s) → Holds f j (holds_scalar s) → j ≡ i

-- the object contains a scalar, and no other object of the file contains it
abbrev pub IsUnique : List ℕ → ℕ → Type 0
IsUnique f i = ((r : ScalarRef) × Holds f i (holds_scalar (content_of r))) × IsAlone f i

-- The object has this number now, if it is in range. All others are unchanged.
pub record KeepsNumber (i number : ℕ) (old new : ObjectNumbers) : Type 0 where
  pub here : i < length old.numbers.items → kept new i ≡ number
  pub others : (j : ℕ) → j ≢ i → kept new j ≡ kept old j
  pub as_many : length new.numbers.items ≡ length old.numbers.items

-- Objects without a number may be marked as unique if the filter shows that they are. All others
-- are unchanged.
pub record MarksUnique (filter : RepeatFilter) (old new : List ℕ) : Type 0 where
  pub as_many : length new ≡ length old
  pub each : (i : ℕ) → (kept_at new i ≡ kept_at old i)
      ⊎ ((kept_at old i ≡ no_number)
      × ((kept_at new i ≡ unique) × ((i < length filter.bits.items) × IsUnlike filter i)))

-- Objects of the file without a number may be marked as unique if they are. All others are
-- unchanged.
pub record FindsUnique (f : List ℕ) (old new : ObjectNumbers) : Type 0 where
  pub as_many : length new.numbers.items ≡ length old.numbers.items
  pub each : (i : ℕ) → (kept new i ≡ kept old i)
      ⊎ ((kept old i ≡ no_number) × ((kept new i ≡ unique) × IsUnique f i))
