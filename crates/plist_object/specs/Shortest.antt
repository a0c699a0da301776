-- Objects that have their canonical encoding.
use Rattle.std.specs.Prelude.{◌≡◌, ◌<◌, ◌≤◌, ◌*◌, ℕ, ℤ, nat_lt, false, List, [], ◌∷◌, ◌++◌, length}
use Rattle.std.specs.Prelude.{take, drop, Ok}
use Rattle.std.specs.List.{list_all}
use Rattle.plist_value.specs.Plist.{Scalar, IsWhole}
use Rattle.plist_value.specs.Texts.{wide_units}
use Rattle.plist_object.specs.Layout.{trailer_of}
use Rattle.plist_object.specs.Objects.{Content, holds_scalar, holds_list, holds_table, object_in}
use Rattle.plist_object.specs.Places.{octets_at, what_holds}
use Rattle.plist_object.specs.Heads.{Begins}
use Rattle.plist_object.specs.Sizes.{head_size}
use Rattle.plist_object.specs.Spelling.{head, scalar_spelling, whole_spelling, list_spelling}
use Rattle.plist_object.specs.Spelling.{table_spelling}
use Rattle.plist_object.specs.Views.{first_of}

-- the canonical encoding of the content, with references of `width` bytes
abbrev pub spelling_of : ℕ → Content → List ℕ
spelling_of width (holds_scalar s) = scalar_spelling s
spelling_of width (holds_list refs) = list_spelling width refs
spelling_of width (holds_table keys values) = table_spelling width keys values

-- Object i can be decoded, and its bytes are the canonical encoding of its content, for the file's
-- width of a reference.
pub record IsShortest (f : List ℕ) (i : ℕ) : Type 0 where
  pub octets : List ℕ
  pub held : Content
  pub behind : List ℕ
  pub stands : octets_at f i ≡ Ok octets
  pub reads : object_in (trailer_of f).reference_width octets ≡ Ok (held, behind)
  pub spelled : octets ≡ spelling_of (trailer_of f).reference_width held ++ behind

-- the bytes begin with the canonical marker and count of this kind, and the count is below 256
pub record BeginsShort (kind count : ℕ) (octets : List ℕ) : Type 0 where
  pub few : count < 256
  pub begins : Begins (head kind count) octets

-- one of the `count` units after marker and count is not ASCII
abbrev pub HasWideUnit : ℕ → List ℕ → Type 0
HasWideUnit count octets =
    list_all (λ u. nat_lt u 128) (wide_units (take (2 * count) (drop (head_size count) octets)))
    ≡ false

-- each scalar with this marker has n bytes, which are its canonical encoding
pub data IsFixed : ℕ → ℕ → Type 0 where
  no : IsFixed 8 1
  yes : IsFixed 9 1
  octet : IsFixed 16 2
  short : IsFixed 34 5
  long : IsFixed 35 9
  date : IsFixed 51 9

-- the bytes begin with such a marker
pub record BeginsFixed (n : ℕ) (octets : List ℕ) : Type 0 where
  pub marker : ℕ
  pub fixed : IsFixed marker n
  pub begins : Begins (marker ∷ []) octets

-- the bytes begin with the canonical encoding of an integer, which has n bytes
pub record BeginsWhole (n : ℕ) (octets : List ℕ) : Type 0 where
  pub number : ℤ
  pub whole : IsWhole number
  pub begins : Begins (whole_spelling number) octets
  pub size : length (whole_spelling number) ≡ n

-- the object that begins with these bytes is a scalar, and the first n bytes are its canonical
-- encoding
pub record LeadsScalar (width n : ℕ) (octets : List ℕ) : Type 0 where
  pub scalar : Scalar
  pub reads : first_of (object_in width octets) ≡ Ok (holds_scalar scalar)
  pub within : n ≤ length octets
  pub spelled : take n octets ≡ scalar_spelling scalar

-- object i is a scalar, and these bytes are its canonical encoding
pub record IsSpelledScalar (f : List ℕ) (i : ℕ) (octets : List ℕ) : Type 0 where
  pub scalar : Scalar
  pub reads : what_holds f i ≡ Ok (holds_scalar scalar)
  pub spelled : octets ≡ scalar_spelling scalar
