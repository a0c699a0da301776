-- Where the objects of a file with the layout are, and their content.
use Rattle.std.specs.Prelude.{◌≡◌, ℕ, ◌+◌, ◌-◌, ◌*◌, ◌<◌, nat_lt, nat_le, ◌&&◌, if◌then◌else◌, List}
use Rattle.std.specs.Prelude.{[], length, take, drop, slice_index_or, Result, Ok, Err}
use Rattle.byteorder.specs.Endian.{big_number}
use Rattle.plist_value.specs.Plist.{Scalar, text}
use Rattle.plist_object.specs.Layout.{trailer_of}
use Rattle.plist_object.specs.Objects.{Content, holds_scalar, holds_list, holds_table}
use Rattle.plist_object.specs.Objects.{ascii_length, object_in, ◌>>=◌}
use Rattle.plist_object.specs.declared.object.ObjectFault.{ObjectFault}
use Rattle.plist_object.specs.declared.object.ObjectFault.TheVariants.{BadOffset}

-- entry i of the offset table
abbrev pub place_of : List ℕ → ℕ → ℕ
place_of f i = let x = trailer_of f
    in big_number x.offset_width (drop (x.table + i * x.offset_width) f)

-- the bytes from an offset up to the offset table, if the offset is after the header and before the
-- offset table
abbrev pub octets_from : List ℕ → ℕ → Result (List ℕ) ObjectFault
octets_from f place =
    let table = (trailer_of f).table in
    if nat_le 8 place && nat_lt place table then Ok (drop place (take table f)) else Err BadOffset

-- the bytes from the offset of object i
unfoldable pub octets_at : List ℕ → ℕ → Result (List ℕ) ObjectFault
octets_at f i = octets_from f (place_of f i)

-- the byte at the offset of object i, or 0 if that is not before the offset table
abbrev pub marker_at : List ℕ → ℕ → ℕ
marker_at f i = let place = place_of f i in if nat_lt place (trailer_of f).table
    then slice_index_or f place 0 else 0

-- the length of an ASCII string, or 0
abbrev pub ascii_length_of : Result (List ℕ) ObjectFault → ℕ
ascii_length_of (Ok octets) = ascii_length octets
ascii_length_of (Err e) = 0

-- the content of object i and the bytes after it up to the offset table, or its first error
unfoldable pub object_at : List ℕ → ℕ → Result (Content × List ℕ) ObjectFault
object_at f i = do
  octets ← octets_at f i
  object_in (trailer_of f).reference_width octets

-- the content of object i, or its first error
unfoldable pub what_holds : List ℕ → ℕ → Result Content ObjectFault
what_holds f i = do
  read ← object_at f i
  Ok read.0

-- the units of a string, and none of anything else
abbrev pub units_in : Result Content ObjectFault → List ℕ
units_in (Ok (holds_scalar (text units))) = units
units_in (Ok (holds_scalar s)) = []
units_in (Ok (holds_list refs)) = []
units_in (Ok (holds_table keys values)) = []
units_in (Err e) = []

-- the offset of object i and that of the first byte after it, or its first error
unfoldable pub span_of : List ℕ → ℕ → Result (ℕ × ℕ) ObjectFault
span_of f i = do
  read ← object_at f i
  Ok (place_of f i, (trailer_of f).table - length read.1)

-- the length of the string of object i if it is marked as an ASCII string and is not cut, or 0
abbrev pub ascii_length_at : List ℕ → ℕ → ℕ
ascii_length_at f i = ascii_length_of (octets_at f i)

-- object i is one of the file's, and this is its content
pub record Holds (f : List ℕ) (i : ℕ) (held : Content) : Type 0 where
  pub listed : i < (trailer_of f).count
  pub reads : what_holds f i ≡ Ok held

abbrev pub HoldsScalar : List ℕ → ℕ → Type 0
HoldsScalar f i = (s : Scalar) × Holds f i (holds_scalar s)

abbrev pub HoldsText : List ℕ → ℕ → Type 0
HoldsText f i = (units : List ℕ) × Holds f i (holds_scalar (text units))
