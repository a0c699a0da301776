-- The content of one object (CFBinaryPList.c; the errors and their order are our profile).
use Rattle.std.specs.Prelude.{◌≡◌, ℕ, zero, suc, ◌+◌, ◌*◌, ◌/◌, ◌%◌, ◌==◌, nat_lt, if◌then◌else◌, ℤ}
use Rattle.std.specs.Prelude.{pos, true, false, List, [], ◌∷◌, length, take, drop, Result, Ok, Err}
use Rattle.std.specs.Prelude.{⊤}
use Rattle.std.specs.List.{list_all}
use Rattle.std.specs.Int.{w64, cast_signed}
use Rattle.byteorder.specs.Endian.{big_number}
use Rattle.plist_value.specs.Plist.{Scalar, text, whole, flag, real4, real8, moment, bytes}
use Rattle.plist_value.specs.Plist.{IsScalar}
use Rattle.plist_value.specs.Texts.{wide_units}
use Rattle.plist_object.specs.declared.object.ObjectFault.{ObjectFault}
use Rattle.plist_object.specs.declared.object.ObjectFault.TheVariants.{CutObject, BadMarker}
use Rattle.plist_object.specs.declared.object.ObjectFault.TheVariants.{NullObject, UidObject}
use Rattle.plist_object.specs.declared.object.ObjectFault.TheVariants.{SetObject, NotAscii}
use Rattle.plist_object.specs.declared.object.ObjectFault.TheVariants.{WideInteger}

-- a scalar, the references of an array, or the references of a dictionary to its keys and to its
-- values
pub data Content : Type 0 where
  holds_scalar : Scalar → Content
  holds_list : List ℕ → Content
  holds_table : List ℕ → List ℕ → Content

-- the numbers of a scalar are in their ranges, and a dictionary has equally many keys and values
abbrev pub IsContent : Content → Type 0
IsContent (holds_scalar s) = IsScalar s
IsContent (holds_list refs) = ⊤
IsContent (holds_table keys values) = length keys ≡ length values

infixl 10 ◌>>=◌
abbrev pub ◌>>=◌ : {A B : Type 0} → Result A ObjectFault → (A → Result B ObjectFault)
    → Result B ObjectFault
(Ok x) >>= f = f x
(Err e) >>= f = Err e

-- the first n bytes, and those after them
abbrev pub cut : ℕ → List ℕ → Result (List ℕ × List ℕ) ObjectFault
cut n octets = if nat_lt (length octets) n then Err CutObject else Ok (take n octets, drop n octets)

-- the number of bytes of the integer after a marker, from 10 to 14
abbrev pub integer_length : ℕ → Result ℕ ObjectFault
integer_length marker =
    if marker == 16 then Ok 1
    else (if marker == 17 then Ok 2
    else (if marker == 18 then Ok 4
    else (if marker == 19 then Ok 8
    else (if marker == 20 then Ok 16
    else Err BadMarker))))

-- a count, unsigned in all widths, and the bytes after it
unfoldable pub count_spelled : List ℕ → Result (ℕ × List ℕ) ObjectFault
count_spelled [] = Err CutObject
count_spelled (marker ∷ octets) = do
  n ← integer_length marker
  parts ← cut n octets
  Ok (big_number n parts.0, parts.1)

-- the count in the low half of a marker, or in the bytes after the marker if the half is 15
unfoldable pub count_of_content : ℕ → List ℕ → Result (ℕ × List ℕ) ObjectFault
count_of_content low octets = if nat_lt low 15 then Ok (low, octets) else count_spelled octets

-- the count, the bytes of that many items of `unit` bytes each, and the bytes after them
unfoldable pub content : ℕ → ℕ → List ℕ → Result (ℕ × List ℕ × List ℕ) ObjectFault
content unit low octets = do
  counted ← count_of_content low octets
  parts ← cut (counted.0 * unit) counted.1
  Ok (counted.0, parts.0, parts.1)

-- The number that all the bytes encode: two's complement in eight, else unsigned. Of sixteen bytes
-- the first eight are zero.
abbrev pub whole_in : ℕ → List ℕ → Result ℤ ObjectFault
whole_in n octets =
    if n == 16 then (if big_number 8 octets == 0 then Ok (pos (big_number 8 (drop 8 octets)))
    else Err WideInteger)
    else (if n == 8 then Ok (cast_signed w64 (big_number 8 octets))
    else Ok (pos (big_number n octets)))

-- n numbers of `width` bytes each
abbrev pub numbers : ℕ → ℕ → List ℕ → List ℕ
numbers width zero octets = []
numbers width (suc n) octets = big_number width octets ∷ numbers width n (drop width octets)

unfoldable pub simple_object : ℕ → List ℕ → Result (Content × List ℕ) ObjectFault
simple_object low octets =
    if low == 0 then Err NullObject
    else (if low == 8 then Ok (holds_scalar (flag false), octets)
    else (if low == 9 then Ok (holds_scalar (flag true), octets)
    else Err BadMarker))

unfoldable pub whole_object : ℕ → List ℕ → Result (Content × List ℕ) ObjectFault
whole_object low octets = do
  n ← integer_length (16 + low)
  parts ← cut n octets
  z ← whole_in n parts.0
  Ok (holds_scalar (whole z), parts.1)

unfoldable pub real_object : ℕ → List ℕ → Result (Content × List ℕ) ObjectFault
real_object low octets =
    if low == 2 then (cut 4 octets >>= λ parts. Ok (holds_scalar (real4 parts.0), parts.1))
    else (if low == 3 then (cut 8 octets >>= λ parts. Ok (holds_scalar (real8 parts.0), parts.1))
    else Err BadMarker)

unfoldable pub moment_object : ℕ → List ℕ → Result (Content × List ℕ) ObjectFault
moment_object low octets =
    if low == 3 then (cut 8 octets >>= λ parts. Ok (holds_scalar (moment parts.0), parts.1))
    else Err BadMarker

unfoldable pub data_object : ℕ → List ℕ → Result (Content × List ℕ) ObjectFault
data_object low octets = do
  c ← content 1 low octets
  Ok (holds_scalar (bytes c.1), c.2)

unfoldable pub ascii_object : ℕ → List ℕ → Result (Content × List ℕ) ObjectFault
ascii_object low octets = do
  c ← content 1 low octets
  if list_all (λ octet. nat_lt octet 128) c.1 then Ok (holds_scalar (text c.1), c.2)
      else Err NotAscii

unfoldable pub wide_object : ℕ → List ℕ → Result (Content × List ℕ) ObjectFault
wide_object low octets = do
  c ← content 2 low octets
  Ok (holds_scalar (text (wide_units c.1)), c.2)

unfoldable pub list_object : ℕ → ℕ → List ℕ → Result (Content × List ℕ) ObjectFault
list_object width low octets = do
  c ← content width low octets
  Ok (holds_list (numbers width c.0 c.1), c.2)

unfoldable pub table_object : ℕ → ℕ → List ℕ → Result (Content × List ℕ) ObjectFault
table_object width low octets = do
  c ← content (2 * width) low octets
  Ok (holds_table (numbers width c.0 c.1) (numbers width c.0 (drop (c.0 * width) c.1)), c.2)

-- by the two halves of the marker
unfoldable pub marked_object : ℕ → ℕ → ℕ → List ℕ → Result (Content × List ℕ) ObjectFault
marked_object width high low octets =
    if high == 0 then simple_object low octets
    else (if high == 1 then whole_object low octets
    else (if high == 2 then real_object low octets
    else (if high == 3 then moment_object low octets
    else (if high == 4 then data_object low octets
    else (if high == 5 then ascii_object low octets
    else (if high == 6 then wide_object low octets
    else (if high == 8 then Err UidObject
    else (if high == 10 then list_object width low octets
    else (if high == 12 then Err SetObject
    else (if high == 13 then table_object width low octets
    else Err BadMarker))))))))))

-- The content of the object that begins with these bytes, and the bytes after it, or its first
-- error. The bytes reach up to the offset table, and references have `width` bytes.
abbrev pub object_in : ℕ → List ℕ → Result (Content × List ℕ) ObjectFault
object_in width [] = Err CutObject
object_in width (marker ∷ octets) = marked_object width (marker / 16) (marker % 16) octets

-- the count, or 0 for an error
abbrev pub count_or_zero : Result (ℕ × List ℕ × List ℕ) ObjectFault → ℕ
count_or_zero (Ok counted) = counted.0
count_or_zero (Err e) = 0

-- the length of the string that begins with these bytes if it is marked as an ASCII string and is
-- not cut, or 0
abbrev pub ascii_length : List ℕ → ℕ
ascii_length [] = 0
ascii_length (marker ∷ octets) =
    if marker / 16 == 5 then count_or_zero (content 1 (marker % 16) octets) else 0
