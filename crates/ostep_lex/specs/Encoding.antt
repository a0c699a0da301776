-- The characters of an input, and the offsets of its bytes.
use Rattle.std.specs.Prelude.{◌≡◌, ℕ, ◌+◌, ◌-◌, ◌/◌, ◌%◌, ◌<◌, true, List, [], ◌∷◌, ◌++◌, length}
use Rattle.std.specs.Prelude.{nat_eq, if◌then◌else◌, encode_utf8}
use Rattle.std.specs.List.{starts_with, flat_map}
use Rattle.std.specs.Str.{all_scalars}
use Rattle.std.specs.Char.{IsScalar}
use Rattle.std.specs.Char.Escape.{encode_utf16}

-- how an input encodes its characters
pub data Encoding : Type 0 where
  utf8 : Encoding
  utf16_big : Encoding
  utf16_little : Encoding

-- the byte order marks that an input may begin with
abbrev pub big_mark : List ℕ
big_mark = 0xfe ∷ 0xff ∷ []

abbrev pub little_mark : List ℕ
little_mark = 0xff ∷ 0xfe ∷ []

abbrev pub utf8_mark : List ℕ
utf8_mark = 0xef ∷ 0xbb ∷ 0xbf ∷ []

-- the encoding that the first bytes determine
abbrev pub encoding_of : List ℕ → Encoding
encoding_of octets =
    if starts_with nat_eq octets big_mark then utf16_big
    else (if starts_with nat_eq octets little_mark then utf16_little
    else utf8)

-- the byte order mark that the bytes begin with, or nothing
abbrev pub mark_of : List ℕ → List ℕ
mark_of octets =
    if starts_with nat_eq octets big_mark then big_mark
    else (if starts_with nat_eq octets little_mark then little_mark
    else (if starts_with nat_eq octets utf8_mark then utf8_mark
    else []))

-- the two bytes of a UTF-16 unit
abbrev pub big_endian : ℕ → List ℕ
big_endian unit = (unit / 256) ∷ (unit % 256) ∷ []

abbrev pub little_endian : ℕ → List ℕ
little_endian unit = (unit % 256) ∷ (unit / 256) ∷ []

-- the bytes of one character
abbrev pub spelling : Encoding → ℕ → List ℕ
spelling utf8 c = encode_utf8 c
spelling utf16_big c = flat_map big_endian (encode_utf16 c)
spelling utf16_little c = flat_map little_endian (encode_utf16 c)

-- the bytes of a text
abbrev pub octets_of : Encoding → List ℕ → List ℕ
octets_of e [] = []
octets_of e (c ∷ cs) = spelling e c ++ octets_of e cs

-- the input is a byte order mark or none, followed by the characters of the text
pub record Spells (octets text : List ℕ) : Type 0 where
  pub scalars : all_scalars text ≡ true
  pub spelled : octets ≡ mark_of octets ++ octets_of (encoding_of octets) text

-- what the offsets of an input depend on
pub record Offsets : Type 0 where
  pub encoding : Encoding
  pub end : ℕ

abbrev pub offsets_of : List ℕ → Offsets
offsets_of octets = record { encoding = encoding_of octets; end = length octets }

-- the offset at which the rest of a text begins, counted from the end
abbrev pub offset : Offsets → List ℕ → ℕ
offset p rest = p.end - length (octets_of p.encoding rest)

-- the bytes are a character followed by other bytes; or no character is at their start
pub record BeginsWith (e : Encoding) (octets : List ℕ) (c : ℕ) (after : List ℕ) : Type 0 where
  pub scalar : IsScalar c
  pub spelled : octets ≡ spelling e c ++ after

abbrev pub BeginsWithNone : Encoding → List ℕ → Type 0
BeginsWithNone e octets = (c : ℕ) (after : List ℕ) → BeginsWith e octets c after → ⊥

-- Complete characters precede the position, there is a byte at it, and no character begins there.
-- The bytes are those after a byte order mark, and they end where the input ends.
pub record StopsAfter (e : Encoding) (octets : List ℕ) (end at : ℕ) : Type 0 where
  pub before : List ℕ
  pub rest : List ℕ
  pub whole : all_scalars before ≡ true
  pub split : octets ≡ octets_of e before ++ rest
  pub counted : at + length rest ≡ end
  pub octet : 0 < length rest
  pub none : BeginsWithNone e rest

pub record StopsAt (octets : List ℕ) (at : ℕ) : Type 0 where
  pub text : List ℕ
  pub marked : octets ≡ mark_of octets ++ text
  pub stops : StopsAfter (encoding_of octets) text (length octets) at
