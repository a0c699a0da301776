-- The representation of an input in the code: the remaining bytes, and their encoding.
use Rattle.std.specs.Prelude.{◌≡◌, ℕ, ◌+◌, ◌*◌, List, [], ◌∷◌, ◌++◌, map, true, chars, unwrap_or}
use Rattle.std.specs.Prelude.{length, ◌≤◌}
use Rattle.std.specs.Str.{all_scalars}
use Rattle.std.specs.Char.Utf16.{utf16_chars}
use Rattle.ostep_lex.specs.declared.remaining.ByteOrder.{ByteOrder}
use Rattle.ostep_lex.specs.declared.remaining.ByteOrder.TheVariants.{Big, Little}
use Rattle.ostep_lex.specs.declared.remaining.Remaining.{Remaining}
use Rattle.ostep_lex.specs.declared.remaining.Remaining.TheVariants.{Utf8, Utf16}
use Rattle.ostep_lex.specs.Encoding.{Encoding, utf8, utf16_big, utf16_little, big_endian}
use Rattle.ostep_lex.specs.Encoding.{little_endian, octets_of}

abbrev pub encoding_by : ByteOrder → Encoding
encoding_by Big = utf16_big
encoding_by Little = utf16_little

-- the two bytes of a unit, and the unit of two bytes
abbrev pub unit_octets : ByteOrder → ℕ → List ℕ
unit_octets Big unit = big_endian unit
unit_octets Little unit = little_endian unit

abbrev pub unit_of : ByteOrder → ℕ → ℕ → ℕ
unit_of Big first second = first * 256 + second
unit_of Little first second = second * 256 + first

abbrev pub units_in : ByteOrder → List ℕ → List ℕ
units_in order (first ∷ second ∷ rest) = unit_of order first second ∷ units_in order rest
units_in order _ = []

-- complete characters precede the rest
pub record FrontsOf (e : Encoding) (octets rest : List ℕ) : Type 0 where
  pub before : List ℕ
  pub whole : all_scalars before ≡ true
  pub split : octets ≡ octets_of e before ++ rest

-- the characters of UTF-16 bytes, if they are complete
unfoldable pub utf16_characters : ByteOrder → List ℕ → List ℕ
utf16_characters order octets = map (λ c. unwrap_or c 0) (utf16_chars (units_in order octets))

abbrev pub encoding_in : Remaining → Encoding
encoding_in (Utf8 octets) = utf8
encoding_in (Utf16 order octets) = encoding_by order

abbrev pub octets_in : Remaining → List ℕ
octets_in (Utf8 octets) = octets.now
octets_in (Utf16 order octets) = octets.now

abbrev pub characters_in : Remaining → List ℕ
characters_in (Utf8 octets) = chars octets.now
characters_in (Utf16 order octets) = utf16_characters order octets.now

-- the bytes are those of the characters
pub record IsWhole (remaining : Remaining) : Type 0 where
  pub scalars : all_scalars (characters_in remaining) ≡ true
  pub spelled : octets_of (encoding_in remaining) (characters_in remaining) ≡ octets_in remaining

-- a character is first, followed by complete characters of the same encoding
pub record Leads (remaining : Remaining) (c : ℕ) (after : Remaining) : Type 0 where
  pub text : characters_in remaining ≡ c ∷ characters_in after
  pub whole : IsWhole after
  pub encoding : encoding_in after ≡ encoding_in remaining
  pub shorter : length (octets_in after) ≤ length (octets_in remaining)
