-- The position of a cursor.
use Rattle.std.specs.Prelude.{◌≡◌, ℕ, ◌<◌, Bool, true, false, ◌==◌, List, [], ◌∷◌, ◌++◌, length}
use Rattle.ostep_lex.specs.declared.cursor.Cursor.{Cursor}
use Rattle.ostep_lex.specs.Encoding.{Encoding, Offsets, offset, offsets_of, octets_of, Spells}
use Rattle.ostep_lex.specs.Lexing.{BeginsWithTokens}
use Rattle.std.specs.Str.{all_scalars}
use Rattle.ostep_lex.specs.declared.fault.LexFault.{LexFault}
use Rattle.ostep_lex.specs.declared.fault.LexFault.TheVariants.{BadUtf8, BadUtf16, OutOfMemory}
use Rattle.std.specs.Char.{is_digit, digit_value}
use Rattle.ostep_lex.specs.Lexeme.{Lexeme, IsToken, Located}
use Rattle.ostep_lex.specs.Quoted.{Piece, Quoted, Run}
use Rattle.ostep_lex.specs.Octets.{OctetsPiece, Octets}
use Rattle.ostep_lex.specs.Gap.{GapPiece, Gap, begins_gap}
use Rattle.ostep_lex.specs.Remaining.{characters_in, encoding_in}
use Rattle.ostep_lex.specs.declared.stretch.Class.{Class}
use Rattle.ostep_lex.specs.Stretch.{is_stretch}

-- the characters from the cursor on
unfoldable pub ahead : Cursor → List ℕ
ahead cursor = characters_in cursor.remaining

-- what the offsets of its input depend on
unfoldable pub offsets_in : Cursor → Offsets
offsets_in cursor = record { encoding = encoding_in cursor.remaining; end = cursor.end }

-- the offset of the cursor
abbrev pub offset_at : Cursor → ℕ
offset_at cursor = offset (offsets_in cursor) (ahead cursor)

-- another position in the same input
abbrev pub SameInput : Cursor → Cursor → Type 0
SameInput old new = offsets_in new ≡ offsets_in old

-- the cursor is at the start of all characters of the bytes, which are the end of an input of `end`
-- bytes
pub record Holds (e : Encoding) (octets : List ℕ) (end : ℕ) (cursor : Cursor) : Type 0 where
  pub scalars : all_scalars (ahead cursor) ≡ true
  pub spelled : octets ≡ octets_of e (ahead cursor)
  pub offsets : offsets_in cursor ≡ record { encoding = e; end = end }

-- the cursor is at the start of the text of the input
pub record Opens (octets : List ℕ) (cursor : Cursor) : Type 0 where
  pub spells : Spells octets (ahead cursor)
  pub offsets : offsets_in cursor ≡ offsets_of octets

-- the cursor is after these tokens of the input
pub record IsAfter (octets : List ℕ) (tokens : List Located) (cursor : Cursor) : Type 0 where
  pub before : BeginsWithTokens octets tokens (ahead cursor)
  pub offsets : offsets_in cursor ≡ offsets_of octets

-- whether the text begins with the character
abbrev pub begins_with : ℕ → List ℕ → Bool
begins_with c [] = false
begins_with c (d ∷ rest) = d == c

-- these characters are between the old and the new cursor, a stretch of the class
pub record PassesStretch (kind : Class) (old : Cursor) (front : List ℕ)
    (new : Cursor) : Type 0 where
  pub stretch : is_stretch 0xD800 kind front ≡ true
  pub text : ahead old ≡ front ++ ahead new
  pub input : SameInput old new

-- some stretch of the class is between the old and the new cursor
pub record SkipsStretch (kind : Class) (old new : Cursor) : Type 0 where
  pub front : List ℕ
  pub passes : PassesStretch kind old front new

pub record StretchAppends (kind : Class) (units more : List ℕ) (old new : Cursor) : Type 0 where
  pub front : List ℕ
  pub passes : PassesStretch kind old front new
  pub appended : more ≡ units ++ front

-- a piece of a gap is between the old and the new cursor
pub record PassesPiece (old new : Cursor) : Type 0 where
  pub piece : GapPiece (ahead old) (ahead new)
  pub input : SameInput old new
  pub shorter : length (ahead new) < length (ahead old)

pub record PassesGap (old new : Cursor) : Type 0 where
  pub gap : Gap (ahead old) (ahead new)
  pub whole : begins_gap (ahead new) ≡ false
  pub input : SameInput old new

-- a piece of a quoted string is between the old and the new cursor, and its units are appended
pub record PieceAppends (mark : ℕ) (units more : List ℕ) (old new : Cursor) : Type 0 where
  pub units_of : List ℕ
  pub piece : Piece mark (ahead old) units_of (ahead new)
  pub appended : more ≡ units ++ units_of
  pub input : SameInput old new

pub record PassesQuoted (mark : ℕ) (old new : Cursor) (units : List ℕ) : Type 0 where
  pub quoted : Quoted mark (ahead old) units (ahead new)
  pub input : SameInput old new

pub record PassesRun (old new : Cursor) (units : List ℕ) : Type 0 where
  pub run : Run (ahead old) units (ahead new)
  pub input : SameInput old new

pub record OctetsAppends (octets more : List ℕ) (old new : Cursor) : Type 0 where
  pub octets_of : List ℕ
  pub piece : OctetsPiece (ahead old) octets_of (ahead new)
  pub appended : more ≡ octets ++ octets_of
  pub input : SameInput old new

pub record PassesOctets (old new : Cursor) (octets : List ℕ) : Type 0 where
  pub bytes : Octets (ahead old) octets (ahead new)
  pub input : SameInput old new

-- a hexadecimal digit of this value is between the old and the new cursor
pub record PassesDigit (value : ℕ) (old new : Cursor) : Type 0 where
  pub digit : ℕ
  pub first : ahead old ≡ digit ∷ ahead new
  pub hexadecimal : is_digit digit 16 ≡ true
  pub valued : value ≡ digit_value digit
  pub input : SameInput old new

-- a token is between the old and the new cursor
pub record PassesToken (lexeme : Lexeme) (old new : Cursor) : Type 0 where
  pub token : IsToken (ahead old) lexeme (ahead new)
  pub input : SameInput old new

-- unless memory ran out, P is true of the fault
abbrev pub UnlessMemory : (LexFault → Type 0) → LexFault → Type 0
UnlessMemory P fault = ¬ (fault ≡ OutOfMemory) → P fault

-- the fault is that no character begins at an offset of which P is true
abbrev pub IsBadUtf8 : (ℕ → Type 0) → LexFault → Type 0
IsBadUtf8 P fault = (at : ℕ) × (fault ≡ BadUtf8 at) × P at

abbrev pub IsBadUtf16 : (ℕ → Type 0) → LexFault → Type 0
IsBadUtf16 P fault = (at : ℕ) × (fault ≡ BadUtf16 at) × P at
