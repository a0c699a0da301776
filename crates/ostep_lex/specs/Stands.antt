-- The faults of a text. Each relation is between the text at a position and the fault that is found
-- on reading from there.
use Rattle.std.specs.Prelude.{◌≡◌, ℕ, ◌<◌, Bool, true, false, ◌||◌, ◌==◌, List, [], ◌∷◌, Some, None}
use Rattle.std.specs.Prelude.{◌++◌, nat_eq, codes}
use Rattle.std.specs.Char.{is_digit}
use Rattle.std.specs.List.{starts_with}
use Rattle.ostep_lex.specs.declared.fault.LexFault.{LexFault}
use Rattle.ostep_lex.specs.declared.fault.LexFault.TheVariants.{BadUtf8, XmlForm}
use Rattle.ostep_lex.specs.declared.fault.LexFault.TheVariants.{UnexpectedCharacter, UnclosedString}
use Rattle.ostep_lex.specs.declared.fault.LexFault.TheVariants.{UnclosedComment, BadEscape}
use Rattle.ostep_lex.specs.declared.fault.LexFault.TheVariants.{OctalRange, OddData, BadData}
use Rattle.ostep_lex.specs.declared.fault.LexFault.TheVariants.{BadUtf16, OutOfMemory}
use Rattle.ostep_lex.specs.Encoding.{Spells, Offsets, offsets_of}
use Rattle.ostep_lex.specs.Encoding.{offset, StopsAt, encoding_of, utf8}
use Rattle.ostep_lex.specs.Character.{is_white, is_run, is_quote}
use Rattle.ostep_lex.specs.Digits.{begins_digit, number_from}
use Rattle.ostep_lex.specs.Gap.{Gap, NeverCloses}
use Rattle.ostep_lex.specs.Quoted.{Piece}
use Rattle.ostep_lex.specs.Octets.{OctetsPiece}
use Rattle.ostep_lex.specs.Lexeme.{Lexeme, mark_token, Located}
use Rattle.ostep_lex.specs.Lexing.{BeginsWithTokens}

-- an escape, from its backslash on, in a string whose quote is at offset start
pub data EscapeFault (p : Offsets) (start : ℕ) : List ℕ → LexFault → Type 0 where
  cut_escape : EscapeFault p start (codes "\\") (UnclosedString start)
  no_digit : {rest : List ℕ} → begins_digit 16 rest ≡ false
      → EscapeFault p start (codes "\\U" ++ rest)
      (BadEscape (offset p (codes "\\U" ++ rest)))
  too_high : {rest : List ℕ} → begins_digit 8 rest ≡ true → 0x7f < (number_from 8 3 0 rest).value
      → EscapeFault p start (codes "\\" ++ rest) (OctalRange (offset p (codes "\\" ++ rest)))

-- after a quote at offset start: pieces, and then no end or a faulty escape
pub data QuotedFault (p : Offsets) (start mark : ℕ) : List ℕ → LexFault → Type 0 where
  cut_string : QuotedFault p start mark [] (UnclosedString start)
  escape : {text : List ℕ} {fault : LexFault} → EscapeFault p start text fault
      → QuotedFault p start mark text fault
  piece : {text units rest : List ℕ} {fault : LexFault} → Piece mark text units rest
      → QuotedFault p start mark rest fault
      → QuotedFault p start mark text fault

-- whether whitespace, `>` or a pair of digits may begin with the character
abbrev pub is_of_data : ℕ → Bool
is_of_data c = is_white c || is_digit c 16 || (c == 62)

-- after `<`: pieces, and then no end, a character not allowed in data, or a single digit
pub data OctetsFault (p : Offsets) : List ℕ → LexFault → Type 0 where
  cut_data : OctetsFault p [] (BadData (offset p []))
  other : {c : ℕ} {rest : List ℕ} → is_of_data c ≡ false
      → OctetsFault p (c ∷ rest) (BadData (offset p (c ∷ rest)))
  odd : {c : ℕ} {rest : List ℕ} → is_digit c 16 ≡ true → begins_digit 16 rest ≡ false
      → OctetsFault p (c ∷ rest) (OddData (offset p (c ∷ rest)))
  piece : {text octets rest : List ℕ} {fault : LexFault} → OctetsPiece text octets rest
      → OctetsFault p rest fault
      → OctetsFault p text fault

-- whether the character begins whitespace, or a token other than punctuation
abbrev pub begins_other : ℕ → Bool
begins_other c = is_white c || is_run c || is_quote c || (c == 60)

-- at a position where a token or a comment should begin
pub data FaultAt (p : Offsets) : List ℕ → LexFault → Type 0 where
  unexpected : {c : ℕ} {rest : List ℕ} → mark_token c ≡ None → begins_other c ≡ false
      → FaultAt p (c ∷ rest) (UnexpectedCharacter (offset p (c ∷ rest)))
  comment : {rest : List ℕ} → NeverCloses rest
      → FaultAt p (codes "/*" ++ rest) (UnclosedComment (offset p (codes "/*" ++ rest)))
  quoted : {c : ℕ} {rest : List ℕ} {fault : LexFault} → is_quote c ≡ true
      → QuotedFault p (offset p (c ∷ rest)) c rest fault
      → FaultAt p (c ∷ rest) fault
  data_token : {rest : List ℕ} {fault : LexFault} → OctetsFault p rest fault
      → FaultAt p (codes "<" ++ rest) fault

-- after a gap
pub data FaultAfterGap (p : Offsets) : List ℕ → LexFault → Type 0 where
  gap : {text from : List ℕ} {fault : LexFault} → Gap text from → FaultAt p from fault
      → FaultAfterGap p text fault

-- whitespace characters, or nothing
pub data White : List ℕ → List ℕ → Type 0 where
  none : {rest : List ℕ} → White rest rest
  more : {c : ℕ} {rest after : List ℕ} → is_white c ≡ true → White rest after
      → White (c ∷ rest) after

-- whether a whitespace character is first
abbrev pub begins_white : List ℕ → Bool
begins_white [] = false
begins_white (c ∷ rest) = is_white c

-- whitespace is not followed by the mark
abbrev pub LacksMark : ℕ → List ℕ → Type 0
LacksMark mark text = (lexeme : Lexeme) (after : List ℕ) → mark_token mark ≡ Some lexeme
    → White text (mark ∷ after) → ⊥

-- whether an XML property list begins at the text
abbrev pub begins_xml : List ℕ → Bool
begins_xml text = starts_with nat_eq text (codes "<?xml")
    || starts_with nat_eq text (codes "<!DOCTYPE") || starts_with nat_eq text (codes "<plist")

-- the bytes are those of a text in which the fault follows tokens and a gap
pub record HasFault (octets : List ℕ) (fault : LexFault) : Type 0 where
  pub tokens : List Located
  pub rest : List ℕ
  pub before : BeginsWithTokens octets tokens rest
  pub stands : FaultAfterGap (offsets_of octets) rest fault

-- the bytes are those of a text that begins, after whitespace, like an XML property list
pub record HasXml (octets : List ℕ) (at : ℕ) : Type 0 where
  pub text : List ℕ
  pub spells : Spells octets text
  pub from : List ℕ
  pub white : White text from
  pub begins : begins_xml from ≡ true
  pub stands : at ≡ offset (offsets_of octets) from

-- the fault is true of the bytes, at its offset
abbrev pub StandsInTokens : List ℕ → LexFault → Type 0
StandsInTokens octets (BadUtf8 at) = (encoding_of octets ≡ utf8) × StopsAt octets at
StandsInTokens octets (BadUtf16 at) = ¬ (encoding_of octets ≡ utf8) × StopsAt octets at
StandsInTokens octets (XmlForm at) = HasXml octets at
StandsInTokens octets OutOfMemory = Unit {0}
StandsInTokens octets (UnexpectedCharacter at) = HasFault octets (UnexpectedCharacter at)
StandsInTokens octets (UnclosedString at) = HasFault octets (UnclosedString at)
StandsInTokens octets (UnclosedComment at) = HasFault octets (UnclosedComment at)
StandsInTokens octets (BadEscape at) = HasFault octets (BadEscape at)
StandsInTokens octets (OctalRange at) = HasFault octets (OctalRange at)
StandsInTokens octets (OddData at) = HasFault octets (OddData at)
StandsInTokens octets (BadData at) = HasFault octets (BadData at)
