-- Tokens and their spans.
use Rattle.std.specs.Prelude.{◌≡◌, ℕ, true, false, nat_eq, List, [], ◌∷◌, ◌++◌, zip, codes, Option}
use Rattle.std.specs.Prelude.{Some}
use Rattle.std.specs.Map.{lookup}
use Rattle.ostep_lex.specs.declared.token.TokenKind.{TokenKind}
use Rattle.ostep_lex.specs.declared.token.TokenKind.TheVariants.{BraceOpen, BraceClose, ParenOpen}
use Rattle.ostep_lex.specs.declared.token.TokenKind.TheVariants.{ParenClose, Comma, Semicolon}
use Rattle.ostep_lex.specs.declared.token.TokenKind.TheVariants.{Equals, Text, Octets as OctetsKind}
use Rattle.ostep_lex.specs.declared.token.Token.{Token}
use Rattle.ostep_lex.specs.declared.token.PlainToken.{PlainToken}
use Rattle.plist_value.specs.Texts.{units_of}
use Rattle.ostep_lex.specs.Character.{is_run, is_quote}
use Rattle.ostep_lex.specs.Gap.{begins_comment}
use Rattle.ostep_lex.specs.Quoted.{Run, Quoted}
use Rattle.ostep_lex.specs.Octets.{Octets}

pub data Lexeme : Type 0 where
  brace_open : Lexeme
  brace_close : Lexeme
  paren_open : Lexeme
  paren_close : Lexeme
  comma : Lexeme
  semicolon : Lexeme
  equals : Lexeme
  text : List ℕ → Lexeme
  octets : List ℕ → Lexeme

-- the punctuation token of a character, if it is one
abbrev pub mark_token : ℕ → Option Lexeme
mark_token c =
    lookup (nat_eq c) (zip (codes "{}(),;=")
    (brace_open ∷ brace_close ∷ paren_open ∷ paren_close ∷ comma ∷ semicolon ∷ equals ∷ []))

-- the text is a token, followed by the last list
pub data IsToken : List ℕ → Lexeme → List ℕ → Type 0 where
  mark : {c : ℕ} {lexeme : Lexeme} {rest : List ℕ} → mark_token c ≡ Some lexeme
      → IsToken (c ∷ rest) lexeme rest
  run : {c : ℕ} {rest units after : List ℕ} → is_run c ≡ true → begins_comment (c ∷ rest) ≡ false
      → Run rest units after → IsToken (c ∷ rest) (text (c ∷ units)) after
  quoted : {c : ℕ} {rest units after : List ℕ} → is_quote c ≡ true → Quoted c rest units after
      → IsToken (c ∷ rest) (text units) after
  data_token : {rest bytes after : List ℕ} → Octets rest bytes after
      → IsToken (codes "<" ++ rest) (octets bytes) after

-- a token, with the offset of its first byte and the offset after its last
pub record Located : Type 0 where
  pub lexeme : Lexeme
  pub start : ℕ
  pub end : ℕ

-- the token without its span
abbrev pub lexeme_of : TokenKind → Lexeme
lexeme_of BraceOpen = brace_open
lexeme_of BraceClose = brace_close
lexeme_of ParenOpen = paren_open
lexeme_of ParenClose = paren_close
lexeme_of Comma = comma
lexeme_of Semicolon = semicolon
lexeme_of Equals = equals
lexeme_of (Text units) = text units
lexeme_of (OctetsKind bytes) = octets bytes.items

abbrev pub located : Token → Located
located token = record { lexeme = lexeme_of token.kind; start = token.start; end = token.end }

abbrev pub placed_plain : PlainToken → Located
placed_plain token =
    record { lexeme = text (units_of token.text); start = token.start; end = token.end }
