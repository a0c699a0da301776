-- The tokens of a text.
use Rattle.std.specs.Prelude.{ℕ, List, [], ◌∷◌}
use Rattle.ostep_lex.specs.Encoding.{Spells, Offsets, offsets_of, offset}
use Rattle.ostep_lex.specs.Gap.{Gap}
use Rattle.ostep_lex.specs.Lexeme.{Lexeme, IsToken, Located}

-- The text is a gap, a token, a gap, .., a token, a gap, with these tokens in order. Each starts at
-- the offset of its text and ends at the offset of the text after it.
pub data Lexes (p : Offsets) : List ℕ → List Located → Type 0 where
  none : {text : List ℕ} → Gap text [] → Lexes p text []
  next : {text from after : List ℕ} {lexeme : Lexeme} {tokens : List Located} → Gap text from
      → IsToken from lexeme after
      → Lexes p after tokens
      → Lexes p text (record { lexeme = lexeme; start = offset p from; end = offset p after }
      ∷ tokens)

-- the bytes are those of a text with these tokens
pub record HasTokens (octets : List ℕ) (tokens : List Located) : Type 0 where
  pub text : List ℕ
  pub spells : Spells octets text
  pub lexes : Lexes (offsets_of octets) text tokens

-- the bytes are not those of a text that has tokens
abbrev pub HasNoTokens : List ℕ → Type 0
HasNoTokens octets = (tokens : List Located) → HasTokens octets tokens → ⊥

-- gaps and these tokens in order precede the rest of the text
pub data LexesTo (p : Offsets) (rest : List ℕ) : List ℕ → List Located → Type 0 where
  here : LexesTo p rest rest []
  token : {text from after : List ℕ} {lexeme : Lexeme} {tokens : List Located} → Gap text from
      → IsToken from lexeme after
      → LexesTo p rest after tokens
      → LexesTo p rest text (record { lexeme = lexeme; start = offset p from; end = offset p after }
      ∷ tokens)

-- the bytes are those of a text in which these tokens precede the rest
pub record BeginsWithTokens (octets : List ℕ) (tokens : List Located) (rest : List ℕ) : Type 0 where
  pub text : List ℕ
  pub spells : Spells octets text
  pub lexes : LexesTo (offsets_of octets) rest text tokens
