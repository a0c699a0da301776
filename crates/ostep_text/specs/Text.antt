-- The texts of a value.
use Rattle.std.specs.Prelude.{ℕ, List, [], ◌∷◌, map}
use Rattle.plist_value.specs.Plist.{Plist, IsPlist}
use Rattle.plist_value.specs.Limits.{Fits}
use Rattle.ostep_lex.specs.Encoding.{Spells}
use Rattle.ostep_lex.specs.Gap.{Gap}
use Rattle.ostep_lex.specs.Lexeme.{Lexeme, IsToken, Located}
use Rattle.ostep_text.specs.Phrase.{TopPhrase}

-- the characters are a gap, a token, a gap, .., a token, a gap, with these tokens in order
pub data AreTokens : List ℕ → List Lexeme → Type 0 where
  none : {text : List ℕ} → Gap text [] → AreTokens text []
  next : {text from after : List ℕ} {token : Lexeme} {tokens : List Lexeme} → Gap text from
      → IsToken from token after → AreTokens after tokens → AreTokens text (token ∷ tokens)

-- the bytes encode characters whose tokens are a phrase of the value, which is within the limits
pub record IsText (octets : List ℕ) (v : Plist) : Type 0 where
  pub text : List ℕ
  pub spells : Spells octets text
  pub tokens : List Lexeme
  pub are : AreTokens text tokens
  pub phrase : TopPhrase tokens v
  pub is_plist : IsPlist v
  pub fits : Fits v

-- the bytes are not a text of any value
abbrev pub IsNoText : List ℕ → Type 0
IsNoText octets = (v : Plist) → IsText octets v → ⊥

-- the tokens without their places
abbrev pub lexemes : List Located → List Lexeme
lexemes tokens = map (λ token. token.lexeme) tokens
