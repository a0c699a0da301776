-- The tokens of a text, with their places and without.
use Rattle.std.proofs.Common.{◌≡◌, ℕ, List, [], ◌∷◌, refl, ap}
use Rattle.plist_value.specs.Plist.{Plist, IsPlist}
use Rattle.plist_value.specs.Limits.{Fits}
use Rattle.ostep_lex.specs.Encoding.{Offsets, offset, offsets_of}
use Rattle.ostep_lex.specs.Lexeme.{Lexeme, Located}
use Rattle.ostep_lex.specs.Lexing.{Lexes, none, next, HasTokens}
use Rattle.ostep_text.specs.Phrase.{TopPhrase}
use Rattle.ostep_text.specs.Text
use Rattle.ostep_text.specs.Text.{AreTokens, IsText, lexemes}

without-places : {p : Offsets} {text : List ℕ} {tokens : List Located} → Lexes p text tokens → AreTokens text (lexemes tokens)
without-places (none g) = Text.none g
without-places (next g t r) = Text.next g t (without-places r)

-- the bytes are a text if their tokens with places are a phrase
pub is-text : {octets : List ℕ} (v : Plist) (tokens : List Located) → HasTokens octets tokens → TopPhrase (lexemes tokens) v → IsPlist v → Fits v → IsText octets v
is-text v tokens h p i f = record {
  text = h.text;
  spells = h.spells;
  tokens = lexemes tokens;
  are = without-places h.lexes;
  phrase = p;
  is_plist = i;
  fits = f;
}

-- tokens with places, which are these
record Places (p : Offsets) (text : List ℕ) (ls : List Lexeme) : Type 0 where
  tokens : List Located
  lexes : Lexes p text tokens
  are : lexemes tokens ≡ ls

places : (p : Offsets) {text : List ℕ} {ls : List Lexeme} → AreTokens text ls → Places p text ls
places p (Text.none g) = record { tokens = []; lexes = none g; are = refl }
places p (Text.next {from = from} {after = after} {token = l} g t r) =
    let rest = places p r in
    record {
      tokens = record { lexeme = l; start = offset p from; end = offset p after } ∷ rest.tokens;
      lexes = next g t rest.lexes;
      are = ap (λ ls. l ∷ ls) rest.are;
    }

-- the tokens of a text have places
pub record Placed (octets : List ℕ) (ls : List Lexeme) : Type 0 where
  pub tokens : List Located
  pub has : HasTokens octets tokens
  pub are : lexemes tokens ≡ ls

pub placed : {octets : List ℕ} {v : Plist} (t : IsText octets v) → Placed octets t.tokens
placed {octets} t =
    let p = places (offsets_of octets) t.are in
    record {
      tokens = p.tokens;
      has = record { text = t.text; spells = t.spells; lexes = p.lexes };
      are = p.are;
    }
