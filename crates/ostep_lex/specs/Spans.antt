-- The spans of tokens, read from the start of the bytes.
use Rattle.std.specs.Prelude.{◌≡◌, ℕ, ◌+◌, List, [], ◌∷◌, ◌++◌, length}
use Rattle.ostep_lex.specs.Encoding.{Encoding, octets_of, encoding_of, mark_of}
use Rattle.ostep_lex.specs.Gap.{Gap}
use Rattle.ostep_lex.specs.Lexeme.{IsToken, Located}

-- The bytes from offset `at` on are those of a gap, of the token, which has the offsets that it
-- states, and other bytes.
pub record StandsFirst (e : Encoding) (at : ℕ) (octets : List ℕ) (token : Located)
    (others : List ℕ) : Type 0 where
  pub gap : List ℕ
  pub piece : List ℕ
  pub after : List ℕ
  pub is_gap : Gap (gap ++ (piece ++ after)) (piece ++ after)
  pub is_token : IsToken (piece ++ after) token.lexeme after
  pub spelled : octets ≡ octets_of e gap ++ (octets_of e piece ++ others)
  pub others_are : others ≡ octets_of e after
  pub start : token.start ≡ at + length (octets_of e gap)
  pub end : token.end ≡ token.start + length (octets_of e piece)

-- the bytes from offset `at` on are gaps and these tokens in order
abbrev pub StandInTurn : Encoding → ℕ → List ℕ → List Located → Type 0
StandInTurn e at octets [] = (gap : List ℕ) × Gap gap [] × (octets ≡ octets_of e gap)
StandInTurn e at octets (token ∷ tokens) = (others : List ℕ) × StandsFirst e at octets token others
    × StandInTurn e token.end others tokens

-- the bytes of an input after its byte order mark are gaps and these tokens in order
pub record HasSpans (octets : List ℕ) (tokens : List Located) : Type 0 where
  pub after : List ℕ
  pub marked : octets ≡ mark_of octets ++ after
  pub in_turn : StandInTurn (encoding_of octets) (length (mark_of octets)) after tokens
