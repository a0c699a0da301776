-- Laws of the definitions alone.
use Rattle.std.specs.Prelude.{◌≡◌, ℕ, List, ◌++◌}
use Rattle.ostep_lex.specs.declared.fault.LexFault.{LexFault}
use Rattle.ostep_lex.specs.declared.fault.LexFault.TheVariants.{OutOfMemory}
use Rattle.ostep_lex.specs.Encoding.{offsets_of}
use Rattle.ostep_lex.specs.Lexeme.{Located}
use Rattle.ostep_lex.specs.Lexing.{HasTokens, HasNoTokens, BeginsWithTokens, Lexes}
use Rattle.ostep_lex.specs.Spans.{HasSpans}
use Rattle.ostep_lex.specs.Stands.{StandsInTokens}

-- no bytes have two lists of tokens
abbrev pub OneLexing : Type 0
OneLexing = (octets : List ℕ) (tokens others : List Located) → HasTokens octets tokens
    → HasTokens octets others → tokens ≡ others

-- bytes with a fault have no tokens
abbrev pub FaultyHasNone : Type 0
FaultyHasNone = (octets : List ℕ) (fault : LexFault) → StandsInTokens octets fault
    → ¬ (fault ≡ OutOfMemory)
    → HasNoTokens octets

-- the tokens at the start of the bytes are the first of all their tokens, and the others are in the
-- rest
pub record Continues (octets : List ℕ) (tokens all : List Located) (rest : List ℕ) : Type 0 where
  pub others : List Located
  pub first : all ≡ tokens ++ others
  pub lexes : Lexes (offsets_of octets) rest others

abbrev pub TokensContinue : Type 0
TokensContinue = (octets : List ℕ) (tokens all : List Located) (rest : List ℕ)
    → BeginsWithTokens octets tokens rest → HasTokens octets all
    → Continues octets tokens all rest

-- Tokens follow one another, with gaps before, between and after them, and the bytes of each span
-- encode its token.
abbrev pub SpansSpell : Type 0
SpansSpell = (octets : List ℕ) (tokens : List Located) → HasTokens octets tokens
    → HasSpans octets tokens
