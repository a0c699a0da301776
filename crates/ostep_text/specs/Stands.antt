-- Which fault of a text is true, and where.
use Rattle.std.specs.Prelude.{◌≡◌, ℕ, ◌+◌, ◌*◌, ◌<◌, ◌≤◌, true, List, [], ◌∷◌, ◌++◌, length, ⊤}
use Rattle.plist_value.specs.Plist.{Plist, Pairs}
use Rattle.plist_value.specs.declared.TheConstants.{MAX_NODES, MAX_DEPTH, MAX_PAYLOAD}
use Rattle.ostep_lex.specs.Lexeme.{Lexeme, text as string, octets as data_token, Located}
use Rattle.ostep_lex.specs.Lexing.{HasTokens}
use Rattle.ostep_lex.specs.declared.fault.LexFault.TheVariants as tokens
use Rattle.ostep_lex.specs.Stands.{StandsInTokens as StandsInTokens}
use Rattle.ostep_text.specs.declared.fault.TextFault.{TextFault}
use Rattle.ostep_text.specs.declared.fault.TextFault.TheVariants.{BadUtf8, XmlForm}
use Rattle.ostep_text.specs.declared.fault.TextFault.TheVariants.{UnexpectedCharacter}
use Rattle.ostep_text.specs.declared.fault.TextFault.TheVariants.{UnclosedString, UnclosedComment}
use Rattle.ostep_text.specs.declared.fault.TextFault.TheVariants.{BadEscape, OctalRange, OddData}
use Rattle.ostep_text.specs.declared.fault.TextFault.TheVariants.{BadData, BadUtf16, DuplicateKey}
use Rattle.ostep_text.specs.declared.fault.TextFault.TheVariants.{TooDeep, TooManyNodes}
use Rattle.ostep_text.specs.declared.fault.TextFault.TheVariants.{TooMuchPayload, Expected, Junk}
use Rattle.ostep_text.specs.declared.fault.TextFault.TheVariants.{OutOfMemory}
use Rattle.ostep_text.specs.Phrase.{RowsPhrase, TopPhrase}
use Rattle.ostep_text.specs.Sorting.{has_key}
use Rattle.ostep_text.specs.Begun.{Before, RowsAt, NodeAt}
use Rattle.ostep_text.specs.Text.{lexemes}

-- where the first token begins, or the number of bytes
abbrev pub start_of : List ℕ → List Located → ℕ
start_of octets [] = length octets
start_of octets (token ∷ others) = token.start

-- the bytes have tokens, these before offset `at` and those from it on
pub record Splits (octets : List ℕ) (at : ℕ) (before from : List Lexeme) : Type 0 where
  pub tokens : List Located
  pub others : List Located
  pub has : HasTokens octets (tokens ++ others)
  pub before_are : lexemes tokens ≡ before
  pub from_are : lexemes others ≡ from
  pub stands : at ≡ start_of octets others

-- a value or a key begins at this byte
pub record BeginsAt (octets : List ℕ) (at : ℕ) (b : Before) (from : List Lexeme) : Type 0 where
  pub before : List Lexeme
  pub splits : Splits octets at before from
  pub begins : NodeAt (before ++ from) b from

-- DuplicateKey: a key begins at this byte that an earlier row of its dictionary has
pub record HasKeyTwice (octets : List ℕ) (at : ℕ) : Type 0 where
  pub key : List ℕ
  pub before : List Lexeme
  pub after : List Lexeme
  pub splits : Splits octets at before (string key ∷ after)
  pub counted : Before
  pub inside : List Lexeme
  pub rows : Pairs
  pub table : RowsAt (before ++ string key ∷ after) counted inside
  pub rows_before : RowsPhrase inside rows (string key ∷ after)
  pub twice : has_key key rows ≡ true

-- TooDeep: a value or a key begins at this byte, and the greatest allowed number of arrays and
-- dictionaries is open there
pub record IsTooDeep (octets : List ℕ) (at : ℕ) : Type 0 where
  pub before : Before
  pub from : List Lexeme
  pub begins : BeginsAt octets at before from
  pub full : before.open_containers ≡ MAX_DEPTH

-- TooManyNodes: a value or a key begins at this byte, after as many as a value may have
pub record HasTooManyNodes (octets : List ℕ) (at : ℕ) : Type 0 where
  pub before : Before
  pub from : List Lexeme
  pub begins : BeginsAt octets at before from
  pub full : before.nodes ≡ MAX_NODES

-- the payload of the first token
abbrev pub payload_at : List Lexeme → ℕ
payload_at (string units ∷ after) = 2 * length units
payload_at (data_token xs ∷ after) = length xs
payload_at _ = 0

-- TooMuchPayload: with the string or data that begins at this byte the payload exceeds the limit
pub record HasTooMuchPayload (octets : List ℕ) (at : ℕ) : Type 0 where
  pub before : Before
  pub from : List Lexeme
  pub begins : BeginsAt octets at before from
  pub within : before.payload ≤ MAX_PAYLOAD
  pub past : MAX_PAYLOAD < before.payload + payload_at from

-- the tokens are a phrase of some value
abbrev pub IsPhrase : List Lexeme → Type 0
IsPhrase tokens = (v : Plist) × TopPhrase tokens v

-- the tokens begin a phrase
abbrev pub BeginsPhrase : List Lexeme → Type 0
BeginsPhrase tokens = (others : List Lexeme) × IsPhrase (tokens ++ others)

-- Expected: no phrase continues with the token at this byte, or the text ends there, and the tokens
-- before it are an unfinished phrase, or none
pub data IsUnfinished (octets : List ℕ) (at : ℕ) : Type 0 where
  at_token : {before others : List Lexeme} {token : Lexeme}
      → Splits octets at before (token ∷ others) → BeginsPhrase before
      → ¬ IsPhrase before → ¬ BeginsPhrase (before ++ token ∷ []) → IsUnfinished octets at
  at_end : {before : List Lexeme} → Splits octets at before [] → BeginsPhrase before
      → ¬ IsPhrase before → IsUnfinished octets at
  at_front : {others : List Lexeme} {token : Lexeme} → Splits octets at [] (token ∷ others)
      → ¬ BeginsPhrase (token ∷ [])
      → IsUnfinished octets at

-- Junk: the tokens before this byte, at least one, are a phrase, and no phrase continues them with
-- the token there
pub data HasJunk (octets : List ℕ) (at : ℕ) : Type 0 where
  after_phrase : {first token : Lexeme} {more others : List Lexeme}
      → Splits octets at (first ∷ more) (token ∷ others)
      → IsPhrase (first ∷ more) → ¬ BeginsPhrase (first ∷ (more ++ token ∷ [])) → HasJunk octets at

-- the fault is true of the bytes, at its place; out of memory says nothing about them
abbrev pub Stands : List ℕ → TextFault → Type 0
Stands octets (BadUtf8 at) = StandsInTokens octets (tokens.BadUtf8 at)
Stands octets (XmlForm at) = StandsInTokens octets (tokens.XmlForm at)
Stands octets (UnexpectedCharacter at) = StandsInTokens octets (tokens.UnexpectedCharacter at)
Stands octets (UnclosedString at) = StandsInTokens octets (tokens.UnclosedString at)
Stands octets (UnclosedComment at) = StandsInTokens octets (tokens.UnclosedComment at)
Stands octets (BadEscape at) = StandsInTokens octets (tokens.BadEscape at)
Stands octets (OctalRange at) = StandsInTokens octets (tokens.OctalRange at)
Stands octets (OddData at) = StandsInTokens octets (tokens.OddData at)
Stands octets (BadData at) = StandsInTokens octets (tokens.BadData at)
Stands octets (BadUtf16 at) = StandsInTokens octets (tokens.BadUtf16 at)
Stands octets (DuplicateKey at) = HasKeyTwice octets at
Stands octets (TooDeep at) = IsTooDeep octets at
Stands octets (TooManyNodes at) = HasTooManyNodes octets at
Stands octets (TooMuchPayload at) = HasTooMuchPayload octets at
Stands octets (Expected at) = IsUnfinished octets at
Stands octets (Junk at) = HasJunk octets at
Stands octets OutOfMemory = ⊤
