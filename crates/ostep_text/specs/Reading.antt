-- What the reader has read of an input, and what is left of the limits.
use Rattle.std.specs.Prelude.{◌≡◌, ℕ, ◌+◌, ◌*◌, ◌<◌, ◌≤◌, List, ◌∷◌, ◌++◌, length}
use Rattle.plist_value.specs.declared.budget.Budget.{Budget}
use Rattle.plist_value.specs.declared.TheConstants.{MAX_NODES, MAX_DEPTH, MAX_PAYLOAD}
use Rattle.plist_value.specs.Budget.{Spends}
use Rattle.plist_value.specs.Plist.{Plist, Items, Pairs, IsPlist, AreItems, ArePairs, AreUnits}
use Rattle.plist_value.specs.Limits.{nodes, depth, payload, nodes_of_items, depth_of_items}
use Rattle.plist_value.specs.Limits.{payload_of_items, nodes_of_pairs, depth_of_pairs}
use Rattle.plist_value.specs.Limits.{payload_of_pairs}
use Rattle.ostep_lex.specs.Lexeme.{Lexeme, semicolon, Located}
use Rattle.ostep_lex.specs.Lexing.{HasTokens}
use Rattle.ostep_lex.specs.Cursor.{IsAfter}
use Rattle.ostep_text.specs.declared.fault.TextFault.{TextFault}
use Rattle.ostep_text.specs.declared.fault.TextFault.TheVariants.{TooDeep, TooManyNodes}
use Rattle.ostep_text.specs.declared.fault.TextFault.TheVariants.{TooMuchPayload}
use Rattle.ostep_text.specs.Sorting.{AreReordered}
use Rattle.ostep_text.specs.Begun.{Before}
use Rattle.ostep_text.specs.Phrase.{Phrase, ItemsPhrase, RowPhrase, RowsPhrase}
use Rattle.ostep_text.specs.Text.{lexemes}
use Rattle.ostep_text.specs.Stands.{Stands}
use Rattle.ostep_text.specs.declared.tokens.Tokens.{Tokens}

-- the tokens read, as a function from the remaining tokens to all of them
abbrev pub Front : Type 0
Front = List Lexeme → List Lexeme

abbrev pub AreBefore : List Located → Front → Type 0
AreBefore tokens whole = (rest : List Lexeme) → lexemes tokens ++ rest ≡ whole rest

-- these tokens of the input were read
pub record HasRead (octets : List ℕ) (tokens : List Located) (source : Tokens) : Type 0 where
  pub after : IsAfter octets tokens source.cursor
  pub ends : source.end ≡ length octets

-- the fault is true if the bytes have tokens
abbrev pub StandsIfLexed : List ℕ → TextFault → Type 0
StandsIfLexed octets fault = (all : List Located) → HasTokens octets all → Stands octets fault

-- if the node at this byte exceeds a limit, the fault of that limit is true
pub record MayRefuse (octets : List ℕ) (at levels load : ℕ) (left : Budget) : Type 0 where
  pub many : left.nodes ≡ 0 → StandsIfLexed octets (TooManyNodes at)
  pub deep : levels ≡ 0 → StandsIfLexed octets (TooDeep at)
  pub much : left.payload < load → StandsIfLexed octets (TooMuchPayload at)

-- what is left of the limits after what is counted in `b`
pub record IsLeft (left : Budget) (levels : ℕ) (b : Before) : Type 0 where
  pub nodes_left : left.nodes + b.nodes ≡ MAX_NODES
  pub payload_left : left.payload + b.payload ≡ MAX_PAYLOAD
  pub levels_left : levels + b.open_containers ≡ MAX_DEPTH

-- more tokens were read up to the state `source`, namely those that `inside` puts before the
-- remaining ones
pub record ReadsOn (octets : List ℕ) (tokens : List Located) (inside : Front)
    (source : Tokens) : Type 0 where
  pub all : List Located
  pub has : HasRead octets all source
  pub follow : (whole : Front) → AreBefore tokens whole
      → AreBefore all (λ rest. whole (inside rest))

-- the tokens from the first on were a phrase of the value, in the second record with the `;` after
-- it
pub record ReadsValue (octets : List ℕ) (tokens : List Located) (first : Lexeme) (v : Plist)
    (source : Tokens) : Type 0 where
  pub inside : Front
  pub spells : (rest : List Lexeme) → Phrase (first ∷ inside rest) v rest
  pub reads : ReadsOn octets tokens (λ rest. first ∷ inside rest) source

pub record ReadsEnded (octets : List ℕ) (tokens : List Located) (v : Plist)
    (source : Tokens) : Type 0 where
  pub inside : Front
  pub spells : (rest : List Lexeme) → Phrase (inside rest) v (semicolon ∷ rest)
  pub reads : ReadsOn octets tokens inside source

-- the tokens were items: the first ones, or all and the parenthesis after them
pub record ReadsItems (octets : List ℕ) (tokens : List Located) (end : List Lexeme) (vs : Items)
    (source : Tokens) : Type 0 where
  pub inside : Front
  pub spells : (rest : List Lexeme) → ItemsPhrase (inside rest) vs (end ++ rest)
  pub reads : ReadsOn octets tokens inside source

-- the tokens were a row
pub record ReadsRow (octets : List ℕ) (tokens : List Located) (key : List ℕ) (v : Plist)
    (source : Tokens) : Type 0 where
  pub inside : Front
  pub spells : (rest : List Lexeme) → RowPhrase (inside rest) key v rest
  pub reads : ReadsOn octets tokens inside source

-- the tokens were rows in this order: the first ones, or all and the brace after them
pub record ReadsRows (octets : List ℕ) (tokens : List Located) (end : List Lexeme) (rows : Pairs)
    (source : Tokens) : Type 0 where
  pub inside : Front
  pub spells : (rest : List Lexeme) → RowsPhrase (inside rest) rows (end ++ rest)
  pub reads : ReadsOn octets tokens inside source

-- the same rows, sorted by their keys, are the pairs
pub record ReadsPairs (octets : List ℕ) (tokens : List Located) (end : List Lexeme) (pairs : Pairs)
    (source : Tokens) : Type 0 where
  pub rows : Pairs
  pub read : ReadsRows octets tokens end rows source
  pub same : AreReordered rows pairs

-- what a value, items, pairs or a row take, and that they are valid and at most `levels` deep
pub record Takes (left : Budget) (levels : ℕ) (v : Plist) (after : Budget) : Type 0 where
  pub spent : Spends left (nodes v) (payload v) after
  pub deep : depth v ≤ levels
  pub valid : IsPlist v

pub record TakesItems (left : Budget) (levels : ℕ) (vs : Items) (after : Budget) : Type 0 where
  pub spent : Spends left (nodes_of_items vs) (payload_of_items vs) after
  pub deep : depth_of_items vs ≤ levels
  pub valid : AreItems vs

pub record TakesPairs (left : Budget) (levels : ℕ) (ps : Pairs) (after : Budget) : Type 0 where
  pub spent : Spends left (nodes_of_pairs ps) (payload_of_pairs ps) after
  pub deep : depth_of_pairs ps ≤ levels
  pub valid : ArePairs ps

pub record TakesRow (left : Budget) (levels : ℕ) (key : List ℕ) (v : Plist)
    (after : Budget) : Type 0 where
  pub spent : Spends left (1 + nodes v) (2 * length key + payload v) after
  pub some : 1 ≤ levels
  pub deep : depth v ≤ levels
  pub valid_key : AreUnits key
  pub valid : IsPlist v
