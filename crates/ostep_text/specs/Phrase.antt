-- The grammar. Each relation is between the tokens from some place on, the meaning of the phrase
-- there, and the tokens after it.
use Rattle.std.specs.Prelude.{◌≡◌, ℕ, false, List, [], ◌∷◌}
use Rattle.plist_value.specs.Plist.{text, bytes, Plist, scalar, list, table, Items, no_items, item}
use Rattle.plist_value.specs.Plist.{Pairs, no_pairs, pair}
use Rattle.ostep_lex.specs.Lexeme.{Lexeme, brace_open, brace_close, paren_open, paren_close, comma}
use Rattle.ostep_lex.specs.Lexeme.{semicolon, equals, text as string, octets as data_token}
use Rattle.ostep_text.specs.Sorting.{has_key, AreSorted}

mutual
  -- a string, data, an array in parentheses, or a dictionary in braces
  pub data Phrase : List Lexeme → Plist → List Lexeme → Type 0 where
    a_string : {units : List ℕ} {rest : List Lexeme}
        → Phrase (string units ∷ rest) (scalar (text units)) rest
    some_data : {xs : List ℕ} {rest : List Lexeme}
        → Phrase (data_token xs ∷ rest) (scalar (bytes xs)) rest
    a_list : {vs : Items} {inside rest : List Lexeme} → ItemsPhrase inside vs (paren_close ∷ rest)
        → Phrase (paren_open ∷ inside) (list vs) rest
    a_table : {rows pairs : Pairs} {inside rest : List Lexeme}
        → RowsPhrase inside rows (brace_close ∷ rest) → AreSorted rows pairs
        → Phrase (brace_open ∷ inside) (table pairs) rest

  -- items, each followed by a comma, which may be missing after the last one before the parenthesis
  pub data ItemsPhrase : List Lexeme → Items → List Lexeme → Type 0 where
    items_end : {rest : List Lexeme} → ItemsPhrase rest no_items rest
    last_item : {v : Plist} {tokens rest : List Lexeme} → Phrase tokens v (paren_close ∷ rest)
        → ItemsPhrase tokens (item v no_items) (paren_close ∷ rest)
    an_item : {v : Plist} {vs : Items} {tokens others rest : List Lexeme}
        → Phrase tokens v (comma ∷ others) → ItemsPhrase others vs rest
        → ItemsPhrase tokens (item v vs) rest

  -- a key, `=`, a value and `;`, or a key that is its own value and `;`
  pub data RowPhrase : List Lexeme → List ℕ → Plist → List Lexeme → Type 0 where
    with_value : {key : List ℕ} {v : Plist} {tokens rest : List Lexeme}
        → Phrase tokens v (semicolon ∷ rest)
        → RowPhrase (string key ∷ equals ∷ tokens) key v rest
    key_alone : {key : List ℕ} {rest : List Lexeme}
        → RowPhrase (string key ∷ semicolon ∷ rest) key (scalar (text key)) rest

  -- rows with distinct keys
  pub data RowsPhrase : List Lexeme → Pairs → List Lexeme → Type 0 where
    rows_end : {rest : List Lexeme} → RowsPhrase rest no_pairs rest
    a_row : {key : List ℕ} {v : Plist} {rows : Pairs} {tokens others rest : List Lexeme}
        → RowPhrase tokens key v others → RowsPhrase others rows rest → has_key key rows ≡ false
        → RowsPhrase tokens (pair key v rows) rest

-- All tokens of a text: a phrase, or the rows of a dictionary without its braces. No tokens are the
-- empty dictionary.
pub data TopPhrase : List Lexeme → Plist → Type 0 where
  a_value : {tokens : List Lexeme} {v : Plist} → Phrase tokens v [] → TopPhrase tokens v
  bare_table : {tokens : List Lexeme} {rows pairs : Pairs} → RowsPhrase tokens rows []
      → AreSorted rows pairs → TopPhrase tokens (table pairs)
