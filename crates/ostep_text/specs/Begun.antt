-- Where a value or a key begins among the tokens of a text, and what comes before it.
use Rattle.std.specs.Prelude.{◌≡◌, ℕ, ◌+◌, ◌*◌, Bool, true, false, List, ◌∷◌, length}
use Rattle.plist_value.specs.Plist.{Items, Pairs}
use Rattle.plist_value.specs.Limits.{nodes_of_items, nodes_of_pairs, payload_of_items}
use Rattle.plist_value.specs.Limits.{payload_of_pairs}
use Rattle.ostep_lex.specs.Lexeme.{Lexeme, brace_open, paren_open, semicolon, equals}
use Rattle.ostep_lex.specs.Lexeme.{text as string, octets as data_token}
use Rattle.ostep_text.specs.Phrase.{ItemsPhrase, RowsPhrase}
use Rattle.ostep_text.specs.Sorting.{has_key}

-- how many arrays and dictionaries are open, how many values and keys began, and how much payload
-- they have
pub record Before : Type 0 where
  pub open_containers : ℕ
  pub nodes : ℕ
  pub payload : ℕ

abbrev pub nothing : Before
nothing = record { open_containers = 0; nodes = 0; payload = 0 }

-- after an array or dictionary was opened as well
abbrev pub opened : Before → Before
opened b = record {
  open_containers = b.open_containers + 1;
  nodes = b.nodes + 1;
  payload = b.payload;
}

-- after these items, these rows, or this key as well
abbrev pub with_items : Items → Before → Before
with_items vs b = record {
  open_containers = b.open_containers;
  nodes = b.nodes + nodes_of_items vs;
  payload = b.payload + payload_of_items vs;
}

abbrev pub with_rows : Pairs → Before → Before
with_rows rows b =
    record {
      open_containers = b.open_containers;
      nodes = b.nodes + nodes_of_pairs rows;
      payload = b.payload + payload_of_pairs rows;
    }

abbrev pub with_key : List ℕ → Before → Before
with_key key b = record {
  open_containers = b.open_containers;
  nodes = b.nodes + 1;
  payload = b.payload + 2 * length key;
}

mutual
  -- Where a value is expected: at the start of the text, after items of an open array, and after a
  -- new key and `=`. The value of a key alone is at its key.
  pub data ValueAt (whole : List Lexeme) : Before → List Lexeme → Type 0 where
    front : ValueAt whole nothing whole
    after_items : {b : Before} {vs : Items} {inside at : List Lexeme}
        → ValueAt whole b (paren_open ∷ inside) → ItemsPhrase inside vs at
        → ValueAt whole (with_items vs (opened b)) at
    after_key : {b : Before} {key : List ℕ} {at : List Lexeme} → NewKeyAt whole b key (equals ∷ at)
        → ValueAt whole (with_key key b) at
    at_key : {b : Before} {key : List ℕ} {rest : List Lexeme}
        → NewKeyAt whole b key (semicolon ∷ rest)
        → ValueAt whole (with_key key b) (string key ∷ semicolon ∷ rest)

  -- where rows of a dictionary are: after its brace, or at the start of the text
  pub data RowsAt (whole : List Lexeme) : Before → List Lexeme → Type 0 where
    after_brace : {b : Before} {inside : List Lexeme} → ValueAt whole b (brace_open ∷ inside)
        → RowsAt whole (opened b) inside
    bare : RowsAt whole (opened nothing) whole

  -- a key that no row before it has, and the tokens after it
  pub data NewKeyAt (whole : List Lexeme) : Before → List ℕ → List Lexeme → Type 0 where
    new_key : {b : Before} {rows : Pairs} {key : List ℕ} {inside rest : List Lexeme}
        → RowsAt whole b inside
        → RowsPhrase inside rows (string key ∷ rest) → has_key key rows ≡ false
        → NewKeyAt whole (with_rows rows b) key rest

-- whether a value begins with the token
abbrev pub begins_value : List Lexeme → Bool
begins_value (string units ∷ rest) = true
begins_value (data_token xs ∷ rest) = true
begins_value (paren_open ∷ rest) = true
begins_value (brace_open ∷ rest) = true
begins_value _ = false

-- a value or a key begins at the tokens
pub data NodeAt (whole : List Lexeme) : Before → List Lexeme → Type 0 where
  value : {b : Before} {at : List Lexeme} → ValueAt whole b at → begins_value at ≡ true
      → NodeAt whole b at
  key : {b : Before} {rows : Pairs} {key : List ℕ} {inside rest : List Lexeme}
      → RowsAt whole b inside
      → RowsPhrase inside rows (string key ∷ rest)
      → NodeAt whole (with_rows rows b) (string key ∷ rest)
