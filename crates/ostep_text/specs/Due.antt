-- What is known where something is due in a text: that it may occur there, that a text continues
-- with it, and the state of the machine.
use Rattle.std.specs.Prelude.{◌≡◌, false, List, [], ◌∷◌}
use Rattle.plist_value.specs.Plist.{Plist, Items, Pairs}
use Rattle.ostep_lex.specs.Lexeme.{Lexeme, paren_open, paren_close, brace_open, brace_close}
use Rattle.ostep_lex.specs.Lexeme.{semicolon}
use Rattle.ostep_text.specs.Phrase.{Phrase, ItemsPhrase, RowsPhrase}
use Rattle.ostep_text.specs.Sorting.{AreSorted}
use Rattle.ostep_text.specs.Begun.{Before, ValueAt, RowsAt, begins_value}
use Rattle.ostep_text.specs.Stands.{IsPhrase}
use Rattle.ostep_text.specs.Machine
use Rattle.ostep_text.specs.Machine.{Around, IsTable, State, begun, runs, accepts}
use Rattle.ostep_text.specs.Reading.{Front}

-- the tokens begin a phrase, but are not one
pub record IsOpen (whole : Front) : Type 0 where
  pub others : List Lexeme
  pub goes_on : IsPhrase (whole others)
  pub unfinished : accepts (runs Machine.front (whole [])) ≡ false

-- a value that begins with the token
pub record ValueDue (whole : Front) (b : Before) (a : Around) (first : Lexeme) : Type 0 where
  pub at : (rest : List Lexeme) → ValueAt (whole rest) b rest
  pub closing : List Lexeme
  pub closes : (tokens : List Lexeme) (v : Plist) → Phrase tokens v closing
      → IsPhrase (whole tokens)
  pub leads : (rest : List Lexeme) → runs Machine.front (whole (first ∷ rest))
      ≡ runs (begun a first) rest
  pub waits : begins_value (first ∷ []) ≡ false → accepts (runs Machine.front (whole [])) ≡ false

-- the value of a row, after its `=`
pub record RowValueDue (whole : Front) (b : Before) (t : Around) : Type 0 where
  pub table : IsTable t
  pub at : (rest : List Lexeme) → ValueAt (whole rest) b rest
  pub closing : List Lexeme
  pub closes : (tokens : List Lexeme) (v : Plist) → Phrase tokens v (semicolon ∷ closing)
      → IsPhrase (whole tokens)
  pub leads : (rest : List Lexeme) → runs Machine.front (whole rest) ≡ runs (Machine.due t) rest

-- the items of an array, after its parenthesis
pub record ListDue (whole : Front) (b : Before) (a : Around) : Type 0 where
  pub at : (rest : List Lexeme) → ValueAt (whole rest) b (paren_open ∷ rest)
  pub closing : List Lexeme
  pub closes : (tokens : List Lexeme) (vs : Items) → ItemsPhrase tokens vs (paren_close ∷ closing)
      → IsPhrase (whole tokens)
  pub leads : (rest : List Lexeme) → runs Machine.front (whole rest) ≡ runs (Machine.items a) rest

-- the rows of a dictionary, after its brace
pub record TableDue (whole : Front) (b : Before) (a : Around) : Type 0 where
  pub at : (rest : List Lexeme) → ValueAt (whole rest) b (brace_open ∷ rest)
  pub closing : List Lexeme
  pub closes : (tokens : List Lexeme) (rows pairs : Pairs)
      → RowsPhrase tokens rows (brace_close ∷ closing) → AreSorted rows pairs
      → IsPhrase (whole tokens)
  pub leads : (rest : List Lexeme)
      → runs Machine.front (whole rest) ≡ runs (Machine.rows (Machine.in_braces a)) rest

-- a row, after other rows of a dictionary, in braces or without
pub record RowDue (whole : Front) (b : Before) (t : Around) (rows pairs : Pairs) : Type 0 where
  pub table : IsTable t
  pub inside : Front
  pub at : (rest : List Lexeme) → RowsAt (whole rest) b (inside rest)
  pub spells : (rest : List Lexeme) → RowsPhrase (inside rest) rows rest
  pub sorted : AreSorted rows pairs
  pub ends : List Lexeme
  pub closes : (tokens : List Lexeme) (all others : Pairs) → RowsPhrase (inside tokens) all ends
      → AreSorted all others
      → IsPhrase (whole tokens)
  pub leads : (rest : List Lexeme) → runs Machine.front (whole rest) ≡ runs (Machine.rows t) rest
