-- The rows of a dictionary, in the order of a text and in the order of their keys.
use Rattle.std.specs.Prelude.{ℕ, Bool, false, ◌||◌, List, nat_eq, ⊤}
use Rattle.std.specs.Cmp.Lexicographic.{pointwise}
use Rattle.plist_value.specs.Plist.{Plist, Pairs, no_pairs, pair, IsKeyBelow}

-- whether a row has the key
abbrev pub has_key : List ℕ → Pairs → Bool
has_key key no_pairs = false
has_key key (pair first v rows) = pointwise nat_eq key first || has_key key rows

-- the row is somewhere among all rows, and these are the others
pub data StandsAmong (key : List ℕ) (v : Plist) : Pairs → Pairs → Type 0 where
  first : {others : Pairs} → StandsAmong key v others (pair key v others)
  later : {next : List ℕ} {w : Plist} {others all : Pairs} → StandsAmong key v others all
      → StandsAmong key v (pair next w others) (pair next w all)

-- the rows of one are a permutation of the other
pub data AreReordered : Pairs → Pairs → Type 0 where
  none : AreReordered no_pairs no_pairs
  row : {key : List ℕ} {v : Plist} {rows others all : Pairs} → AreReordered rows others
      → StandsAmong key v others all → AreReordered (pair key v rows) all

-- each key is below the next
abbrev pub IsAscending : Pairs → Type 0
IsAscending no_pairs = ⊤
IsAscending (pair key v rows) = IsKeyBelow key rows × IsAscending rows

-- the pairs are the rows, sorted by key
pub record AreSorted (rows pairs : Pairs) : Type 0 where
  pub same : AreReordered rows pairs
  pub ascending : IsAscending pairs
