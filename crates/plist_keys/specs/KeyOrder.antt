-- What the key order keeps of dictionaries, and the rows that it sorts.
use Rattle.std.specs.Prelude.{◌≡◌, ◌↔◌, ℕ, ◌+◌, ◌*◌, ◌^◌, ◌<◌, IsTrue, List, [], All}
use Rattle.std.specs.Prelude.{EachIndex, IfSome, length, map, slice_index, slice_index_or}
use Rattle.std.specs.declared.cmp.Ordering.{Ordering}
use Rattle.std.specs.declared.cmp.Ordering.TheVariants.{Less}
use Rattle.std.specs.Ordering.{nat_cmp, on, then_cmp}
use Rattle.std.specs.Cmp.Lexicographic.{slice_cmp}
use Rattle.std.specs.List.{range_with_len}
use Rattle.std.specs.List.Sorted.{IsPermutation}
use Rattle.plist_value.specs.Plist.{text}
use Rattle.plist_value.specs.Texts.{units_of}
use Rattle.plist_value.specs.declared.text_ref.TextRef.{TextRef}
use Rattle.plist_object.specs.Objects.{holds_scalar}
use Rattle.plist_object.specs.Places.{Holds}
use Rattle.plist_object.specs.Views.{numbers_of}
use Rattle.plist_keys.specs.Order.{Ascend, IsInOrder}
use Rattle.plist_keys.specs.Ascending.{AreAscending}
use Rattle.plist_keys.specs.Ranks.{AreRanks, texts_of}
use Rattle.plist_keys.specs.declared.ranks.Ranks.{Ranks}
use Rattle.plist_keys.specs.declared.order.Row.{Row}
use Rattle.plist_keys.specs.declared.order.KeyOrder.{KeyOrder}
use Rattle.plist_keys.specs.declared.sorted_keys.SortedKeys.{SortedKeys}

abbrev pub index_of : Row → ℕ
index_of row = row.index

-- by runs, and then by sort prefixes
abbrev pub sort_key : Row → ℕ
sort_key row = 2 ^ 64 * row.run + row.prefix

-- the string at a position
abbrev pub string_at : List TextRef → ℕ → List ℕ
string_at texts index = slice_index_or (map units_of texts) index []

abbrev pub row_units : List TextRef → Row → List ℕ
row_units texts row = string_at texts row.index

-- the reference at this position points to the string there
abbrev pub HoldsString : List ℕ → List ℕ → List TextRef → ℕ → Type 0
HoldsString f keys texts index =
    Holds f (slice_index keys index) (holds_scalar (text (string_at texts index)))

-- the strings of the keys
pub record AreTexts (f keys : List ℕ) (texts : List TextRef) : Type 0 where
  pub long : length texts ≡ length keys
  pub held : EachIndex keys (HoldsString f keys texts)

-- the number is the rank of the string
abbrev pub IsRankOf : Ranks → ℕ → List ℕ → Type 0
IsRankOf ranks rank units = (rank < length (texts_of ranks))
    × (slice_index_or (texts_of ranks) rank [] ≡ units)

-- a lower number means a lower string
abbrev pub TellsOrder : List TextRef → Row → Row → Type 0
TellsOrder texts row other =
    sort_key row < sort_key other → slice_cmp nat_cmp (row_units texts row) (row_units texts other)
    ≡ Less

-- by numbers, and by strings if these are equal
abbrev pub by_number : List TextRef → Row → Row → Ordering
by_number texts = then_cmp (on sort_key nat_cmp) (on (row_units texts) (slice_cmp nat_cmp))

-- one row for each of the strings, with numbers that agree with their order
pub record AreRows (texts : List TextRef) (rows : List Row) : Type 0 where
  pub moved : IsPermutation (range_with_len 0 (length texts)) (map index_of rows)
  pub tell : All (λ row. All (TellsOrder texts row) rows) rows

-- the positions are the order of the keys, and `distinct` says whether these are distinct
pub record IsSortedIn (f : List ℕ) (sorted : SortedKeys) : Type 0 where
  pub order : IsInOrder f (numbers_of sorted.keys) sorted.indices.items
  pub tells : IsTrue sorted.distinct ↔ Ascend f (numbers_of sorted.keys) sorted.indices.items

-- the positions of the keys sorted last, in order
abbrev pub indices_of : KeyOrder → List ℕ
indices_of order = order.last.indices.items

-- the kept orders are correct, and the ranks are those of this file
pub record IsReady (f : List ℕ) (order : KeyOrder) : Type 0 where
  pub last : IsSortedIn f order.last
  pub longest : IsSortedIn f order.longest
  pub ascending : IfSome order.ascending (λ keys. AreAscending f (numbers_of keys))
  pub ranks : AreRanks f order.ranks
