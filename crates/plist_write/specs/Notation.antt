-- The text of a value in a notation.
use Rattle.std.specs.Prelude.{ℕ, ◌+◌, List, [], ◌++◌}
use Rattle.plist_value.specs.Plist.{Scalar, Plist, scalar, list, table, Items, no_items, item}
use Rattle.plist_value.specs.Plist.{Pairs, no_pairs, pair}
use Rattle.plist_write.specs.declared.notation.Mark.{Mark}
use Rattle.plist_write.specs.declared.notation.Mark.TheVariants.{EmptyList, ListStart, ListEnd}
use Rattle.plist_write.specs.declared.notation.Mark.TheVariants.{ItemEnd, EmptyTable, TableStart}
use Rattle.plist_write.specs.declared.notation.Mark.TheVariants.{TableEnd, PairEnd, TextEnd}

-- What is written for a scalar that begins on a line of this level, at the start of such a line,
-- before the value of a key, and for a mark.
pub record Parts : Type 0 where
  pub scalar_text : ℕ → Scalar → List ℕ
  pub line_start : ℕ → List ℕ
  pub pair_start : ℕ → List ℕ → List ℕ
  pub mark_text : Mark → List ℕ

-- what follows the items of an array, or the pairs of a dictionary
abbrev pub last_line : Parts → ℕ → Mark → List ℕ
last_line parts level mark = parts.line_start level ++ parts.mark_text mark

-- A value that begins on a line of this level. Items, keys and values begin on lines of their own,
-- one level deeper.
abbrev mutual
  pub text_in : Parts → ℕ → Plist → List ℕ
  text_in parts level (scalar s) = parts.scalar_text level s
  text_in parts level (list no_items) = parts.mark_text EmptyList
  text_in parts level (list vs) =
      parts.mark_text ListStart ++ (items_in parts (level + 1) vs ++ last_line parts level ListEnd)
  text_in parts level (table no_pairs) = parts.mark_text EmptyTable
  text_in parts level (table ps) =
      parts.mark_text TableStart
      ++ (pairs_in parts (level + 1) ps ++ last_line parts level TableEnd)

  pub items_in : Parts → ℕ → Items → List ℕ
  items_in parts level no_items = []
  items_in parts level (item v vs) =
      (parts.line_start level ++ (text_in parts level v ++ parts.mark_text ItemEnd))
      ++ items_in parts level vs

  pub pairs_in : Parts → ℕ → Pairs → List ℕ
  pairs_in parts level no_pairs = []
  pairs_in parts level (pair key v ps) =
      (parts.pair_start level key ++ (text_in parts level v ++ parts.mark_text PairEnd))
      ++ pairs_in parts level ps

-- one item, and one pair
abbrev pub item_in : Parts → ℕ → Plist → List ℕ
item_in parts level v = parts.line_start level ++ (text_in parts level v ++ parts.mark_text ItemEnd)

abbrev pub pair_in : Parts → ℕ → List ℕ → Plist → List ℕ
pair_in parts level key v = parts.pair_start level key
    ++ (text_in parts level v ++ parts.mark_text PairEnd)

-- the complete text
abbrev pub document_in : Parts → Plist → List ℕ
document_in parts v = text_in parts 0 v ++ parts.mark_text TextEnd
