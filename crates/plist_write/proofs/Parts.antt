-- Texts in a notation: items and pairs one after another, and the brackets around them.
use Rattle.std.proofs.Common.{◌≡◌, ℕ, ◌+◌, ◌<◌, List, [], ◌∷◌, ◌++◌, length, refl, ap, ◌∙◌, arith}
use Rattle.std.specs.List.{concat}
use Rattle.plist_value.specs.Plist.{list, table, Items, no_items, item, Pairs, no_pairs, pair}
use Rattle.plist_object.specs.Spelled.{SpellItems, SpellPairs}
use Rattle.plist_write.specs.declared.notation.Mark.TheVariants.{EmptyList, ListStart, ListEnd, EmptyTable, TableStart, TableEnd}
use Rattle.plist_write.specs.Notation.{Parts, last_line, text_in, items_in, pairs_in, item_in, pair_in}
use Rattle.plist_write.specs.Spelling.{SpellTable}
use Rattle.plist_write.proofs.Flat.{length-rows, length-keys}
use Rattle.plist_write.proofs.Turns.{item_texts, pair_texts}

module _ (parts : Parts) (level : ℕ) where
  pub items_joined : (vs : Items) → concat (item_texts (item_in parts level) vs) ≡ items_in parts level vs
  items_joined no_items = refl
  items_joined (item v vs) = ap (λ rest. item_in parts level v ++ rest) (items_joined vs)

  pub pairs_joined : (ps : Pairs) → concat (pair_texts (pair_in parts level) ps) ≡ pairs_in parts level ps
  pairs_joined no_pairs = refl
  pairs_joined (pair key v ps) = ap (λ rest. pair_in parts level key v ++ rest) (pairs_joined ps)

  -- an empty array, and one with items
  pub list_empty : (f refs : List ℕ) (vs : Items) → length refs ≡ 0 → SpellItems f refs vs → parts.mark_text EmptyList ≡ text_in parts level (list vs)
  list_empty f [] no_items h spell = refl
  list_empty f [] (item v vs) h spell = absurd spell
  list_empty f (i ∷ refs) vs h spell = absurd (omega arith)

  pub list_filled : (f refs : List ℕ) (vs : Items) → 0 < length refs → SpellItems f refs vs → parts.mark_text ListStart ++ (items_in parts (level + 1) vs ++ last_line parts level ListEnd) ≡ text_in parts level (list vs)
  list_filled f [] vs h spell = absurd (omega arith)
  list_filled f (i ∷ refs) no_items h spell = absurd (let none : i ∷ refs ≡ [] = spell in cc)
  list_filled f (i ∷ refs) (item v vs) h spell = refl

  -- an empty dictionary, and one with pairs
  no_rows : (f : List ℕ) (rows : List (ℕ × ℕ)) (ps : Pairs) → length rows ≡ 0 → SpellPairs f rows ps → parts.mark_text EmptyTable ≡ text_in parts level (table ps)
  no_rows f [] no_pairs h spell = refl
  no_rows f [] (pair key v ps) h spell = absurd spell
  no_rows f (row ∷ rows) ps h spell = absurd (omega arith)

  some_rows : (f : List ℕ) (rows : List (ℕ × ℕ)) (ps : Pairs) → 0 < length rows → SpellPairs f rows ps → parts.mark_text TableStart ++ (pairs_in parts (level + 1) ps ++ last_line parts level TableEnd) ≡ text_in parts level (table ps)
  some_rows f [] ps h spell = absurd (omega arith)
  some_rows f (row ∷ rows) no_pairs h spell = absurd (let none : row ∷ rows ≡ [] = spell in cc)
  some_rows f (row ∷ rows) (pair key v ps) h spell = refl

  module _ (f keys values : List ℕ) (rows : List (ℕ × ℕ)) (ps : Pairs) (as_many : length keys ≡ length values) (spell : SpellTable f keys values rows ps) where
    rows_long : length rows ≡ length keys
    rows_long = length-rows f rows ps spell.spell ∙ length-keys f keys values rows ps as_many spell.moved spell.spell

    pub table_empty : length keys ≡ 0 → parts.mark_text EmptyTable ≡ text_in parts level (table ps)
    table_empty h = no_rows f rows ps (rows_long ∙ h) spell.spell

    pub table_filled : 0 < length keys → parts.mark_text TableStart ++ (pairs_in parts (level + 1) ps ++ last_line parts level TableEnd) ≡ text_in parts level (table ps)
    table_filled h = some_rows f rows ps (omega (arith, rows_long, h)) spell.spell
