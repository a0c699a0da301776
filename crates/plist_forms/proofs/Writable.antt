-- The value of a text has a text: all its scalars are strings or data.
use Rattle.std.proofs.Common.{◌≡◌, true, refl, List, ℕ}
use Rattle.std.proofs.lemmas.Bool.{and_parts}
use Rattle.std.specs.Cmp.Derive.{both_true}
use Rattle.plist_value.specs.Plist.{Plist, Items, Pairs}
use Rattle.ostep_lex.specs.Lexeme.{Lexeme}
use Rattle.ostep_text.specs.Phrase.{Phrase, ItemsPhrase, RowPhrase, RowsPhrase, TopPhrase, a_list, a_table, items_end, last_item, an_item, with_value, key_alone, rows_end, a_row, a_value, bare_table}
use Rattle.ostep_text.specs.Sorting.{StandsAmong, AreReordered, first, later, none, row}
use Rattle.ostep_text.specs.Text.{IsText}
use Rattle.plist_value.specs.Writable.{is_writable, are_writable_items, are_writable_pairs}

among : {key : List ℕ} {v : Plist} {others all : Pairs} → StandsAmong key v others all → is_writable v ≡ true
    → are_writable_pairs others ≡ true → are_writable_pairs all ≡ true
among first value rest = both_true value rest
among (later stands) value rest =
    let parts = and_parts _ _ rest in both_true parts.0 (among stands value parts.1)

reordered : {rows all : Pairs} → AreReordered rows all → are_writable_pairs rows ≡ true → are_writable_pairs all ≡ true
reordered none rows = rows
reordered (row same stands) rows =
    let parts = and_parts _ _ rows in among stands parts.0 (reordered same parts.1)

mutual
  phrase : {tokens rest : List Lexeme} {v : Plist} → Phrase tokens v rest → is_writable v ≡ true
  phrase (a_list inside) = items inside
  phrase (a_table inside sorted) = reordered sorted.same (rows inside)
  phrase _ = refl

  items : {tokens rest : List Lexeme} {vs : Items} → ItemsPhrase tokens vs rest → are_writable_items vs ≡ true
  items items_end = refl
  items (last_item value) = both_true (phrase value) refl
  items (an_item value others) = both_true (phrase value) (items others)

  one_row : {tokens rest : List Lexeme} {key : List ℕ} {v : Plist} → RowPhrase tokens key v rest → is_writable v ≡ true
  one_row (with_value value) = phrase value
  one_row key_alone = refl

  rows : {tokens rest : List Lexeme} {ps : Pairs} → RowsPhrase tokens ps rest → are_writable_pairs ps ≡ true
  rows rows_end = refl
  rows (a_row one others new) = both_true (one_row one) (rows others)

top : {tokens : List Lexeme} {v : Plist} → TopPhrase tokens v → is_writable v ≡ true
top (a_value value) = phrase value
top (bare_table inside sorted) = reordered sorted.same (rows inside)

pub text_writable : (octets : List ℕ) (v : Plist) → IsText octets v → is_writable v ≡ true
text_writable octets v text = top text.phrase
