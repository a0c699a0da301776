-- The keys and the values of a dictionary in the order of the file.
use Rattle.std.proofs.Common.{◌≡◌, ℕ, ◌+◌, ◌≤◌, List, [], ◌∷◌, length, refl, sym, subst, arith}
use Rattle.std.specs.Ordering.{nat_cmp}
use Rattle.std.specs.Cmp.Lexicographic.{slice_cmp}
use Rattle.std.specs.List.{AllByRecursion, zip}
use Rattle.std.specs.List.Sorted.{IsPermutation, IsStrictlySortedBy}
use Rattle.std.proofs.lemmas.List.Elements.{All-from_recursion, recursion_from_All}
use Rattle.std.proofs.lemmas.List.Sorted.{IsPermutation-refl, IsPermutation-sym, All-permutation}
use Rattle.plist_value.specs.Plist.{text, Plist, scalar, table, Items, no_items, item, Pairs, no_pairs, pair, AreUnits, IsPlist, AreItems, ArePairs}
use Rattle.plist_value.specs.Limits.{nodes, nodes_of_items, depth_of_items, payload_of_items, nodes_of_pairs, depth_of_pairs, payload_of_pairs}
use Rattle.plist_object.specs.Objects.{holds_scalar, holds_table}
use Rattle.plist_object.specs.Places.{Holds}
use Rattle.plist_object.specs.Spelled.{Spells, SpellItems, SpellPairs}
use Rattle.plist_object.proofs.Uniqueness.{same_held, same_rows, same_pairs}
use Rattle.plist_canon.specs.Rules.{HoldTexts, HasAscendingKeys}
use Rattle.plist_canon.proofs.Entries.{pairs_of, put_texts, ArePairs-pairs_of}
use Rattle.plist_value.proofs.Items.{some_depth}

pub some_nodes : (v : Plist) → 1 ≤ nodes v
some_nodes (scalar s) = omega arith
some_nodes _ = omega arith

-- references to a key and to a value
record SpellsRow (f : List ℕ) (row : ℕ × ℕ) : Type 0 where
  key : List ℕ
  value : Plist
  units : AreUnits key
  valid : IsPlist value
  holds : Holds f row.0 (holds_scalar (text key))
  spells : Spells f row.1 value

rows_spelled : (f : List ℕ) (rows : List (ℕ × ℕ)) (ps : Pairs) → ArePairs ps → SpellPairs f rows ps → AllByRecursion (SpellsRow f) rows
rows_spelled f [] ps valid spells = tt
rows_spelled f (row ∷ rows) no_pairs valid spells = absurd (let none : row ∷ rows ≡ [] = spells in cc)
rows_spelled f (row ∷ rows) (pair key v ps) valid spells = (
  record { key = key; value = v; units = valid.0; valid = valid.1; holds = spells.0; spells = spells.1 },
  rows_spelled f rows ps valid.3 spells.2,
)

pub record Parts (f keys values : List ℕ) : Type 0 where
  pub texts : List (List ℕ)
  pub items : Items
  pub hold : HoldTexts f keys texts
  pub spell : SpellItems f values items
  pub valid : AreItems items
  pub units : AreItems (put_texts texts no_items)
  pub pairs : SpellPairs f (zip keys values) (pairs_of texts items)
  pub spell_keys : SpellItems f keys (put_texts texts no_items)
  pub nodes_are : nodes_of_pairs (pairs_of texts items) ≡ nodes_of_items (put_texts texts no_items) + nodes_of_items items
  pub payload_is : payload_of_pairs (pairs_of texts items) ≡ payload_of_items (put_texts texts no_items) + payload_of_items items
  pub depth_is : depth_of_pairs (pairs_of texts items) ≡ depth_of_items items
  pub keys_deep : depth_of_items (put_texts texts no_items) ≤ depth_of_items items

parts : (f keys values : List ℕ) → length keys ≡ length values → AllByRecursion (SpellsRow f) (zip keys values) → Parts f keys values
parts f [] [] even all = record {
  texts = [];
  items = no_items;
  hold = refl;
  spell = refl;
  valid = tt;
  units = tt;
  pairs = refl;
  spell_keys = refl;
  nodes_are = refl;
  payload_is = refl;
  depth_is = refl;
  keys_deep = omega arith;
}
parts f (k ∷ keys) (v ∷ values) even all =
    let rest = parts f keys values (omega arith) all.1 in
    let row = all.0 in
    let some = some_depth row.value in
    let n = rest.nodes_are in
    let p = rest.payload_is in
    let d = rest.depth_is in
    let k = rest.keys_deep in
    record {
      texts = row.key ∷ rest.texts;
      items = item row.value rest.items;
      hold = (row.holds, rest.hold);
      spell = (row.spells, rest.spell);
      valid = (row.valid, rest.valid);
      units = (row.units, rest.units);
      pairs = (row.holds, row.spells, rest.pairs);
      spell_keys = (row.holds, rest.spell_keys);
      nodes_are = omega arith;
      payload_is = omega arith;
      depth_is = omega arith;
      keys_deep = omega arith;
    }
parts f _ _ even all = absurd (omega arith)

pub record TableParts (f keys values : List ℕ) (ps : Pairs) : Type 0 where
  pub parts : Parts f keys values
  pub same : ps ≡ pairs_of parts.texts parts.items

from_rows : (f : List ℕ) (i : ℕ) (keys values : List ℕ) (rows : List (ℕ × ℕ)) (ps : Pairs) → length keys ≡ length values → Holds f i (holds_table keys values) → HasAscendingKeys f i → ArePairs ps → IsPermutation (zip keys values) rows → SpellPairs f rows ps → TableParts f keys values ps
from_rows f i keys values rows ps even holds ascending valid moved spells =
    let zipped = zip keys values in
    let all = All-permutation (SpellsRow f) rows zipped (IsPermutation-sym zipped rows moved) (All-from_recursion (SpellsRow f) rows (rows_spelled f rows ps valid spells)) in
    let p = parts f keys values even (recursion_from_All (SpellsRow f) zipped all) in
    let sorted : IsStrictlySortedBy (slice_cmp nat_cmp) p.texts = ascending keys values p.texts holds.reads p.hold in
    let qs = pairs_of p.texts p.items in
    let valid_qs : ArePairs qs = ArePairs-pairs_of p.texts p.items no_items p.units p.valid sorted in
    let same : rows ≡ zipped = same_rows f zipped rows zipped ps qs moved (IsPermutation-refl zipped) spells p.pairs valid valid_qs in
    record {
      parts = p;
      same = same_pairs f rows ps qs valid valid_qs spells (subst (λ (rs : List (ℕ × ℕ)). SpellPairs f rs qs) (sym same) p.pairs);
    }

pub table_parts : (f : List ℕ) (i : ℕ) (keys values : List ℕ) (ps : Pairs) → length keys ≡ length values → Holds f i (holds_table keys values) → HasAscendingKeys f i → ArePairs ps → Spells f i (table ps) → TableParts f keys values ps
table_parts f i keys values ps even holds ascending valid spells =
    let held = same_held f i (holds_table keys values) (holds_table spells.0 spells.1.0) holds spells.1.1.1.0 in
    let keys_are : spells.0 ≡ keys = cc in
    let values_are : spells.1.0 ≡ values = cc in
    let zipped : zip spells.0 spells.1.0 ≡ zip keys values = cc in
    let moved = subst (λ (rs : List (ℕ × ℕ)). IsPermutation rs spells.1.1.0) zipped spells.1.1.1.1.0 in
    from_rows f i keys values spells.1.1.0 ps even holds ascending valid moved spells.1.1.1.1.1
