-- Building the value of a validated file: the parts of what is encoded.
use Rattle.std.proofs.Common.{◌≡◌, ℕ, ◌+◌, ◌-◌, ◌<◌, ◌≤◌, List, [], ◌∷◌, ◌++◌, length, take, get_or, slice_index, nat_cmp, refl, sym, subst, ◌∙◌, ⊎_elim, arith}
use Rattle.std.specs.BTreeMap.{insert_entry}
use Rattle.std.specs.Cmp.Lexicographic.{slice_cmp}
use Rattle.std.specs.List.{zip}
use Rattle.std.proofs.lemmas.List.{take_more}
use Rattle.std.proofs.lemmas.List.Sorted.{IsPermutation-to_front, IsPermutation-trans}
use Rattle.std.proofs.lemmas.Slice.Zip.{get_or-zip, length-zip}
use Rattle.plist_value.specs.declared.value.Value.{Value}
use Rattle.plist_value.specs.Plist.{text, Plist, scalar, list, table, Items, no_items, item, Pairs, IsPlist, AreItems}
use Rattle.plist_value.specs.Limits.{depth, depth_of_items}
use Rattle.plist_value.specs.View.{view, view_pairs, items_of}
use Rattle.plist_value.proofs.Items.{push, AreItems-push}
use Rattle.plist_value.proofs.Pairs.{Entry, view_pairs-insert_entry}
use Rattle.plist_object.specs.Layout.{trailer_of}
use Rattle.plist_object.specs.Objects.{holds_scalar, holds_list, holds_table}
use Rattle.plist_object.specs.Places.{Holds, HoldsText}
use Rattle.plist_object.specs.Spelled.{IsBinary, Spells, SpellItems, SpellsWithin}
use Rattle.plist_object.proofs.Ascending.{Among, Among-contains}
use Rattle.plist_object.proofs.Uniqueness.{same_held, same_value}
use Rattle.plist_binary.specs.Building.{AllSpellWithin, SpellsPairsWithin, HoldsSome, AreSpelled, IsSpelled}
use Rattle.plist_binary.specs.Readings.{PairsSpelled}
use Rattle.plist_binary.proofs.Inserting.{IsRow, PairsSpelled-held, PairsSpelled-put, rows_apart, rows_distinct}
use Rattle.plist_binary.proofs.ItemSteps.{Contains-at, Spells-held, next, SpellItems-push}
use Rattle.plist_binary.proofs.Sorting.{NameTexts-read}
use Rattle.plist_binary.proofs.TableSteps.{unsort}

pub HoldsSome-within : (f : List ℕ) (i levels : ℕ) → SpellsWithin f i levels → HoldsSome f i
HoldsSome-within f i levels within = Spells-held f i within.value within.spells

-- the items of an array that encodes a value
items_within : (f refs : List ℕ) (levels : ℕ) (vs : Items) (i : ℕ) → SpellItems f refs vs → AreItems vs → depth_of_items vs ≤ levels → Among i refs → SpellsWithin f i levels
items_within f [] levels vs i spell valid deep among = absurd among
items_within f (j ∷ refs) levels no_items i spell valid deep among =
    absurd (let none : j ∷ refs ≡ [] = spell in cc)
items_within f (j ∷ refs) levels (item v vs) i spell valid deep among =
    ⊎_elim
    (λ (same : i ≡ j). record {
      value = v;
      spells = subst (λ (k : ℕ). Spells f k v) (sym same) spell.0;
      valid = valid.0;
      deep = omega arith;
    })
    (λ (later : Among i refs). items_within f refs levels vs i spell.1 valid.1 (omega arith) later)
    among

pub AllSpellWithin-items : (f refs : List ℕ) (levels : ℕ) (vs : Items) → SpellItems f refs vs → AreItems vs → depth_of_items vs ≤ levels → AllSpellWithin f refs levels
AllSpellWithin-items f refs levels vs spell valid deep i among = items_within f refs levels vs i spell valid deep (Among-contains i refs among)

-- what an array encodes
list_within : (f refs : List ℕ) (i levels : ℕ) (v : Plist) → Holds f i (holds_list refs) → Spells f i v → IsPlist v → depth v ≤ levels → AllSpellWithin f refs (levels - 1)
list_within f refs i levels (scalar s) holds spells valid deep =
    absurd (let held = same_held f i (holds_list refs) (holds_scalar s) holds spells in cc)
list_within f refs i levels (list vs) holds spells valid deep =
    let held = same_held f i (holds_list refs) (holds_list spells.0) holds spells.1.0 in
    let same : spells.0 ≡ refs = cc in
    AllSpellWithin-items f refs (levels - 1) vs (subst (λ (r : List ℕ). SpellItems f r vs) same spells.1.1) valid (omega arith)
list_within f refs i levels (table ps) holds spells valid deep =
    absurd (let held = same_held f i (holds_list refs) (holds_table spells.0 spells.1.0) holds spells.1.1.1.0 in cc)

pub AllSpellWithin-list : (f refs : List ℕ) (i levels : ℕ) → Holds f i (holds_list refs) → SpellsWithin f i levels → AllSpellWithin f refs (levels - 1)
AllSpellWithin-list f refs i levels holds within = list_within f refs i levels within.value holds within.spells within.valid within.deep

table_within : (f keys values : List ℕ) (i levels : ℕ) (v : Plist) → length keys ≡ length values → Holds f i (holds_table keys values) → Spells f i v → IsPlist v → depth v ≤ levels → SpellsPairsWithin f keys values (levels - 1)
table_within f keys values i levels (scalar s) long holds spells valid deep =
    absurd (let held = same_held f i (holds_table keys values) (holds_scalar s) holds spells in cc)
table_within f keys values i levels (list vs) long holds spells valid deep =
    absurd (let held = same_held f i (holds_table keys values) (holds_list spells.0) holds spells.1.0 in cc)
table_within f keys values i levels (table ps) long holds spells valid deep = record {
  pairs = ps;
  long = long;
  spelled = PairsSpelled-held f keys values i ps holds valid spells;
  deep = omega arith;
}

pub SpellsPairsWithin-table : (f keys values : List ℕ) (i levels : ℕ) → length keys ≡ length values → Holds f i (holds_table keys values) → SpellsWithin f i levels → SpellsPairsWithin f keys values (levels - 1)
SpellsPairsWithin-table f keys values i levels long holds within = table_within f keys values i levels within.value long holds within.spells within.valid within.deep

-- the key and the value at a position
pub HoldsText-key : (f keys values : List ℕ) (levels k i : ℕ) → k < length keys → i ≡ slice_index keys k → SpellsPairsWithin f keys values levels → HoldsText f i
HoldsText-key f keys values levels k i below is within =
    let apart = unsort f keys values levels within.pairs within.long within.spelled within.deep in
    subst (HoldsText f) (sym is) (NameTexts-read f keys apart.us apart.spell_keys k below)

pub SpellsWithin-value : (f keys values : List ℕ) (levels k i : ℕ) → k < length keys → i ≡ slice_index values k → SpellsPairsWithin f keys values levels → SpellsWithin f i levels
SpellsWithin-value f keys values levels k i below is within =
    let apart = unsort f keys values levels within.pairs within.long within.spelled within.deep in
    let many = within.long in
    AllSpellWithin-items f values levels (items_of apart.vs) apart.spell_values apart.valid_values apart.deep_values i (Contains-at values k i (omega arith) is)

-- one more pair of a dictionary
pub PairsSpelled-next : (f keys values : List ℕ) (levels k i j : ℕ) (units : List ℕ) (v : Value) (es new : List Entry) → k < length keys → i ≡ slice_index keys k → j ≡ slice_index values k → SpellsPairsWithin f keys values levels → IsSpelled f i (scalar (text units)) → IsSpelled f j (view v) → new ≡ insert_entry (slice_cmp nat_cmp) es units v → PairsSpelled f (take k (zip keys values)) (view_pairs es) → PairsSpelled f (take (k + 1) (zip keys values)) (view_pairs new)
PairsSpelled-next f keys values levels k i j units v es new below key_is value_is within key value put spelled =
    let all = zip keys values in
    let row = get_or all k (0, 0) in
    let many = within.long in
    let inside : k < length all = omega (arith, length-zip keys values) in
    let at : row ≡ (i, j) = get_or-zip keys values k (0, 0) below (omega arith) ∙ rw (sym key_is, sym value_is) refl in
    let one : IsRow f (depth (view v)) row units (view v) = rw at record {
      key = key.spells;
      value = value.spells;
      units = key.valid;
      valid = value.valid;
      deep = omega arith;
    } in
    let more = (PairsSpelled-put f (depth (view v)) row (take k all) units (view v) (view_pairs es) one (rows_apart f all k (0, 0) inside (rows_distinct f all within.pairs within.spelled)) spelled).spelled in
    let pushed : take (k + 1) all ≡ take k all ++ row ∷ [] = take_more all k (0, 0) inside in
    rw (put, view_pairs-insert_entry es units v) record {
      rows = more.rows;
      moved = rw pushed (IsPermutation-trans (take k all ++ row ∷ []) (row ∷ take k all) more.rows (IsPermutation-to_front (take k all) row) more.moved);
      spell = more.spell;
      valid = more.valid;
    }

pub IsSpelled-table : (f keys values : List ℕ) (i : ℕ) (ps : Pairs) → Holds f i (holds_table keys values) → PairsSpelled f (zip keys values) ps → IsSpelled f i (table ps)
IsSpelled-table f keys values i ps holds are = record {
  spells = (keys, (values, (are.rows, (holds, (are.moved, are.spell)))));
  valid = are.valid;
}

pub AreSpelled-next : (f refs : List ℕ) (k i : ℕ) (vs : Items) (v : Plist) → k < length refs → i ≡ slice_index refs k → AreSpelled f (take k refs) vs → IsSpelled f i v → AreSpelled f (take (k + 1) refs) (push vs v)
AreSpelled-next f refs k i vs v within is are one = record {
  spell = subst (λ (xs : List ℕ). SpellItems f xs (push vs v)) (next refs k i within is) (SpellItems-push f (take k refs) vs i v are.spell one.spells);
  valid = AreItems-push vs v are.valid one.valid;
}

-- the value that was built is the one that the file encodes
pub IsBinary-built : (f : List ℕ) (v w : Plist) → IsBinary f w → IsSpelled f (trailer_of f).top v → IsBinary f v
IsBinary-built f v w binary is =
    subst (IsBinary f) (same_value f (trailer_of f).top w v binary.valid is.valid binary.spells is.spells) binary
