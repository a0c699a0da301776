-- The children of a container that is known to encode a value.
use Rattle.std.proofs.Common.{◌≡◌, ℕ, zero, suc, ◌-◌, ◌<◌, ◌≤◌, List, [], ◌∷◌, length, get_or, refl, ap, subst, arith}
use Rattle.std.specs.List.{zip}
use Rattle.std.specs.List.Sorted.{IsPermutation}
use Rattle.plist_value.specs.Plist.{Scalar, Plist, scalar, list, table, Items, no_items, item, Pairs, IsPlist, AreItems}
use Rattle.plist_value.specs.Limits.{depth, depth_of_items}
use Rattle.plist_object.specs.Objects.{holds_scalar, holds_list, holds_table}
use Rattle.plist_object.specs.Places.{Holds}
use Rattle.plist_object.specs.Spelled.{Spells, SpellItems, SpellsWithin}
use Rattle.plist_object.proofs.Uniqueness.{same_held}
use Rattle.plist_write.specs.Spelling.{IsRead, SpellWithin, SpellTable, IsTableOf, TableWithin, sorted_references}
use Rattle.plist_write.proofs.Flat.{flat, spell-flat, valid-flat, deep-flat}
use Rattle.plist_value.proofs.Items.{some_depth}

read_at : (f : List ℕ) (i : ℕ) (v : Plist) → Spells f i v → IsRead f i
read_at f i (scalar s) h = record { held = holds_scalar s; holds = h }
read_at f i (list vs) h = record { held = holds_list h.0; holds = h.1.0 }
read_at f i (table ps) h = record { held = holds_table h.0 h.1.0; holds = h.1.1.1.0 }

pub read_within : (f : List ℕ) (i levels : ℕ) → SpellsWithin f i levels → IsRead f i
read_within f i levels h = read_at f i h.value h.spells

pub levels_within : (f : List ℕ) (i levels : ℕ) → SpellsWithin f i levels → 1 ≤ levels
levels_within f i levels h = let some = some_depth h.value in let deep = h.deep in omega arith

-- the value of an object that contains a scalar, an array or a dictionary
pub scalar_seen : (f : List ℕ) (i : ℕ) (s : Scalar) (v : Plist) → Holds f i (holds_scalar s) → Spells f i v → scalar s ≡ v
scalar_seen f i s (scalar t) holds spells = let held = same_held f i (holds_scalar s) (holds_scalar t) holds spells in cc
scalar_seen f i s (list vs) holds spells =
    absurd (let held = same_held f i (holds_scalar s) (holds_list spells.0) holds spells.1.0 in cc)
scalar_seen f i s (table ps) holds spells =
    absurd (let held = same_held f i (holds_scalar s) (holds_table spells.0 spells.1.0) holds spells.1.1.1.0 in cc)

pub record ListSeen (f refs : List ℕ) (v : Plist) : Type 0 where
  pub items : Items
  pub is : list items ≡ v
  pub valid : AreItems items
  pub spell : SpellItems f refs items

pub list_seen : (f refs : List ℕ) (i : ℕ) (v : Plist) → Holds f i (holds_list refs) → IsPlist v → Spells f i v → ListSeen f refs v
list_seen f refs i (scalar s) holds valid spells =
    absurd (let held = same_held f i (holds_scalar s) (holds_list refs) spells holds in cc)
list_seen f refs i (list vs) holds valid spells =
    let held = same_held f i (holds_list spells.0) (holds_list refs) spells.1.0 holds in
    let same : spells.0 ≡ refs = cc in
    record {
      items = vs;
      is = refl;
      valid = valid;
      spell = subst (λ (r : List ℕ). SpellItems f r vs) same spells.1.1;
    }
list_seen f refs i (table ps) holds valid spells =
    absurd (let held = same_held f i (holds_table spells.0 spells.1.0) (holds_list refs) spells.1.1.1.0 holds in cc)

pub record TableSeen (f keys values : List ℕ) (v : Plist) : Type 0 where
  pub rows : List (ℕ × ℕ)
  pub pairs : Pairs
  pub is : table pairs ≡ v
  pub spell : SpellTable f keys values rows pairs

pub table_seen : (f keys values : List ℕ) (i : ℕ) (v : Plist) → Holds f i (holds_table keys values) → IsPlist v → Spells f i v → TableSeen f keys values v
table_seen f keys values i (scalar s) holds valid spells =
    absurd (let held = same_held f i (holds_scalar s) (holds_table keys values) spells holds in cc)
table_seen f keys values i (list vs) holds valid spells =
    absurd (let held = same_held f i (holds_list spells.0) (holds_table keys values) spells.1.0 holds in cc)
table_seen f keys values i (table ps) holds valid spells =
    let held = same_held f i (holds_table spells.0 spells.1.0) (holds_table keys values) spells.1.1.1.0 holds in
    let zipped : zip spells.0 spells.1.0 ≡ zip keys values = cc in
    record {
      rows = spells.1.1.0;
      pairs = ps;
      is = refl;
      spell = record {
        moved = subst (λ (held : List (ℕ × ℕ)). IsPermutation held spells.1.1.0) zipped spells.1.1.1.1.0;
        spell = spells.1.1.1.1.1;
        valid = valid;
      };
    }

pub items_within : (f : List ℕ) (i levels : ℕ) (objects : List ℕ) → SpellsWithin f i levels → Holds f i (holds_list objects) → SpellWithin f objects (levels - 1)
items_within f i levels objects h holds =
    let seen = list_seen f objects i h.value holds h.valid h.spells in
    record { items = seen.items; valid = seen.valid; spell = seen.spell; deep = omega (arith, h.deep, ap depth seen.is) }

pub table_within : (f : List ℕ) (i levels : ℕ) (keys values : List ℕ) → length keys ≡ length values → SpellsWithin f i levels → Holds f i (holds_table keys values) → TableWithin f keys values (levels - 1)
table_within f i levels keys values as_many h holds =
    let seen = table_seen f keys values i h.value holds h.valid h.spells in
    record { rows = seen.rows; pairs = seen.pairs; as_many = as_many; spell = seen.spell; deep = omega (arith, h.deep, ap depth seen.is) }

pub is_table : (f keys values : List ℕ) (levels : ℕ) → TableWithin f keys values levels → IsTableOf f keys values
is_table f keys values levels within =
    record { rows = within.rows; pairs = within.pairs; as_many = within.as_many; spell = within.spell }

pub flat_within : (f keys values : List ℕ) (levels : ℕ) → (within : TableWithin f keys values levels) → SpellWithin f (sorted_references within.rows) levels
flat_within f keys values levels within = record {
  items = flat within.pairs;
  valid = valid-flat within.pairs within.spell.valid;
  spell = spell-flat f within.rows within.pairs within.spell.spell;
  deep = deep-flat within.pairs levels within.deep;
}

value_at : (f refs : List ℕ) (levels k : ℕ) (vs : Items) → AreItems vs → SpellItems f refs vs → depth_of_items vs ≤ levels → k < length refs → SpellsWithin f (get_or refs k 0) levels
value_at f [] levels k vs valid spell deep h = absurd (omega arith)
value_at f (i ∷ refs) levels k no_items valid spell deep h = absurd (let none : i ∷ refs ≡ [] = spell in cc)
value_at f (i ∷ refs) levels zero (item v vs) valid spell deep h =
    record { value = v; valid = valid.0; spells = spell.0; deep = omega arith }
value_at f (i ∷ refs) levels (suc k) (item v vs) valid spell deep h =
    value_at f refs levels k vs valid.1 spell.1 (omega arith) (omega arith)

pub value_within : (f refs : List ℕ) (levels k : ℕ) → SpellWithin f refs levels → k < length refs → SpellsWithin f (get_or refs k 0) levels
value_within f refs levels k within h =
    value_at f refs levels k within.items within.valid within.spell within.deep h
