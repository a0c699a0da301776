-- What is passed, from its content, its items or its pairs, or from what was known of it.
use Rattle.std.proofs.Common.{◌≡◌, ℕ, ◌+◌, ◌-◌, ◌<◌, ◌≤◌, Bool, refl, max, List, [], ◌∷◌, ◌++◌, length, take, slice_index, ap, sym, ◌∙◌, subst, arith}
use Rattle.std.specs.Prelude.{◌&&◌}
use Rattle.std.specs.List.{IsDistinct}
use Rattle.std.proofs.lemmas.Bool.{and_parts}
use Rattle.plist_value.specs.declared.budget.Budget.{Budget}
use Rattle.plist_value.specs.Budget.{Spends}
use Rattle.plist_value.specs.Plist.{Scalar, Plist, scalar, text, list, table, Items, IsScalar}
use Rattle.plist_value.specs.Limits.{payload_of_scalar}
use Rattle.plist_value.specs.View.{items_of}
use Rattle.plist_value.specs.Writable.{is_writable, is_writable_scalar, are_writable_items, are_writable_pairs}
use Rattle.plist_object.specs.Layout.{trailer_of}
use Rattle.plist_object.specs.Objects.{holds_scalar, holds_list, holds_table}
use Rattle.plist_object.specs.Places.{Holds}
use Rattle.plist_object.proofs.Uniqueness.{same_value}
use Rattle.plist_keys.proofs.Ascents.{same_key}
use Rattle.plist_binary.specs.declared.states.ValueSize.{ValueSize}
use Rattle.plist_binary.specs.States.{IsKey, IsValueSize}
use Rattle.plist_binary.specs.declared.progress.Progress.{Progress}
use Rattle.plist_binary.specs.declared.walker.Node.{Node}
use Rattle.plist_binary.specs.Passing.{Passes, PassesItems, PassesPairs}
use Rattle.plist_binary.specs.Progress.{IsTaken}
use Rattle.plist_binary.specs.Readings.{Reads, ReadsItems, ReadsKey, texts}
use Rattle.plist_binary.proofs.Inserting.{gather}
use Rattle.plist_binary.proofs.ItemSteps.{ReadsItems-next, Spends-then, Spends-none}
use Rattle.plist_binary.proofs.Making.{Reads-scalar, Reads-list, Reads-table}
use Rattle.plist_binary.proofs.Writable.{kept, writable-next}
use Rattle.plist_value.proofs.Items.{items_of-push, depth-push}
use Rattle.plist_binary.proofs.TableSteps.{length-texts, length-items}

-- a value that is known and fits
pub Passes-size : (f : List ℕ) (i levels : ℕ) (before after : Budget) (size : ValueSize) (all : Bool) → IsValueSize f all i size → size.depth ≤ levels → Spends before size.nodes size.payload after → Passes f i levels before size.depth after all all
Passes-size f i levels before after size all is fits spent =
    record {
      value = is.value;
      reads = record {
        spells = is.spells;
        valid = is.valid;
        deep = omega (arith, is.deep);
        spent = Spends-then spent (Spends-none after) (omega (arith, is.nodes_are)) (omega (arith, is.payload_is));
      };
      writable = kept all (is_writable is.value) is.writable;
      depth_is = is.deep;
      within = fits;
    }

-- what was passed is known afterwards
pub IsValueSize-passed : {f : List ℕ} {i levels deep : ℕ} {before after : Budget} {first all : Bool} (size : ValueSize) → Passes f i levels before deep after first all → after.nodes + size.nodes ≡ before.nodes → after.payload + size.payload ≡ before.payload → size.depth ≡ deep → IsValueSize f all i size
IsValueSize-passed {first = first} size passed nodes_gone payload_gone depth_is = record {
  value = passed.value;
  spells = passed.reads.spells;
  valid = passed.reads.valid;
  nodes_are = omega (arith, nodes_gone, passed.reads.spent.nodes_left);
  payload_is = omega (arith, payload_gone, passed.reads.spent.payload_left);
  deep = omega (arith, passed.depth_is, depth_is);
  writable = λ is. (and_parts first (is_writable passed.value) (sym passed.writable ∙ is)).1;
}

pub Passes-scalar : {f : List ℕ} {node : Node} {before left : Progress} {all : Bool} (after : Budget) (s : Scalar) → Holds f node.object (holds_scalar s) → IsScalar s → IsTaken f node before left → Spends left.left 0 (payload_of_scalar s) after → all ≡ (left.writable && is_writable_scalar s) → Passes f node.object node.levels before.left 1 after before.writable all
Passes-scalar after s holds valid taken spent writable = record {
  value = scalar s;
  writable = writable ∙ ap (λ (b : Bool). b && is_writable_scalar s) taken.so_far.writable;
  reads = Reads-scalar after s holds valid taken spent;
  depth_is = omega arith;
  within = taken.deep;
}

pub Passes-list : {f : List ℕ} {node : Node} {before left : Progress} {after : Budget} {deep : ℕ} {all : Bool} (refs : List ℕ) → Holds f node.object (holds_list refs) → IsTaken f node before left → PassesItems f refs (node.levels - 1) left.left deep after left.writable all → Passes f node.object node.levels before.left (1 + deep) after before.writable all
Passes-list {after = after} refs holds taken items = record {
  value = list (items_of items.values);
  writable = items.writable ∙ ap (λ (b : Bool). b && are_writable_items (items_of items.values)) taken.so_far.writable;
  reads = Reads-list refs after (items_of items.values) holds taken items.reads;
  depth_is = omega (arith, items.depth_is);
  within = omega (arith, items.within, taken.deep);
}

pub Passes-table : {f : List ℕ} {node : Node} {before left : Progress} {after : Budget} {deep : ℕ} {first all : Bool} (keys values : List ℕ) → Holds f node.object (holds_table keys values) → IsTaken f node before left → first ≡ left.writable → PassesPairs f keys values (node.levels - 1) left.left deep after first all → Passes f node.object node.levels before.left (1 + deep) after before.writable all
Passes-table {after = after} keys values holds taken same passed = record {
  value = table passed.pairs;
  writable = passed.writable ∙ ap (λ (b : Bool). b && are_writable_pairs passed.pairs) (same ∙ taken.so_far.writable);
  reads = Reads-table keys values after passed.pairs holds taken passed.reads;
  depth_is = omega (arith, passed.depth_is);
  within = omega (arith, passed.within, taken.deep);
}

pub PassesItems-next : {first so_far all : Bool} (f refs : List ℕ) (k i levels : ℕ) (before left after : Budget) (deepest deep : ℕ) → k < length refs → i ≡ slice_index refs k → i < (trailer_of f).count → PassesItems f (take k refs) levels before deepest left first so_far → Passes f i levels left deep after so_far all → PassesItems f (take (k + 1) refs) levels before (max deepest deep) after first all
PassesItems-next f refs k i levels before left after deepest deep within is listed items one =
    let pushed = items_of-push items.values one.value in
    record {
      values = items.values ++ one.value ∷ [];
      writable = writable-next _ _ _ items.values one.value items.writable one.writable;
      reads = subst (λ (vs : Items). ReadsItems f (take (k + 1) refs) levels before vs after) (sym pushed) (ReadsItems-next f refs k i levels before left after (items_of items.values) one.value within is listed items.reads one.reads);
      depth_is = rw pushed (depth-push (items_of items.values) one.value (max deepest deep) (omega (arith, items.depth_is)) (omega (arith, one.depth_is)));
      within = omega (arith, items.within, one.within);
    }

-- distinct keys that were read, and values that were passed
pub PassesPairs-read : {first all : Bool} (f keys values : List ℕ) (levels : ℕ) (before left after : Budget) (us : List (List ℕ)) (deep : ℕ) → length keys ≡ length values → ReadsItems f keys levels before (texts us) left → PassesItems f values levels left deep after first all → IsDistinct same_key us → PassesPairs f keys values levels before deep after first all
PassesPairs-read f keys values levels before left after us deep long read passed distinct =
    let vs = passed.values in
    let both = gather f keys values us vs long (length-texts f keys us read.spell) (length-items f values vs passed.reads.spell) read.spell passed.reads.spell read.valid passed.reads.valid distinct in
    record {
      pairs = both.pairs;
      writable = rw both.writable passed.writable;
      reads = record {
        spelled = both.spelled;
        deep = omega (arith, both.deep, passed.reads.deep);
        spent = Spends-then read.spent passed.reads.spent both.nodes_sum both.payload_sum;
      };
      depth_is = omega (arith, both.deep, passed.depth_is);
      within = passed.within;
    }

-- Keys: a string that was read, and one that is known.

pub IsKey-read : (f : List ℕ) (i levels : ℕ) (before after : Budget) (units : List ℕ) (size : ℕ) → Reads f i levels before (scalar (text units)) after → after.payload + size ≡ before.payload → IsKey f i size
IsKey-read f i levels before after units size reads gone = record {
  units = units;
  spells = reads.spells;
  valid = reads.valid;
  payload_is = omega (arith, gone, reads.spent.payload_left);
}

pub IsValueSize-key : (f : List ℕ) (all : Bool) (i size : ℕ) → IsKey f i size → IsValueSize f all i record { depth = 1; nodes = 1; payload = size }
IsValueSize-key f all i size key = record {
  value = scalar (text key.units);
  spells = key.spells;
  valid = key.valid;
  nodes_are = refl;
  payload_is = key.payload_is;
  deep = omega arith;
  writable = λ _. refl;
}

-- a key that is known
pub ReadsKey-known : {f : List ℕ} {i levels size deep : ℕ} {before after : Budget} {first all : Bool} → IsKey f i size → Passes f i levels before deep after first all → ReadsKey f i levels before after
ReadsKey-known {f} {i} {levels} {before = before} {after} key passed = record {
  units = key.units;
  reads = subst (λ (v : Plist). Reads f i levels before v after) (same_value f i passed.value (scalar (text key.units)) passed.reads.valid key.valid passed.reads.spells key.spells) passed.reads;
}
