-- What a file encodes within a budget, and what it cannot encode.
use Rattle.std.specs.Prelude.{ℕ, ◌*◌, ◌≤◌, List, [], ◌∷◌, length}
use Rattle.std.specs.Ordering.{eq_by_cmp, nat_cmp}
use Rattle.std.specs.Cmp.Lexicographic.{slice_cmp}
use Rattle.std.specs.List.{IsDistinct, zip}
use Rattle.std.specs.List.Sorted.{IsPermutation}
use Rattle.plist_value.specs.Plist.{text, Plist, scalar, Items, no_items, item, Pairs, IsPlist}
use Rattle.plist_value.specs.Plist.{AreItems, ArePairs}
use Rattle.plist_value.specs.Limits.{nodes, depth, payload, nodes_of_items, depth_of_items}
use Rattle.plist_value.specs.Limits.{payload_of_items, nodes_of_pairs, depth_of_pairs}
use Rattle.plist_value.specs.Limits.{payload_of_pairs}
use Rattle.plist_object.specs.Spelled.{Spells, SpellItems, SpellPairs}
use Rattle.plist_value.specs.declared.budget.Budget.{Budget}
use Rattle.plist_binary.specs.declared.fault.BinaryFault.{BinaryFault}
use Rattle.plist_value.specs.Budget.{Spends, Affords}
use Rattle.plist_binary.specs.Budgets.{UnlessMemory}
use Rattle.plist_binary.specs.Faults.{Stands}

-- the object encodes the value, which is at most `levels` deep and takes the difference of the
-- budgets
pub record Reads (f : List ℕ) (i levels : ℕ) (before : Budget) (v : Plist)
    (after : Budget) : Type 0 where
  pub spells : Spells f i v
  pub valid : IsPlist v
  pub deep : depth v ≤ levels
  pub spent : Spends before (nodes v) (payload v) after

-- the fault is true, and the object encodes no value of at most `levels`
-- levels within the budget left
pub record Refuses (f : List ℕ) (i levels : ℕ) (left : Budget) (fault : BinaryFault) : Type 0 where
  pub stands : Stands f fault
  pub none : UnlessMemory fault ((v : Plist) → IsPlist v → Spells f i v → depth v ≤ levels
      → Affords left (nodes v) (payload v) → ⊥)

-- the references point to the items, in order
pub record ReadsItems (f refs : List ℕ) (levels : ℕ) (before : Budget) (vs : Items)
    (after : Budget) : Type 0 where
  pub spell : SpellItems f refs vs
  pub valid : AreItems vs
  pub deep : depth_of_items vs ≤ levels
  pub spent : Spends before (nodes_of_items vs) (payload_of_items vs) after

pub record RefusesItems (f refs : List ℕ) (levels : ℕ) (left : Budget)
    (fault : BinaryFault) : Type 0 where
  pub stands : Stands f fault
  pub none : UnlessMemory fault ((vs : Items) → AreItems vs → SpellItems f refs vs
      → depth_of_items vs ≤ levels → Affords left (nodes_of_items vs) (payload_of_items vs) → ⊥)

-- strings as items
abbrev pub texts : List (List ℕ) → Items
texts [] = no_items
texts (units ∷ keys) = item (scalar (text units)) (texts keys)

-- the object contains a string, and takes the difference of the budgets
pub record ReadsKey (f : List ℕ) (i levels : ℕ) (before after : Budget) : Type 0 where
  pub units : List ℕ
  pub reads : Reads f i levels before (scalar (text units)) after

-- the fault is true, and the object is not a string within the budget
pub record RefusesKey (f : List ℕ) (i levels : ℕ) (left : Budget)
    (fault : BinaryFault) : Type 0 where
  pub stands : Stands f fault
  pub none : UnlessMemory fault ((units : List ℕ) → IsPlist (scalar (text units))
      → Spells f i (scalar (text units)) → 1 ≤ levels → Affords left 1 (2 * length units) → ⊥)

-- the references point to strings, no two of which are equal
pub record ReadsKeys (f refs : List ℕ) (levels : ℕ) (before after : Budget) : Type 0 where
  pub keys : List (List ℕ)
  pub reads : ReadsItems f refs levels before (texts keys) after
  pub distinct : IsDistinct (eq_by_cmp (slice_cmp nat_cmp)) keys

-- the fault is true, and the references do not point to distinct strings within the budget
pub record RefusesKeys (f refs : List ℕ) (levels : ℕ) (left : Budget)
    (fault : BinaryFault) : Type 0 where
  pub stands : Stands f fault
  pub none : UnlessMemory fault ((keys : List (List ℕ)) → AreItems (texts keys)
      → SpellItems f refs (texts keys) → IsDistinct (eq_by_cmp (slice_cmp nat_cmp)) keys
      → depth_of_items (texts keys) ≤ levels
      → Affords left (nodes_of_items (texts keys)) (payload_of_items (texts keys)) → ⊥)

-- the rows, each a reference to a key and one to its value, give the pairs in some order
pub record PairsSpelled (f : List ℕ) (all : List (ℕ × ℕ)) (ps : Pairs) : Type 0 where
  pub rows : List (ℕ × ℕ)
  pub moved : IsPermutation all rows
  pub spell : SpellPairs f rows ps
  pub valid : ArePairs ps

-- the references to keys and to values give the pairs
pub record ReadsPairs (f refs others : List ℕ) (levels : ℕ) (before : Budget) (ps : Pairs)
    (after : Budget) : Type 0 where
  pub spelled : PairsSpelled f (zip refs others) ps
  pub deep : depth_of_pairs ps ≤ levels
  pub spent : Spends before (nodes_of_pairs ps) (payload_of_pairs ps) after

pub record RefusesPairs (f refs others : List ℕ) (levels : ℕ) (left : Budget)
    (fault : BinaryFault) : Type 0 where
  pub stands : Stands f fault
  pub none : UnlessMemory fault ((ps : Pairs) → PairsSpelled f (zip refs others) ps
      → depth_of_pairs ps ≤ levels → Affords left (nodes_of_pairs ps) (payload_of_pairs ps) → ⊥)
