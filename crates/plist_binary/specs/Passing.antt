-- What the validator passes: an object that encodes a value within a budget, of which only the size
-- is known.
use Rattle.std.specs.Prelude.{◌≡◌, ℕ, ◌≤◌, Bool, true, ◌&&◌, List}
use Rattle.plist_value.specs.Plist.{Plist, Pairs}
use Rattle.plist_value.specs.Limits.{depth, depth_of_items, depth_of_pairs}
use Rattle.plist_value.specs.View.{items_of}
use Rattle.plist_value.specs.Writable.{is_writable, are_writable_items, are_writable_pairs}
use Rattle.plist_value.specs.declared.budget.Budget.{Budget}
use Rattle.plist_value.specs.declared.TheConstants.{MAX_NODES, MAX_DEPTH, MAX_PAYLOAD}
use Rattle.plist_object.specs.Layout.{trailer_of}
use Rattle.plist_binary.specs.Budgets.{limits}
use Rattle.plist_binary.specs.Readings.{Reads, ReadsItems, ReadsPairs}

-- the object encodes a value, at most `levels` deep, that takes the difference of the budgets; all
-- values up to it are writable if those before it are and this one is
pub record Passes (f : List ℕ) (i levels : ℕ) (before : Budget) (deep : ℕ)
    (after : Budget) (first all : Bool) : Type 0 where
  pub value : Plist
  pub reads : Reads f i levels before value after
  pub writable : all ≡ (first && is_writable value)
  pub depth_is : depth value ≤ deep
  pub within : deep ≤ levels

-- the references point to values, in order
pub record PassesItems (f refs : List ℕ) (levels : ℕ) (before : Budget) (deep : ℕ)
    (after : Budget) (first all : Bool) : Type 0 where
  pub values : List Plist
  pub writable : all ≡ (first && are_writable_items (items_of values))
  pub reads : ReadsItems f refs levels before (items_of values) after
  pub depth_is : depth_of_items (items_of values) ≤ deep
  pub within : deep ≤ levels

-- the references to keys and to values give the pairs of a dictionary
pub record PassesPairs (f keys values : List ℕ) (levels : ℕ) (before : Budget) (deep : ℕ)
    (after : Budget) (first all : Bool) : Type 0 where
  pub pairs : Pairs
  pub writable : all ≡ (first && are_writable_pairs pairs)
  pub reads : ReadsPairs f keys values levels before pairs after
  pub depth_is : depth_of_pairs pairs ≤ deep
  pub within : deep ≤ levels

-- the budget is at most the limits
pub record IsWithinLimits (left : Budget) : Type 0 where
  pub nodes_most : left.nodes ≤ MAX_NODES
  pub payload_most : left.payload ≤ MAX_PAYLOAD

-- the top object encodes a value within the limits, which is writable or not
pub record PassesTop (f : List ℕ) (writable : Bool) : Type 0 where
  pub deep : ℕ
  pub after : Budget
  pub passes : Passes f (trailer_of f).top MAX_DEPTH limits deep after true writable
