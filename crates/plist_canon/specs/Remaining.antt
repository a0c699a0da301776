-- What the walk from object 0 still takes from the limits.
use Rattle.std.specs.Prelude.{◌≡◌, ℕ, ◌+◌, ◌≤◌, ⊤, List, [], ◌∷◌, Option, Some, None}
use Rattle.plist_value.specs.Plist.{Plist, Items, IsPlist, AreItems}
use Rattle.plist_value.specs.Limits.{Fits, nodes, depth, payload, nodes_of_items, depth_of_items}
use Rattle.plist_value.specs.Limits.{payload_of_items}
use Rattle.plist_value.specs.declared.TheConstants.{MAX_NODES, MAX_DEPTH, MAX_PAYLOAD}
use Rattle.plist_value.specs.Budget.{Spends, IsOver}
use Rattle.plist_value.specs.declared.budget.Budget.{Budget}
use Rattle.plist_object.specs.Spelled.{Spells, SpellItems}
use Rattle.plist_canon.specs.declared.weights.Weight.{Weight}
use Rattle.plist_canon.specs.Weights.{payload_of_weight}
use Rattle.plist_canon.specs.Preorders.{Group}

-- the values that the references of a group refer to
pub record Referred (f : List ℕ) (group : Group) : Type 0 where
  pub items : Items
  pub valid : AreItems items
  pub spelled : SpellItems f group.refs items

abbrev pub AllReferred : List ℕ → List Group → Type 0
AllReferred f [] = ⊤
AllReferred f (group ∷ groups) = Referred f group × AllReferred f groups

abbrev pub nodes_referred : (f : List ℕ) (groups : List Group) → AllReferred f groups → ℕ
nodes_referred f [] referred = 0
nodes_referred f (group ∷ groups) referred =
    nodes_of_items referred.0.items + nodes_referred f groups referred.1

abbrev pub payload_referred : (f : List ℕ) (groups : List Group) → AllReferred f groups → ℕ
payload_referred f [] referred = 0
payload_referred f (group ∷ groups) referred =
    payload_of_items referred.0.items + payload_referred f groups referred.1

-- no value is deeper than its group allows
abbrev pub AreWithinLimits : (f : List ℕ) (groups : List Group) → AllReferred f groups → Type 0
AreWithinLimits f [] referred = ⊤
AreWithinLimits f (group ∷ groups) referred = (depth_of_items referred.0.items ≤ group.levels)
    × AreWithinLimits f groups referred.1

-- All of the value but what the groups refer to is spent. The value is within the limit of depth if
-- and only if the groups are.
pub record IsSpent (f : List ℕ) (groups : List Group) (left : Budget) (v : Plist) : Type 0 where
  pub referred : AllReferred f groups
  pub nodes_left : left.nodes + nodes v ≡ MAX_NODES + nodes_referred f groups referred
  pub payload_left : left.payload + payload v ≡ MAX_PAYLOAD + payload_referred f groups referred
  pub payload_most : left.payload ≤ MAX_PAYLOAD
  pub within : depth v ≤ MAX_DEPTH → AreWithinLimits f groups referred
  pub deep : AreWithinLimits f groups referred → depth v ≤ MAX_DEPTH

-- what is left of the limits before the groups are walked, none if a limit is exceeded
abbrev pub HasLeft : List ℕ → List Group → Option Budget → Type 0
HasLeft f groups (Some left) = (v : Plist) → IsPlist v → Spells f 0 v → IsSpent f groups left v
HasLeft f groups None = (v : Plist) → IsPlist v → Spells f 0 v → ¬ Fits v

-- what an object of this weight takes if `levels` are allowed
abbrev pub TakesLeft : ℕ → Weight → Option Budget → Option Budget → Type 0
TakesLeft levels weight None after = after ≡ None
TakesLeft levels weight (Some before) (Some after) = (1 ≤ levels)
    × Spends before 1 (payload_of_weight weight) after
TakesLeft levels weight (Some before) None = 1 ≤ levels → IsOver before 1 (payload_of_weight weight)
