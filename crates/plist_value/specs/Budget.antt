-- What is left of a budget of nodes and payload.
use Rattle.std.specs.Prelude.{◌≡◌, ℕ, ◌+◌, ◌≤◌}
use Rattle.plist_value.specs.declared.budget.Budget.{Budget}

-- the second budget is the first minus the nodes and the payload
pub record Spends (before : Budget) (nodes payload : ℕ) (after : Budget) : Type 0 where
  pub nodes_left : after.nodes + nodes ≡ before.nodes
  pub payload_left : after.payload + payload ≡ before.payload

-- the nodes or the payload are more than the budget has
abbrev pub IsOver : Budget → ℕ → ℕ → Type 0
IsOver before nodes payload = nodes ≤ before.nodes → payload ≤ before.payload → ⊥

-- the nodes and the payload are within the budget
pub record Affords (left : Budget) (nodes payload : ℕ) : Type 0 where
  pub nodes_there : nodes ≤ left.nodes
  pub payload_there : payload ≤ left.payload
