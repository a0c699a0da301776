-- The limits, and what holds of a refusal other than out of memory.
use Rattle.std.specs.Prelude.{◌≡◌}
use Rattle.plist_value.specs.declared.budget.Budget.{Budget}
use Rattle.plist_value.specs.declared.TheConstants.{MAX_NODES, MAX_PAYLOAD}
use Rattle.plist_binary.specs.declared.fault.BinaryFault.{BinaryFault}
use Rattle.plist_binary.specs.declared.fault.BinaryFault.TheVariants.{OutOfMemory}

abbrev pub limits : Budget
limits = record { nodes = MAX_NODES; payload = MAX_PAYLOAD }

-- the fact, unless memory ran out
abbrev pub UnlessMemory : BinaryFault → Type 0 → Type 0
UnlessMemory fault P = (fault ≡ OutOfMemory → ⊥) → P
