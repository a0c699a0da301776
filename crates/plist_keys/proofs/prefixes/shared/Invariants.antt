use Rattle.std.proofs.Common.{◌≡◌, ◌<◌, ◌≤◌, ℕ, length, take, get_or}
use Rattle.plist_keys.specs.declared.order.Row.{Row}
use Rattle.plist_value.specs.Texts.{units_of}
use Rattle.plist_keys.specs.KeyOrder.{row_units}
use Rattle.plist_keys.proofs.prefixes.shared.Given as goal

abbrev pub invariant-loop-row : goal.invariant-loop-row
invariant-loop-row l =
    (l.count ≤ length (units_of l.first)) × ((k : ℕ) (d : Row) → k < l.row-index → take l.count (row_units l.texts (get_or l.others k d)) ≡ take l.count (units_of l.first))
