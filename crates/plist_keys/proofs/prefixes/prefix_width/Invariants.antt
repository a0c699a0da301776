use Rattle.std.proofs.Common.{ℕ, ◌<◌, get_or, drop}
use Rattle.plist_keys.specs.declared.order.Row.{Row}
use Rattle.plist_keys.specs.KeyOrder.{row_units}
use Rattle.plist_keys.specs.Prefixes.{IsNarrow}
use Rattle.plist_keys.proofs.prefixes.prefix_width.Given as goal

abbrev pub invariant-loop-row : goal.invariant-loop-row
invariant-loop-row l =
    (k : ℕ) (d : Row) → k < l.row-index → IsNarrow (drop l.front (row_units l.texts (get_or l.rows k d)))
