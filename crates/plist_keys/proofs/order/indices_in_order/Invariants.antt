use Rattle.std.proofs.Common.{◌≡◌, ◌++◌, drop, map}
use Rattle.plist_keys.specs.KeyOrder.{index_of}
use Rattle.plist_keys.proofs.order.indices_in_order.Given as goal

abbrev pub invariant-loop-row : goal.invariant-loop-row
invariant-loop-row l =
    l.indices.items ++ map index_of (drop l.row-index l.rows) ≡ map index_of l.rows
