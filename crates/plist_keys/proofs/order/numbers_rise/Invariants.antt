use Rattle.std.proofs.Common.{◌<◌}
use Rattle.std.specs.List.{AllAdjacentBelow}
use Rattle.plist_keys.specs.KeyOrder.{sort_key}
use Rattle.plist_keys.proofs.order.numbers_rise.Given as goal

abbrev pub invariant-loop-i : goal.invariant-loop-i
invariant-loop-i l = AllAdjacentBelow (λ row next. sort_key row < sort_key next) l.rows l.i
