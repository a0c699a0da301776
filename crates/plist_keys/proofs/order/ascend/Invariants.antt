use Rattle.std.proofs.Common.{map}
use Rattle.plist_keys.specs.KeyOrder.{row_units}
use Rattle.plist_keys.proofs.Ascents.{AscendTo}
use Rattle.plist_keys.proofs.order.ascend.Given as goal

abbrev pub invariant-loop-i : goal.invariant-loop-i
invariant-loop-i l = AscendTo l.i (map (row_units l.texts) l.rows)
