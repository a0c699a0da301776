use Rattle.std.proofs.Common.{◌≡◌, ◌≤◌, ◌-◌, take}
use Rattle.plist_value.proofs.stored.alike_blocks.Given as goal

abbrev pub invariant-loop-start : goal.invariant-loop-start
invariant-loop-start g l = (l.start ≤ l.most) × (take l.start (g.B.Stored.units l.other) ≡ take l.start (g.A.Stored.units l.text))

abbrev pub decreases-loop-start : goal.decreases-loop-start
decreases-loop-start g l = l.most - l.start
