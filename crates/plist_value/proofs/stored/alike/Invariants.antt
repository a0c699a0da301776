use Rattle.std.proofs.Common.{◌≡◌, take}
use Rattle.plist_value.proofs.stored.alike.Given as goal

abbrev pub invariant-loop-i : goal.invariant-loop-i
invariant-loop-i g l = take l.i (g.B.Stored.units l.other) ≡ take l.i (g.A.Stored.units l.text)
