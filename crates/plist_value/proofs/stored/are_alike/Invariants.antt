use Rattle.std.proofs.Common.{◌≡◌, IsTrue, take}
use Rattle.plist_value.proofs.stored.are_alike.Given as goal

-- as long as no unit differed, all units before are the same
abbrev pub invariant-loop-i : goal.invariant-loop-i
invariant-loop-i g l = IsTrue l.alike → take l.i (g.B.Stored.units l.other) ≡ take l.i (g.A.Stored.units l.text)
