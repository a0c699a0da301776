use Rattle.std.proofs.Common.{◌≡◌, take}
use Rattle.plist_value.specs.Texts.{units_of}
use Rattle.plist_binary.proofs.copies.utf16.Given as goal

abbrev pub invariant-loop-i : goal.invariant-loop-i
invariant-loop-i l = l.units.items ≡ take l.i (units_of l.text)
