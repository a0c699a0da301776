use Rattle.std.proofs.Common.{◌≡◌, take}
use Rattle.plist_object.specs.Views.{numbers_of}
use Rattle.plist_object.proofs.refs.Refs.is_same.Given as goal

abbrev pub invariant-loop-i : goal.invariant-loop-i
invariant-loop-i l = take l.i (numbers_of l.self) ≡ take l.i (numbers_of l.other)
