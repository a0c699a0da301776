use Rattle.std.proofs.Common.{◌≡◌, ◌++◌, drop}
use Rattle.plist_object.specs.Views.{numbers_of}
use Rattle.plist_write.proofs.order.push_all.Given as goal

abbrev pub invariant-loop-i : goal.invariant-loop-i
invariant-loop-i l =
    l.references.items ++ drop l.i (numbers_of l.items) ≡ l.initial.references.items ++ numbers_of l.items
