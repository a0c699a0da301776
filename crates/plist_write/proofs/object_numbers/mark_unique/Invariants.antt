use Rattle.plist_write.specs.ObjectNumbers.{MarksUnique}
use Rattle.plist_write.proofs.object_numbers.mark_unique.Given as goal

abbrev pub invariant-loop-i : goal.invariant-loop-i
invariant-loop-i l = MarksUnique l.filter l.fn.numbers.items l.numbers.items
