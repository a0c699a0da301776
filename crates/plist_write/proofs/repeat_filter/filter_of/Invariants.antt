use Rattle.plist_object.specs.Views.{octets_of}
use Rattle.plist_write.specs.RepeatFilter.{AreAdded}
use Rattle.plist_write.proofs.repeat_filter.filter_of.Given as goal

abbrev pub invariant-loop-i : goal.invariant-loop-i
invariant-loop-i g l = AreAdded (octets_of l.file) l.i l.builder
