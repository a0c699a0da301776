use Rattle.plist_object.specs.Views.{octets_of}
use Rattle.plist_keys.specs.Ranks.{AreMarked}
use Rattle.plist_keys.proofs.reached.Reached.reach_all.Given as goal

abbrev pub invariant-loop-i : goal.invariant-loop-i
invariant-loop-i l = AreMarked (octets_of l.file) l.self
