use Rattle.plist_object.specs.Views.{octets_of}
use Rattle.plist_keys.specs.Ranks.{AreKeys}
use Rattle.plist_keys.proofs.keys.Keys.look_at_all.Given as goal

abbrev pub invariant-loop-k : goal.invariant-loop-k
invariant-loop-k l = AreKeys (octets_of l.file) l.self
