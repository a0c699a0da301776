use Rattle.plist_object.specs.Views.{octets_of}
use Rattle.plist_keys.specs.Ranks.{AreKeys, AreMarked}
use Rattle.plist_keys.proofs.reached.reached_keys.Given as goal

abbrev pub invariant-loop-i : goal.invariant-loop-i
invariant-loop-i l = record {
  keys : AreKeys (octets_of l.file) l.keys;
  marks : AreMarked (octets_of l.file) l.reached;
}
