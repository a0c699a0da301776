use Rattle.plist_object.specs.Views.{octets_of}
use Rattle.plist_keys.specs.Overlap.{AreCounted}
use Rattle.plist_keys.specs.Ranks.{AreKeys}
use Rattle.plist_keys.proofs.keys.Keys.of_tables.Given as goal

abbrev pub invariant-loop-i : goal.invariant-loop-i
invariant-loop-i l =
    let f = octets_of l.file in
    record {
      keys : AreKeys f l.keys;
      counted : AreCounted f l.i l.keys;
    }
