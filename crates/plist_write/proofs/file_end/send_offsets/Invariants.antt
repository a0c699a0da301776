use Rattle.std.proofs.Common.{◌≡◌, List, ℕ, [], ◌++◌, drop, Ok}
use Rattle.plist_object.specs.Spelling.{references}
use Rattle.plist_write.specs.BufferedSink.{Emits, KeepsShort, sink_state}
use Rattle.plist_write.proofs.file_end.send_offsets.Given as goal

-- the entries written and those that remain are all entries
abbrev pub invariant-loop-offset : goal.invariant-loop-offset
invariant-loop-offset g l = record {
  done : List ℕ;
  split : done ++ references l.width (drop l.offset-index l.offsets) ≡ references l.width l.offsets;
  emits : Emits {T = Unit {0}} done (sink_state g.W.Sink l.fn.out) (sink_state g.W.Sink l.out) (Ok tt);
  short : KeepsShort {T = Unit {0}} [] 0 (sink_state g.W.Sink l.fn.out) (sink_state g.W.Sink l.out) (Ok tt);
}
