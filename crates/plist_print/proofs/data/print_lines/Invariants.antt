use Rattle.std.proofs.Common.{◌≡◌, ℕ, List, ◌++◌, length, Ok}
use Rattle.plist_write.specs.BufferedSink.{Emits, sink_state}
use Rattle.plist_print.specs.Printed.{indent, octet_lines}
use Rattle.plist_print.proofs.data.print_lines.Given as goal

-- the lines written and the remaining ones are all lines
abbrev pub invariant-loop-left : goal.invariant-loop-left
invariant-loop-left g l = record {
  done : List ℕ;
  split : done ++ octet_lines (indent l.level) l.left ≡ octet_lines (indent l.level) l.octets;
  emits : Emits {T = Unit {0}} done (sink_state g.W.Sink l.fn.out) (sink_state g.W.Sink l.out) (Ok tt);
}

abbrev pub decreases-loop-left : goal.decreases-loop-left
decreases-loop-left g l = length l.left
