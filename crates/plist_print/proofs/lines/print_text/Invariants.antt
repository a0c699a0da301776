use Rattle.std.proofs.Common.{◌≡◌, ◌≤◌, ◌-◌, ℕ, List, ◌∷◌, ◌++◌, drop, length, Ok}
use Rattle.plist_value.specs.Texts.{units_of}
use Rattle.plist_write.specs.BufferedSink.{Emits, sink_state}
use Rattle.plist_print.specs.Units.{printed_units}
use Rattle.plist_print.proofs.lines.print_text.Given as goal

-- the quote, the printed units and the remaining ones are the quote and all units
abbrev pub invariant-loop-index : goal.invariant-loop-index
invariant-loop-index g l = record {
  within : l.index ≤ length (units_of l.text);
  done : List ℕ;
  split : done ++ printed_units (drop l.index (units_of l.text)) ≡ 34 ∷ printed_units (units_of l.text);
  emits : Emits {T = Unit {0}} done (sink_state g.W.Sink l.fn.out) (sink_state g.W.Sink l.out) (Ok tt);
}

abbrev pub decreases-loop-index : goal.decreases-loop-index
decreases-loop-index g l = length (units_of l.text) - l.index
