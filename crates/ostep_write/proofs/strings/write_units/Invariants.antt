use Rattle.std.proofs.Common.{◌≡◌, ◌≤◌, ◌-◌, ℕ, List, ◌++◌, drop, length, Ok}
use Rattle.std.specs.Prelude.{flat_map}
use Rattle.plist_value.specs.Texts.{units_of}
use Rattle.plist_write.specs.BufferedSink.{Emits, sink_state}
use Rattle.plist_value.specs.Escapes.{quoted_unit}
use Rattle.ostep_write.proofs.strings.write_units.Given as goal

-- the written units and the remaining ones are all units
abbrev pub invariant-loop-index : goal.invariant-loop-index
invariant-loop-index g l = record {
  within : l.index ≤ length (units_of l.text);
  done : List ℕ;
  split : done ++ flat_map quoted_unit (drop l.index (units_of l.text)) ≡ flat_map quoted_unit (units_of l.text);
  emits : Emits {T = Unit {0}} done (sink_state g.W.Sink l.fn.out) (sink_state g.W.Sink l.out) (Ok tt);
}

abbrev pub decreases-loop-index : goal.decreases-loop-index
decreases-loop-index g l = length (units_of l.text) - l.index
