use Rattle.std.proofs.Common.{◌≡◌, ◌-◌, ◌<◌, ◌≤◌, ◌++◌, drop, length, take}
use Rattle.plist_value.specs.Texts.{units_of}
use Rattle.plist_print.specs.Units.{printed_units}
use Rattle.plist_print.proofs.strings.put_run.Given as goal

-- the run and the remaining units are all from the first on
abbrev pub invariant-loop-filled : goal.invariant-loop-filled
invariant-loop-filled l = record {
  further : l.index < l.next;
  within : l.next ≤ length (units_of l.text);
  room : l.filled ≤ 192;
  split : take l.filled l.run ++ printed_units (drop l.next (units_of l.text)) ≡ printed_units (drop l.index (units_of l.text));
}

abbrev pub decreases-loop-filled : goal.decreases-loop-filled
decreases-loop-filled l = length (units_of l.text) - l.next
