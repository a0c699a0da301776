use Rattle.std.proofs.Common.{◌≡◌, ◌≤◌, length, drop}
use Rattle.plist_value.specs.Texts.{units_of}
use Rattle.ostep_text.specs.Key.{packed}
use Rattle.ostep_text.proofs.key.wide_number.Given as goal

abbrev pub decreases-loop-left : goal.decreases-loop-left
decreases-loop-left l = l.left

-- the units from `left` on, as a number
abbrev pub invariant-loop-left : goal.invariant-loop-left
invariant-loop-left l = record {
  within : l.left ≤ length (units_of l.text);
  number : l.number ≡ packed 65536 (drop l.left (units_of l.text));
}
