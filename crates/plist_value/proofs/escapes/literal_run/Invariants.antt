use Rattle.std.proofs.Common.{◌≡◌, ◌+◌, ◌≤◌, ◌-◌, drop, length}
use Rattle.std.specs.List.{prefix_len}
use Rattle.plist_value.specs.Escapes.{is_literal}
use Rattle.plist_value.proofs.escapes.literal_run.Given as goal

-- the bytes so far need no escape
abbrev pub invariant-loop-length : goal.invariant-loop-length
invariant-loop-length l = record {
  within : l.length ≤ length l.first;
  same : prefix_len is_literal l.first ≡ l.length + prefix_len is_literal (drop l.length l.first);
}

abbrev pub decreases-loop-length : goal.decreases-loop-length
decreases-loop-length l = length l.first - l.length
