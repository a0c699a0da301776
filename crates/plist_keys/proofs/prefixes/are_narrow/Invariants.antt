use Rattle.std.proofs.Common.{ℕ, ◌<◌, ◌≤◌, get_or}
use Rattle.plist_value.specs.Texts.{units_of}
use Rattle.plist_keys.proofs.prefixes.are_narrow.Given as goal

abbrev pub invariant-loop-i : goal.invariant-loop-i
invariant-loop-i l = (k : ℕ) → l.start ≤ k → k < l.i → get_or (units_of l.text) k 0 < 256
