use Rattle.std.proofs.Common.{◌≡◌, ℕ, List, ◌++◌, length, Ok}
use Rattle.std.specs.Prelude.{flat_map}
use Rattle.plist_value.specs.Digits.{two_digits}
use Rattle.plist_write.specs.BufferedSink.{Emits, sink_state}
use Rattle.ostep_write.proofs.data.write_digits.Given as goal

-- the digits written and the remaining ones are all digits
abbrev pub invariant-loop-left : goal.invariant-loop-left
invariant-loop-left g l = record {
  done : List ℕ;
  split : done ++ flat_map two_digits l.left ≡ flat_map two_digits l.octets;
  emits : Emits {T = Unit {0}} done (sink_state g.W.Sink l.fn.out) (sink_state g.W.Sink l.out) (Ok tt);
}

abbrev pub decreases-loop-left : goal.decreases-loop-left
decreases-loop-left g l = length l.left
