use Rattle.std.proofs.Common.{◌≡◌, ◌-◌, ◌≤◌, length, take}
use Rattle.std.specs.Io.KnownBytes.{Appends}
use Rattle.plist_devices.specs.Sink.{IsLongest}
use Rattle.plist_devices.proofs.putting.put_all.Given as goal

abbrev pub invariant-loop-taken : goal.invariant-loop-taken
invariant-loop-taken g l = record {
  within : l.taken ≤ length l.octets;
  took : Appends (g.W.Sink.taken l.fn.out) (g.W.Sink.taken l.out) (take l.taken l.octets);
  kept : g.W.Sink.failures l.out ≡ g.W.Sink.failures l.fn.out;
  same : g.W.Sink.device l.out ≡ g.W.Sink.device l.fn.out;
  longest : IsLongest (g.W.Sink.longest l.fn.out) (g.W.Sink.longest l.out) (length l.octets);
}

abbrev pub decreases-loop-taken : goal.decreases-loop-taken
decreases-loop-taken g l = length l.octets - l.taken
