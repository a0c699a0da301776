use Rattle.std.proofs.Common.{◌<◌, length, rules, arith}
use Rattle.std.proofs.lemmas.Bool.Decides.{nat_tests}
use Rattle.plist_write.specs.BufferedSink.{sink_state}
use Rattle.plist_write.proofs.Going.{Emits_out}
use Rattle.plist_write.proofs.Steps.{refused}
use Rattle.plist_write.proofs.buffered_sink.BufferedSink.put.Goals as goal

pub returns-in_err-grown-clause-emits : goal.returns-in_err-grown-clause-emits
returns-in_err-grown-clause-emits g c =
    let some : 0 < length c.args.octets.now = first_of (search rules, grind (arith, nat_tests)) in
    refused c.from_residual.result c.from_residual.ensures.1 (rw (c.in_err-grown.ensures.refused.1) (Emits_out c.args.octets.now c.gather-gathered.new.out.items (sink_state g.W.Sink c.args.self.now) (omega (arith, some))))
