use Rattle.std.proofs.Common.{ℕ, ◌*◌, ◌<◌, min, rules, arith}
use Rattle.std.proofs.lemmas.Bool.Decides.{nat_tests}
use Rattle.std.proofs.lemmas.List.{length-replicate}
use Rattle.plist_write.specs.BufferedSink.{sink_state}
use Rattle.plist_write.proofs.Steps.{unbuffered}
use Rattle.plist_print.specs.Printed.{indent}
use Rattle.plist_print.proofs.layout.begin_line.Goals as goal

pub returns-in_err-grown : goal.returns-in_err-grown
returns-in_err-grown g c =
    let deep : 0 < c.args.level = first_of (search rules, grind (arith, nat_tests)) in
    let long = length-replicate {A = ℕ} (2 * min c.args.level 32) 32 in
    record { emits = unbuffered (indent c.args.level) c.put_indent-put.new.out.items (sink_state g.W.Sink c.args.out.now) _ c.from_residual.result c.from_residual.ensures.1 c.in_err-grown.ensures.refused.1 (omega (arith, deep, long)) }
