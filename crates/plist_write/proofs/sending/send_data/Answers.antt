use Rattle.std.proofs.Common.{◌++◌, length, length-append, arith}
use Rattle.plist_object.specs.Spelling.{head}
use Rattle.plist_write.proofs.Going.{Emits_out, put-length}
use Rattle.plist_write.specs.BufferedSink.{sink_state}
use Rattle.plist_write.proofs.Steps.{refused}
use Rattle.plist_write.proofs.Sizes.{head-most}
use Rattle.plist_write.proofs.sending.send_data.Goals as goal

pub returns-in_err-grown-clause-emits : goal.returns-in_err-grown-clause-emits
returns-in_err-grown-clause-emits g c =
    let octets = c.args.octets.now in
    let long = length-append (head 4 (length octets)) octets in
    refused c.from_residual.result c.from_residual.ensures.1 (rw (c.in_err-grown.ensures.refused.1) (Emits_out (head 4 (length octets) ++ octets) c.put_data_head-put.new.out.items (sink_state g.W.Sink c.args.out.now) (omega (arith, long, c.requires.long))))

pub returns-clause-pieces : goal.returns-clause-pieces
returns-clause-pieces g c = λ most allows room before.
    let begun = head 4 (length c.args.octets.now) in
    let put = rw c.in_ok-grown.ensures.value at c.put_data_head-put.ensures.ok in
    let held = put-length c.args.out.now.waiting.now.items c.put_data_head-put.new.out.items begun put in
    let small = head-most 4 (length c.args.octets.now) in
    c.send_long.ensures.pieces most allows (omega arith) (record { waits = omega (arith, held, small, room); pieces = before })
