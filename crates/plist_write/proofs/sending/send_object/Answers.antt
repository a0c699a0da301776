use Rattle.std.proofs.Common.{◌≡◌, [], ◌∷◌, ◌++◌, length, ap, refl, ◌∙◌, arith, length-append, rules}
use Rattle.std.proofs.lemmas.Result.{err_from_is_err_and, IfOk-weaker}
use Rattle.plist_object.specs.Spelling.{head}
use Rattle.plist_write.specs.Pieces.{octets_in_object}
use Rattle.plist_write.specs.BufferedSink.{sink_state}
use Rattle.plist_write.proofs.Going.{Emits_grown, Emits_then, allows_none, put-length, short_stop}
use Rattle.plist_write.proofs.sending.send_object.Goals as goal

pub returns-in_err-make_room-in-Scalar-Bytes-clause-pieces : goal.returns-in_err-make_room-in-Scalar-Bytes-clause-pieces
returns-in_err-make_room-in-Scalar-Bytes-clause-pieces g c =
    let e = err_from_is_err_and c.from_residual.result c.from_residual.ensures.1 in
    let q = sink_state g.W.Sink c.make_room.new.self in
    rw (e.1, e.2) (short_stop (octets_in_object c.args.width c.args.object.now ∷ []) 0 10 (sink_state g.W.Sink c.args.out.now) q q _ _ (omega arith) refl c.in_err-make_room-in-Scalar-Bytes.ensures.pieces)

pub returns-in_err-make_room-in_default-clause-pieces : goal.returns-in_err-make_room-in_default-clause-pieces
returns-in_err-make_room-in_default-clause-pieces g c = λ most allows fits before.
    let e = err_from_is_err_and c.from_residual-in_err-make_room-in_default.result c.from_residual-in_err-make_room-in_default.ensures.1 in
    let room = c.in_err-make_room-in_default.ensures.pieces most (allows_none most _ allows) (omega (arith, c.requires.size, allows.each.0)) before in
    rw (e.1, e.2) (record { waits = tt; pieces = room.pieces })

pub returns-in_ok-make_room-in-Scalar-Bytes-clause-emits : goal.returns-in_ok-make_room-in-Scalar-Bytes-clause-emits
returns-in_ok-make_room-in-Scalar-Bytes-clause-emits g c =
    let octets = c.in-Scalar-Bytes.octets.now in
    let same : octets_in_object c.args.width c.args.object.now ≡ head 4 (length octets) ++ octets = search rules in
    rw same
    (Emits_then [] (head 4 (length octets) ++ octets) (sink_state g.W.Sink c.args.out.now) (sink_state g.W.Sink c.make_room.new.self) (sink_state g.W.Sink c.send_data.new.out) _ c.send_data.result c.in_ok-make_room-in-Scalar-Bytes.ensures.emits c.send_data.ensures.emits)

pub returns-in_ok-make_room-in-Scalar-Bytes-clause-pieces : goal.returns-in_ok-make_room-in-Scalar-Bytes-clause-pieces
returns-in_ok-make_room-in-Scalar-Bytes-clause-pieces g c = λ most allows fits before.
    let room = c.in_ok-make_room-in-Scalar-Bytes.ensures.pieces most (allows_none most _ allows) (omega (arith, allows.least)) before in
    let octets = c.in-Scalar-Bytes.octets.now in
    let same : octets_in_object c.args.width c.args.object.now ≡ head 4 (length octets) ++ octets = search rules in
    let long = ap length same ∙ length-append (head 4 (length octets)) octets in
    c.send_data.ensures.pieces most (record { least = allows.least; each = (omega (arith, long, allows.each.0), tt) }) room.waits room.pieces

pub returns-in_ok-make_room-in_default-clause-emits : goal.returns-in_ok-make_room-in_default-clause-emits
returns-in_ok-make_room-in_default-clause-emits g c =
    let octets = octets_in_object c.args.width c.args.object.now in
    let q = sink_state g.W.Sink c.make_room-in_default.new.self in
    let items = c.put_object-put.new.out.items in
    Emits_then [] octets (sink_state g.W.Sink c.args.out.now) q (record q { waiting = items }) _ c.grown.result c.in_ok-make_room-in_default.ensures.emits (Emits_grown octets items q c.put_object-put.result c.grown.result (omega (arith, c.requires.some, c.requires.size)) c.put_object-put.ensures c.grown.ensures.value c.grown.ensures.refused)

pub returns-in_ok-make_room-in_default-clause-pieces : goal.returns-in_ok-make_room-in_default-clause-pieces
returns-in_ok-make_room-in_default-clause-pieces g c = λ most allows fits before.
    let octets = octets_in_object c.args.width c.args.object.now in
    let room = c.in_ok-make_room-in_default.ensures.pieces most (allows_none most _ allows) (omega (arith, c.requires.size, allows.each.0)) before in
    let before_it = c.make_room-in_default.new.self.waiting.now.items in
    let items = c.put_object-put.new.out.items in
    record {
      waits = IfOk-weaker c.grown.result _ _ (λ value is. (let put = put-length before_it items octets (rw is at c.put_object-put.ensures) in omega (arith, room.waits, put, c.requires.size))) c.grown.ensures.value;
      pieces = room.pieces;
    }
