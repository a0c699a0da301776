use Rattle.std.proofs.Common.{[], refl, arith}
use Rattle.std.proofs.lemmas.Result.{err_from_is_err_and}
use Rattle.plist_write.specs.Canonical.{trailer_octets}
use Rattle.plist_write.specs.BufferedSink.{SinkState, sink_state}
use Rattle.plist_write.proofs.File.{length-trailer_octets}
use Rattle.plist_write.proofs.Going.{Emits_out, Emits_put, Emits_then, Emits_last, short_put, short_stop, short_then}
use Rattle.plist_write.proofs.file_end.send_trailer.Goals as goal

pub returns-in_err-make_room-clause-pieces : goal.returns-in_err-make_room-clause-pieces
returns-in_err-make_room-clause-pieces g c =
    let e = err_from_is_err_and c.from_residual.result c.from_residual.ensures.1 in
    let q = sink_state g.W.Sink c.make_room.new.self in
    rw (e.1, e.2) (short_stop [] 0 32 (sink_state g.W.Sink c.args.out.now) q q _ _ (omega arith) refl c.in_err-make_room.ensures.pieces)

pub returns-in_err-grown-clause-emits : goal.returns-in_err-grown-clause-emits
returns-in_err-grown-clause-emits g c =
    let e = err_from_is_err_and c.from_residual-in_err-grown.result c.from_residual-in_err-grown.ensures.1 in
    let octets = trailer_octets c.args.count c.args.offset in
    let q = sink_state g.W.Sink c.make_room.new.self in
    let items = c.put_trailer-put.new.out.items in
    let digits = length-trailer_octets c.args.count c.args.offset in
    rw (e.1, e.2, c.in_err-grown.ensures.refused.1) (Emits_then [] octets (sink_state g.W.Sink c.args.out.now) q (record q { waiting = items }) _ _ c.in_ok-make_room.ensures.emits (Emits_out {T = Unit {0}} octets items q (omega (arith, digits))))

pub returns-in_err-grown-clause-pieces : goal.returns-in_err-grown-clause-pieces
returns-in_err-grown-clause-pieces g c =
    let e = err_from_is_err_and c.from_residual-in_err-grown.result c.from_residual-in_err-grown.ensures.1 in
    let q = sink_state g.W.Sink c.make_room.new.self in
    rw (e.1, e.2) (short_stop [] 0 32 (sink_state g.W.Sink c.args.out.now) q (record q { waiting = c.put_trailer-put.new.out.items }) _ _ (omega arith) refl c.in_ok-make_room.ensures.pieces)

pub returns-clause-emits : goal.returns-clause-emits
returns-clause-emits g c =
    let octets = trailer_octets c.args.count c.args.offset in
    let p = sink_state g.W.Sink c.args.out.now in
    let q = sink_state g.W.Sink c.make_room.new.self in
    let put : SinkState = record q { waiting = c.put_trailer-put.new.out.items } in
    let r = sink_state g.W.Sink c.flush_unchecked.new.self in
    let put_there = rw c.in_ok-grown.ensures.value at c.put_trailer-put.ensures in
    let last = Emits_last octets q put r tt c.flush_unchecked.result (Emits_put octets c.put_trailer-put.new.out.items q put_there) c.flush_unchecked.ensures.emits in
    Emits_then [] octets p q r _ c.flush_unchecked.result c.in_ok-make_room.ensures.emits last

pub returns-clause-pieces : goal.returns-clause-pieces
returns-clause-pieces g c =
    let octets = trailer_octets c.args.count c.args.offset in
    let p = sink_state g.W.Sink c.args.out.now in
    let q = sink_state g.W.Sink c.make_room.new.self in
    let put : SinkState = record q { waiting = c.put_trailer-put.new.out.items } in
    let digits = length-trailer_octets c.args.count c.args.offset in
    let put_there = rw c.in_ok-grown.ensures.value at c.put_trailer-put.ensures in
    let kept = short_put 32 octets c.put_trailer-put.new.out.items p q _ (omega arith) (omega (arith, digits)) put_there c.in_ok-make_room.ensures.pieces in
    short_then [] 0 p put (sink_state g.W.Sink c.flush_unchecked.new.self) tt c.flush_unchecked.result kept c.flush_unchecked.ensures.pieces
