use Rattle.std.proofs.Common.{[], ◌∷◌, refl, arith}
use Rattle.std.proofs.lemmas.Result.{err_from_is_err_and}
use Rattle.plist_write.specs.BufferedSink.{sink_state}
use Rattle.plist_write.proofs.Going.{Emits_then, short_then, short_stop}
use Rattle.plist_write.proofs.buffered_sink.BufferedSink.send_long.Goals as goal

pub returns-in_err-flush_unchecked-clause-pieces : goal.returns-in_err-flush_unchecked-clause-pieces
returns-in_err-flush_unchecked-clause-pieces g c =
    let e = err_from_is_err_and c.from_residual.result c.from_residual.ensures.1 in
    let q = sink_state g.W.Sink c.flush_unchecked.new.self in
    rw (e.1, e.2) (short_stop (c.args.octets.now ∷ []) 0 0 (sink_state g.W.Sink c.args.self.now) q q _ _ (omega arith) refl c.in_err-flush_unchecked.ensures.pieces)

pub returns-clause-emits : goal.returns-clause-emits
returns-clause-emits g c =
    Emits_then [] c.args.octets.now (sink_state g.W.Sink c.args.self.now) (sink_state g.W.Sink c.flush_unchecked.new.self) (sink_state g.W.Sink c.send.new.self) _ c.send.result c.in_ok-flush_unchecked.ensures.emits c.send.ensures.emits

pub returns-clause-pieces : goal.returns-clause-pieces
returns-clause-pieces g c =
    short_then (c.args.octets.now ∷ []) 0 (sink_state g.W.Sink c.args.self.now) (sink_state g.W.Sink c.flush_unchecked.new.self) (sink_state g.W.Sink c.send.new.self) _ c.send.result c.in_ok-flush_unchecked.ensures.pieces c.send.ensures.pieces
