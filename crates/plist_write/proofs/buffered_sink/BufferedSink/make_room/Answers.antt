use Rattle.std.proofs.Common.{length, ap, arith}
use Rattle.std.proofs.lemmas.Result.{on_ok_weaker}
use Rattle.plist_write.proofs.buffered_sink.BufferedSink.make_room.Goals as goal

pub returns-clause-pieces : goal.returns-clause-pieces
returns-clause-pieces g c = λ most allows fits before.
    let flushed = c.flush_unchecked.ensures.pieces most allows (omega arith) before in
    record {
      waits = on_ok_weaker c.flush_unchecked.result (λ none. omega (arith, ap length none, fits)) c.flush_unchecked.ensures.none;
      pieces = flushed.pieces;
    }
