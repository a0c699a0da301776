use Rattle.std.proofs.Common.{refl, rules, arith}
use Rattle.std.proofs.KnownBytes.{Appends-nil}
use Rattle.std.proofs.lemmas.Result.{err_from_is_err_and}
use Rattle.plist_write.proofs.sending.send_file.Goals as goal

pub returns-in_err-waiting-clause-written : goal.returns-in_err-waiting-clause-written
returns-in_err-waiting-clause-written g c =
    let e = err_from_is_err_and c.from_residual.result c.from_residual.ensures.1 in
    rw (e.1, e.2) (record { count = tt; whole = tt; within = omega arith; front = (Appends-nil (g.W.Sink.taken c.args.sink.now), refl) })

pub returns-clause-pieces : goal.returns-clause-pieces
returns-clause-pieces g c = λ most allows before.
    let kept = c.send_planned.ensures.pieces most allows before in
    first_of (search (rules, kept), grind (arith, kept))
