use Rattle.std.proofs.Common.{refl, sym, arith}
use Rattle.std.proofs.KnownBytes.{Appends-nil}
use Rattle.std.proofs.lemmas.Result.{err_from_is_err_and}
use Rattle.plist_object.specs.Views.{octets_of}
use Rattle.plist_write.proofs.Finding.{are-objects, can-send, is-canon}
use Rattle.plist_write.proofs.FileSteps.{canon-some}
use Rattle.plist_write.proofs.sending.write_canonical_of.Goals as goal

pub returns-in_err-objects-clause-written : goal.returns-in_err-objects-clause-written
returns-in_err-objects-clause-written g c = λ v binary.
    let e = err_from_is_err_and c.from_residual.result c.from_residual.ensures.1 in
    rw (e.1, e.2) (record { count = tt; whole = tt; within = omega (arith, canon-some v); front = (Appends-nil (g.W.Sink.taken c.args.out.now), refl) })

pub send_file-requires : goal.send_file-requires
send_file-requires g c = record {
  can = can-send (octets_of c.args.judged.file) c.requires.binary.0 c.requires.binary.1 c.in_ok-objects.objects (c.in_ok-objects.ensures c.requires.binary.0 c.requires.binary.1);
}

pub returns-clause-written : goal.returns-clause-written
returns-clause-written g c = λ v binary.
    let same = is-canon (octets_of c.args.judged.file) v binary c.in_ok-objects.objects (c.in_ok-objects.ensures v binary) in
    rw (sym same) c.send_file.ensures.written

pub returns-in_err-objects-clause-pieces : goal.returns-in_err-objects-clause-pieces
returns-in_err-objects-clause-pieces g c = λ v binary most allows before. before

pub returns-clause-pieces : goal.returns-clause-pieces
returns-clause-pieces g c = λ v binary.
    let e = are-objects (octets_of c.args.judged.file) v binary c.in_ok-objects.objects (c.in_ok-objects.ensures v binary) in
    rw (sym e) c.send_file.ensures.pieces
