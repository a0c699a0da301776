use Rattle.std.proofs.Common.{refl, rules, arith}
use Rattle.std.proofs.lemmas.Result.{err_from_is_err_and}
use Rattle.plist_write.proofs.Going.{is_written, is_refused}
use Rattle.plist_write.specs.Notation.{document_in}
use Rattle.plist_write.proofs.notation_writer.write_in_notation.Goals as goal

pub returns-in_err-write_whole-clause-written : goal.returns-in_err-write_whole-clause-written
returns-in_err-write_whole-clause-written g c = λ v binary.
    let e = err_from_is_err_and c.from_residual.result c.from_residual.ensures.1 in
    let refused = is_refused (document_in g.N.Notation.parts v) _ _ _ c.new-waiting.ensures.items refl (c.in_err-write_whole.ensures.emits v binary) in
    rw (e.1, e.2) (first_of (search (rules, refused), grind (arith, refused)))

pub returns-in_err-write_whole-clause-same : goal.returns-in_err-write_whole-clause-same
returns-in_err-write_whole-clause-same g c =
    let stays = (c.in_err-write_whole.ensures.emits c.requires.binary.0 c.requires.binary.1).stays.device in
    first_of (search (rules, stays), grind (arith, stays))

pub returns-clause-written : goal.returns-clause-written
returns-clause-written g c = λ v binary.
    let whole = is_written (document_in g.N.Notation.parts v) _ _ _ c.new-waiting.ensures.items refl c.in_ok-write_whole.ensures.none (c.in_ok-write_whole.ensures.emits v binary) in
    first_of (search (rules, whole), grind (arith, whole))

pub returns-clause-same : goal.returns-clause-same
returns-clause-same g c =
    let stays = (c.in_ok-write_whole.ensures.emits c.requires.binary.0 c.requires.binary.1).stays.device in
    first_of (search (rules, stays), grind (arith, stays))
