use Rattle.std.proofs.Common.{rules}
use Rattle.std.specs.Prelude.{option_map}
use Rattle.std.proofs.lemmas.Result.{err_from_is_err_and}
use Rattle.plist_convert.proofs.Limits.{is_full}
use Rattle.plist_convert.proofs.Stored.{closed, emptied_same, ending_with, settled, unchanged, unclosed, unsettled}
use Rattle.plist_convert.specs.Opens.{written_of}
use Rattle.plist_convert.proofs.file_disk.write_target.Goals as goal

pub returns-in_err-close-clause-stores : goal.returns-in_err-close-clause-stores
returns-in_err-close-clause-stores g c = λ before after counts.
    let file = c.convert_octets-sent.new.to in
    let sends = rw (c.new-file.ensures.created, c.new-file.ensures.failures) at c.convert_octets-sent.ensures.writes in
    let kept = c.in_err-close.ensures.unchanged in
    let e = err_from_is_err_and c.from_residual.result c.from_residual.ensures.1 in
    rw (c.requires.files, c.requires.path, e.1, e.2) (ending_with c.args.target.form c.args.octets.items _ _ _ before after _ _ (search rules)
    (unclosed c.args.target.form c.args.octets.items _ _ _ before after _ file.failures _ (emptied_same _ _ _ _ file.emptied kept)
    (unchanged g.O.Writer.Write.contents _ _ _ file.created file.failures file.begun file.same (λ _. kept)) sends (rw (e.1, e.2) at counts)))

pub returns-clause-stores : goal.returns-clause-stores
returns-clause-stores g c = λ before after counts.
    let file = c.convert_octets-sent.new.to in
    let writes = g.O.Writer.Write.contents in
    let sends = rw (c.new-file.ensures.created, c.new-file.ensures.failures) at c.convert_octets-sent.ensures.writes in
    let close = c.in_ok-close.ensures in
    rw (c.requires.files, c.requires.path, c.told.ensures) (ending_with c.args.target.form c.args.octets.items _ _ _ before after _ _ (search rules)
    (closed c.args.target.form c.args.octets.items _ _ _ before after _ file.failures c.convert_octets-sent.result file.needs_memory
    (settled writes _ _ _ _ file.created file.placed file.begun file.emptied close.settles)
    (unchanged writes _ _ _ file.created file.failures file.begun file.same (unsettled writes _ _ file.created close.settles))
    sends (rw c.told.ensures at counts)))

pub returns-clause-full : goal.returns-clause-full
returns-clause-full g c =
    let file = c.convert_octets-sent.new.to in
    let sends = rw (c.new-file.ensures.created, c.new-file.ensures.failures) at c.convert_octets-sent.ensures.writes in
    rw (c.requires.files, c.requires.limit, c.told.ensures) (is_full c.args.target.form c.args.octets.items _ file.failures _
    (option_map (written_of g.O.Writer.Write.contents) file.created) c.convert_octets-sent.result file.needs_memory
    file.within file.full sends)
