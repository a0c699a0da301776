use Rattle.plist_convert.proofs.Opened.{unfound}
use Rattle.plist_convert.proofs.file_disk.octets_at.Goals as goal

pub returns-in-Ok-clause-refused : goal.returns-in-Ok-clause-refused
returns-in-Ok-clause-refused g c =
    unfound (g.O.Opens.files c.args.opener.now) c.args.path.now g.O.Reader.Source.failures c.in-Ok.reader c.load_unless.new.from _ _ c.load_unless.result
    c.in-Ok.ensures.all c.in-Ok.ensures.unfailed c.load_unless.ensures.loads c.load_unless.ensures.faults
