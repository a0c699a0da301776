use Rattle.plist_print.proofs.Plain.{escaped-quoted}
use Rattle.plist_print.proofs.strings.put_escape.Goals as goal

pub returns : goal.returns
returns c = rw (escaped-quoted c.args.unit c.requires) c.put_quoted_unit.ensures
