use Rattle.plist_object.specs.Views.{octets_of}
use Rattle.plist_object.proofs.Readable.{Holds-reads}
use Rattle.plist_write.proofs.renumbering.renumbered_object.Goals as goal

pub spelled-requires : goal.spelled-requires
spelled-requires c =
    let read = c.requires.read in
    record { listed = read.holds.listed; reads = Holds-reads (octets_of c.args.file.now) c.args.object read.held read.holds }
