use Rattle.plist_object.specs.Views.{octets_of}
use Rattle.plist_object.proofs.Copies.{spelled-at}
use Rattle.plist_object.proofs.layout.BinFile.spelled.Goals as goal

pub returns : goal.returns
returns c =
    spelled-at (octets_of c.args.self.now) c.args.n c.in_ok-size.size c.in-Ok.octets.now c.in-Ok.ensures c.requires.reads c.in_ok-size.ensures
