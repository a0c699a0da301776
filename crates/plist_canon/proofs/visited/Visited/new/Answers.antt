use Rattle.std.proofs.Common.{refl}
use Rattle.plist_object.specs.Views.{octets_of}
use Rattle.plist_write.proofs.Added.{added-nothing}
use Rattle.plist_canon.proofs.visited.Visited.new.Goals as goal

pub returns : goal.returns
returns g c =
    let f = octets_of c.args.file.now in
    record {
      added = added-nothing f c.new.result c.new.ensures;
      walked = c.in_ok-new.ensures f;
      ends = refl;
    }
