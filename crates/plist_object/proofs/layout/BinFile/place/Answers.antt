use Rattle.std.proofs.Common.{refl}
use Rattle.std.proofs.lemmas.List.{drop-drop, take_rest}
use Rattle.plist_object.proofs.layout.BinFile.place.Goals as goal

pub returns : goal.returns
returns c =
    let file = c.args.self.now in
    rw (c.number_at.ensures, take_rest, drop-drop, c.from.ensures, file.table_read, file.offset_width_read) refl
