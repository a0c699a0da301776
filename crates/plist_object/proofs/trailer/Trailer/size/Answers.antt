use Rattle.std.proofs.Common.{sym}
use Rattle.plist_object.proofs.trailer.Trailer.size.Goals as goal

pub returns : goal.returns
returns c =
    let entries = rw c.from.ensures at c.in_ok-entries.ensures.1 in
    rw (sym entries, sym c.in_ok-checked_add.ensures.1) c.checked_add-2.ensures
