use Rattle.std.proofs.Common.{arith}
use Rattle.plist_object.proofs.Counts.{length-list}
use Rattle.plist_object.proofs.lengths.list_length.Goals as goal

pub returns : goal.returns
returns c = λ refs long.
    let count = c.args.count in
    let head = c.head_length.ensures.size in
    let width = c.from.ensures in
    rw (length-list c.args.width refs, long, head, width) (omega arith)
