use Rattle.std.proofs.Common.{replicate, arith}
use Rattle.std.proofs.lemmas.List.{length-replicate}
use Rattle.plist_object.proofs.Counts.{length-list_parts}
use Rattle.plist_object.proofs.puts.begin_list.Goals as goal

pub push_head-requires-clause-room : goal.push_head-requires-clause-room
push_head-requires-clause-room c =
    let n = c.args.count in
    let size = c.list_length.ensures (replicate n 0) (length-replicate n 0) in
    let parts = length-list_parts c.args.width n (replicate n 0) (length-replicate n 0) in
    omega (arith, size, parts, c.in_ok-reserve.ensures.ok)

pub returns-clause-room : goal.returns-clause-room
returns-clause-room c = λ refs e.
    let size = c.list_length.ensures refs e in
    let parts = length-list_parts c.args.width c.args.count refs e in
    let pushed = c.push_head.ensures in
    omega (arith, size, parts, pushed.len, pushed.room, c.in_ok-reserve.ensures.ok, c.in_ok-reserve.ensures.len)
