use Rattle.std.proofs.Common.{replicate, arith}
use Rattle.std.proofs.lemmas.List.{length-replicate}
use Rattle.plist_object.proofs.Counts.{length-table_counted}
use Rattle.plist_object.proofs.puts.begin_table.Goals as goal

pub push_head-requires-clause-room : goal.push_head-requires-clause-room
push_head-requires-clause-room c =
    let n = c.args.count in
    let counted = length-replicate n 0 in
    let size = c.table_length.ensures (replicate n 0) (replicate n 0) counted counted in
    let parts = length-table_counted c.args.width n (replicate n 0) (replicate n 0) counted in
    omega (arith, size, parts, c.in_ok-reserve.ensures.ok)

pub returns-clause-room : goal.returns-clause-room
returns-clause-room c = λ keys values e f.
    let size = c.table_length.ensures keys values e f in
    let parts = length-table_counted c.args.width c.args.count keys values e in
    let pushed = c.push_head.ensures in
    omega (arith, size, parts, pushed.len, pushed.room, c.in_ok-reserve.ensures.ok, c.in_ok-reserve.ensures.len)
