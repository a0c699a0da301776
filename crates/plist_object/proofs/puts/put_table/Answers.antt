use Rattle.std.proofs.Common.{refl, sym, arith}
use Rattle.plist_object.proofs.puts.put_table.Goals as goal

pub push_references-requires-clause-room : goal.push_references-requires-clause-room
push_references-requires-clause-room c =
    omega (arith, c.in_ok-begin_table.ensures.room c.args.keys.now c.args.values.now refl (sym c.requires.pairs))

pub push_references-requires-2-clause-room : goal.push_references-requires-2-clause-room
push_references-requires-2-clause-room c =
    omega (arith, c.in_ok-begin_table.ensures.room c.args.keys.now c.args.values.now refl (sym c.requires.pairs))
