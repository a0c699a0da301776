use Rattle.std.proofs.Common.{arith}
use Rattle.plist_object.proofs.Counts.{references-first}
use Rattle.plist_object.proofs.puts.push_short_references.Goals as goal

pub push_number-requires-clause-room : goal.push_number-requires-clause-room
push_number-requires-clause-room c =
    omega (arith, references-first c.args.width c.args.refs.now c.loop-reference.reference-index (omega arith))
