use Rattle.std.proofs.Common.{arith}
use Rattle.plist_object.proofs.Counts.{length-table}
use Rattle.plist_object.proofs.lengths.table_length.Goals as goal

pub returns : goal.returns
returns c = λ keys values long_keys long_values.
    rw (length-table c.args.width keys values, long_keys, long_values, c.head_length.ensures.size, c.from.ensures) (omega arith)
