use Rattle.std.proofs.Common.{arith}
use Rattle.plist_value.proofs.HexDigits.{DIGITS_at}
use Rattle.plist_value.proofs.hexadecimal.digit.Goals as goal

pub returns : goal.returns
returns c = DIGITS_at c.args.value (omega arith)
