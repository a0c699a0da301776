use Rattle.std.proofs.Common.{arith}
use Rattle.plist_keys.proofs.Widths.{narrow_part}
use Rattle.plist_keys.proofs.prefixes.bytes_are_narrow.Goals as goal

pub returns : goal.returns
returns c = narrow_part c.args.octets.now c.args.front (λ k low high within. omega (arith, c.type_inv.octets k))
