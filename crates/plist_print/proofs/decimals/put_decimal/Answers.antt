use Rattle.std.proofs.Common.{arith}
use Rattle.plist_print.proofs.Deciding.{small-power, some-power}
use Rattle.plist_print.proofs.decimals.put_decimal.Goals as goal

pub pow-requires : goal.pow-requires
pow-requires c = omega (arith, small-power c.args.decimal.digits c.args.decimal.few)

pub nonzero_div-decimal : goal.nonzero_div-decimal
nonzero_div-decimal c = omega (arith, c.pow.ensures, some-power c.args.decimal.digits)
