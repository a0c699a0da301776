use Rattle.std.proofs.Common.{arith}
use Rattle.plist_value.proofs.WideUnits.{AreUnits-wide_units}
use Rattle.plist_value.proofs.text_ref.TextRef.of_wide.Goals as goal

pub returns-then-octets-eq0-clause-valid : goal.returns-then-octets-eq0-clause-valid
returns-then-octets-eq0-clause-valid c =
    AreUnits-wide_units c.args.octets.now (λ i. omega (arith, c.type_inv.octets i))
