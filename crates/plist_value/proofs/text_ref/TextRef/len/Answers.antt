use Rattle.std.proofs.Common.{rules}
use Rattle.plist_value.proofs.WideUnits.{length-wide_units}
use Rattle.plist_value.proofs.text_ref.TextRef.len.Goals as goal

pub returns-in-Wide : goal.returns-in-Wide
returns-in-Wide c = search (rules, length-wide_units)
