use Rattle.std.proofs.Common.{rules}
use Rattle.plist_keys.proofs.in_order.strings_are_in_order.Goals as goal

pub returns-in-Some-Some : goal.returns-in-Some-Some
returns-in-Some-Some c = search rules
