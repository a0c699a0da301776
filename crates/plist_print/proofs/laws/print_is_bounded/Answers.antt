use Rattle.plist_print.proofs.Bounds.{print-long}
use Rattle.plist_print.proofs.laws.print_is_bounded.Goals as goal

pub returns : goal.returns
returns c = print-long
