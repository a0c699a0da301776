use Rattle.plist_print.proofs.ValueFronts.{value-front}
use Rattle.plist_print.proofs.laws.print_is_known_by_its_front.Goals as goal

pub returns : goal.returns
returns c = value-front
