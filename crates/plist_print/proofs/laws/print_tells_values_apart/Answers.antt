use Rattle.std.proofs.Common.{[], ◌++◌, ap}
use Rattle.plist_print.specs.Printed.{printed}
use Rattle.plist_print.proofs.ValueFronts.{value-front}
use Rattle.plist_print.proofs.laws.print_tells_values_apart.Goals as goal

pub returns : goal.returns
returns c = λ v w h k. (λ same. (value-front 0 v w [] [] h k (ap (λ t. t ++ []) same)).0, ap printed)
