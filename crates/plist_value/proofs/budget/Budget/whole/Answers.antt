use Rattle.std.proofs.Common.{refl}
use Rattle.plist_value.proofs.budget.Budget.whole.Goals as goal

pub returns-clause-nodes : goal.returns-clause-nodes
returns-clause-nodes c = refl
