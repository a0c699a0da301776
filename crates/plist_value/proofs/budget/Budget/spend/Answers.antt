use Rattle.std.proofs.Common.{rules}
use Rattle.plist_value.proofs.budget.Budget.spend.Goals as goal

pub returns-clause-left : goal.returns-clause-left
returns-clause-left c = search rules
