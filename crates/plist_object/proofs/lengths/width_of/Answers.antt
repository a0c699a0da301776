use Rattle.std.proofs.Common.{rules}
use Rattle.plist_object.proofs.lengths.width_of.Goals as goal

pub returns-then-n-clause-value : goal.returns-then-n-clause-value
returns-then-n-clause-value c = search rules

pub returns-then-n-clause-holds : goal.returns-then-n-clause-holds
returns-then-n-clause-holds c = c.if-n.true
