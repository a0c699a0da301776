use Rattle.plist_value.proofs.budget.Budget.take_payload.Goals as goal

pub returns-then-payload-from-clause-over : goal.returns-then-payload-from-clause-over
returns-then-payload-from-clause-over c = rw c.from.ensures at c.if-payload-from.true
