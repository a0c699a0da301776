use Rattle.plist_keys.proofs.keys.Keys.of_tables.Goals as goal

pub returns-clause-counted : goal.returns-clause-counted
returns-clause-counted c = (c.loop-i.i, c.loop-i.invariant.counted)
