use Rattle.ostep_text.proofs.building.put_table.Goals as goal

pub returns-clause-spells : goal.returns-clause-spells
returns-clause-spells c pairs s =
    c.in_ok-put_table.ensures.spells s.moved pairs (rw (c.deref.ensures.value, c.deref-2.ensures.value) s.same) s.spell
