use Rattle.std.proofs.Common.{◌≡◌, ◌&&◌, nat_lt, true}
use Rattle.ostep_lex.specs.Stretch.{belongs}
use Rattle.ostep_lex.proofs.StretchLemmas.{units_none, units_more}
use Rattle.ostep_lex.proofs.stretch.after_units.Goals as goal

pub loop-unit-init : goal.loop-unit-init
loop-unit-init c = units_none _ _ _

pub loop-unit-preserved : goal.loop-unit-preserved
loop-unit-preserved c =
    let belonging : (nat_lt c.in-Some.unit 0xD800 && belongs c.args.class c.in-Some.unit) ≡ true = cc in
    units_more c.in-Some.unit c.loop-unit.invariant c.in-Some.ensures belonging
