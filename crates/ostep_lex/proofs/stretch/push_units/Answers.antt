use Rattle.std.proofs.Common.{◌≡◌, ◌++◌, ◌∷◌, [], length, ap, sym, arith, ◌∙◌, append_assoc}
use Rattle.ostep_lex.specs.Remaining.{units_in}
use Rattle.ostep_lex.proofs.TextLemmas.{units_in-first, units_in-few}
use Rattle.ostep_lex.proofs.stretch.push_units.Goals as goal

pub loop-unit-init : goal.loop-unit-init
loop-unit-init c = record {
  items = ap (λ us. us ++ units_in c.args.order c.args.octets.now) c.reserve.ensures.items;
  room = omega (arith, units_in-few c.args.order c.args.octets.now, c.in_ok-reserve.ensures.ok);
}

pub loop-unit-preserved : goal.loop-unit-preserved
loop-unit-preserved c =
    let us = units_in c.args.order c.in-Some.after.now in
    let first : units_in c.args.order c.loop-unit.rest.now ≡ c.in-Some.unit ∷ us = units_in-first c.args.order _ _ c.in-Some.unit c.in-Some.ensures in
    record {
      items = ap (λ w. w ++ us) c.push_reserved.ensures.items ∙ append_assoc c.loop-unit.units.items (c.in-Some.unit ∷ []) us
          ∙ ap (λ w. c.loop-unit.units.items ++ w) (sym first) ∙ c.loop-unit.invariant.items;
      room = omega (arith, ap length first, c.loop-unit.invariant.room, c.push_reserved.ensures.len, c.push_reserved.ensures.capacity);
    }
