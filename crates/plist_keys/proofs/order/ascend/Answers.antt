use Rattle.std.proofs.Common.{◌-◌, map, refl, arith}
use Rattle.std.proofs.lemmas.List.{get_or_default, length-map}
use Rattle.plist_keys.specs.KeyOrder.{row_units}
use Rattle.plist_keys.proofs.Ascents.{ascend_next, not_ascending, sorted_from_ascent}
use Rattle.plist_keys.proofs.order.ascend.Goals as goal

pub returns-then-not-is_below : goal.returns-then-not-is_below
returns-then-not-is_below c =
    let rows = c.args.rows.now in
    let i = c.loop-i.i in
    (λ wrong. absurd (cc), λ sorted. absurd (not_ascending (row_units c.args.texts.now) rows i _ _ c.is_below.result (omega arith) (omega arith) (get_or_default rows (i - 1) _ _ (omega arith)) (get_or_default rows i _ _ (omega arith)) c.is_below.ensures c.if-not-is_below.true sorted))

pub loop-i-preserved : goal.loop-i-preserved
loop-i-preserved c =
    ascend_next (row_units c.args.texts.now) c.args.rows.now c.loop-i.i _ _ (omega arith) (omega arith) (c.is_below.ensures.0 c.if-not-is_below.false) c.loop-i.invariant

pub returns : goal.returns
returns c =
    let strings = row_units c.args.texts.now in
    (λ _. sorted_from_ascent (map strings c.args.rows.now) (λ k h. c.loop-i.invariant k (omega (arith, length-map c.args.rows.now strings))), λ _. refl)

pub is_below-requires : goal.is_below-requires
is_below-requires c = c.requires (c.loop-i.i - 1) _ (omega arith) c.loop-i.i _ (omega arith)
