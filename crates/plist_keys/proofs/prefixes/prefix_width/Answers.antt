use Rattle.std.proofs.Common.{List, ℕ, drop, subst, sym, refl, arith}
use Rattle.plist_value.specs.Texts.{units_of}
use Rattle.plist_keys.specs.Prefixes.{IsNarrow}
use Rattle.plist_keys.proofs.KeysInTurn.{refuted}
use Rattle.plist_keys.proofs.Widths.{narrow_more}
use Rattle.plist_keys.proofs.prefixes.prefix_width.Goals as goal

pub returns-then-not-is_narrow : goal.returns-then-not-is_narrow
returns-then-not-is_narrow c =
    let narrow = λ (units : List ℕ). IsNarrow (drop c.args.front units) in
    (λ wrong. absurd cc, λ each. absurd (refuted (narrow (units_of c.text_at.result)) c.is_narrow.result c.is_narrow.ensures c.if-not-is_narrow.true (subst narrow (sym c.text_at.ensures) (each c.loop-row.row-index _ (omega arith)))))

pub loop-row-preserved : goal.loop-row-preserved
loop-row-preserved c =
    narrow_more c.args.texts.now c.args.rows.now c.args.front c.loop-row.row-index _ (omega arith) c.loop-row.invariant (subst (λ (units : List ℕ). IsNarrow (drop c.args.front units)) c.text_at.ensures (c.is_narrow.ensures.0 c.if-not-is_narrow.false))

pub returns : goal.returns
returns c = (λ _ k d h. c.loop-row.invariant k d (omega (arith, h)), λ _. refl)
