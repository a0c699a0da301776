use Rattle.std.proofs.Common.{◌-◌, ◌≤◌, arith, drop, length, take}
use Rattle.plist_value.specs.Texts.{units_of}
use Rattle.plist_keys.proofs.SortedRuns.{shared_all, shared_more}
use Rattle.plist_keys.proofs.prefixes.shared.Goals as goal

pub loop-row-preserved : goal.loop-row-preserved
loop-row-preserved c =
    let rows = c.args.rows.now in
    let fewer : c.alike-count.result ≤ c.loop-row.count = omega (arith, c.min.ensures, c.alike-count.ensures.within) in (
      omega (arith, fewer, c.loop-row.invariant.0),
      shared_more c.args.texts.now (take (length rows - 1) (drop 1 rows)) c.loop-row.row-index c.loop-row.count c.alike-count.result (units_of c.text_at-first.result) (units_of c.text_at-text.result) _ c.loop-row.invariant.1 fewer c.loop-row-test.true c.text_at-text.ensures c.alike-count.ensures.same,
    )

pub returns : goal.returns
returns c =
    let first = units_of c.text_at-first.result in
    (first, shared_all c.args.texts.now c.args.rows.now c.loop-row.count first _ c.text_at-first.ensures (λ k d h. c.loop-row.invariant.1 k d (omega (arith, h))))
