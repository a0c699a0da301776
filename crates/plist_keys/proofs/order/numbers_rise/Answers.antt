use Rattle.std.proofs.Common.{◌-◌, ◌<◌, arith}
use Rattle.std.proofs.lemmas.List.{get_or_default}
use Rattle.std.proofs.lemmas.List.Sorted.{all_adjacent_more}
use Rattle.plist_keys.specs.declared.order.Row.{Row}
use Rattle.plist_keys.specs.KeyOrder.{sort_key}
use Rattle.plist_keys.proofs.order.numbers_rise.Goals as goal

pub loop-i-preserved : goal.loop-i-preserved
loop-i-preserved c =
    let rows = c.args.rows.now in
    let i = c.loop-i.i in
    let none : Row = record { prefix = 0; run = 0; index = 0 } in
    let below = rw (c.number.ensures, c.number-in-loop-i.ensures) at c.if-number.false in
    all_adjacent_more rows (λ (row next : Row). sort_key row < sort_key next) i (omega arith) c.loop-i.invariant (λ d. rw (get_or_default rows (i - 1) d none (omega arith), get_or_default rows i d none (omega arith)) below)

pub returns : goal.returns
returns c = λ _ k d h. c.loop-i.invariant k d (omega arith)
