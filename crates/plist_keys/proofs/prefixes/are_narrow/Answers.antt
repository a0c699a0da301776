use Rattle.std.proofs.Common.{refl, arith}
use Rattle.plist_value.specs.Texts.{units_of}
use Rattle.plist_keys.proofs.Widths.{narrow_part, wide_part}
use Rattle.plist_keys.proofs.prefixes.are_narrow.Goals as goal

pub returns-then-unit-ge256 : goal.returns-then-unit-ge256
returns-then-unit-ge256 c =
    let first = c.min-start.ensures in
    let most = c.min.ensures in
    let long = c.len.ensures in
    let rest = c.len-2.ensures in
    (λ wrong. absurd cc, λ narrow. absurd (wide_part (units_of c.args.text.now) c.args.front c.loop-i.i (omega (arith, first, most, long, rest)) (omega (arith, first, most, long, rest)) (omega (arith, first, most, long, rest)) (omega (arith, c.unit.ensures)) narrow))

pub returns : goal.returns
returns c =
    let first = c.min-start.ensures in
    let most = c.min.ensures in
    let long = c.len.ensures in
    let rest = c.len-2.ensures in
    (λ _. narrow_part (units_of c.args.text.now) c.args.front (λ k low high within. c.loop-i.invariant k (omega (arith, first, long, low)) (omega (arith, first, most, long, rest, low, high, within))), λ _. refl)
