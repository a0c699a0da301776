use Rattle.std.proofs.Common.{◌-◌, ◌/◌, ◌<◌, ◌≤◌, suc, refl, sym, ◌∙◌, arith, inl, inr}
use Rattle.std.proofs.lemmas.Nat.{one_shl}
use Rattle.std.proofs.Math.Nat.{pow-le-pow_right}
use Rattle.plist_print.specs.Reals.{decimal_of}
use Rattle.plist_print.proofs.Deciding.{decimal-zero, decimal-high, decimal-low, decimal-near}
use Rattle.plist_print.proofs.reals.decimal_of.Goals as goal

pub returns-then-bits-eq0 : goal.returns-then-bits-eq0
returns-then-bits-eq0 c = rw c.if-bits-eq0.true (sym (decimal-zero c.args.format c.requires))

pub returns-then-exponent-format : goal.returns-then-exponent-format
returns-then-exponent-format c = elim c.then-exponent-format.either [
  | inl low ↦ sym (decimal-low c.args.format c.args.bits c.requires (omega (arith, c.if-bits-eq0.false)) low (decimal_of c.args.format c.args.bits) refl)
  | inr high ↦ sym (decimal-high c.args.format c.args.bits high.1)
]

pub shortest-requires-clause-unit : goal.shortest-requires-clause-unit
shortest-requires-clause-unit c =
    let shift = c.args.format.to - 1 - c.args.bits / c.args.format.hidden in
    let most : shift ≤ 126 = omega arith in
    omega (arith, one_shl shift 128 (omega arith), pow-le-pow_right {n = 2} (omega arith) most)

pub returns : goal.returns
returns c =
    let f = c.args.format in
    let exponent = c.args.bits / f.hidden in
    let shift = f.to - 1 - exponent in
    let unit = one_shl shift 128 (omega arith) in
    let high : suc (suc (exponent - 2)) < f.to = omega arith in
    (rw unit at c.shortest.ensures) ∙ sym (decimal-near f c.args.bits (exponent - 2) shift _ _ c.requires.least (omega arith) high (omega arith) (omega arith) (omega arith))
