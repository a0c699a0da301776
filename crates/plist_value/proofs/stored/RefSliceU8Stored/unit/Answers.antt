use Rattle.std.proofs.Common.{◌≡◌, ◌+◌, ◌*◌, arith, refl, suc}
use Rattle.plist_value.proofs.WideUnits.{length-wide_units, wide_units-at}
use Rattle.plist_value.proofs.stored.RefSliceU8Stored.unit.Goals as goal

pub prove-unreachable-requires : goal.prove-unreachable-requires
prove-unreachable-requires c = omega (arith, length-wide_units c.args.self.now.now)

pub returns : goal.returns
returns c =
    let behind : 2 * c.args.i + 1 ≡ suc (2 * c.args.i) = omega arith in
    let at = wide_units-at c.args.self.now.now c.args.i (2 * c.args.i) refl c.requires in
    let read = rw behind at c.from_be_bytes.ensures in
    omega (arith, read, at)
