use Rattle.std.proofs.Common.{arith}
use Rattle.plist_value.proofs.Hashes.{fed_narrow-eight, fed_narrow-last}
use Rattle.plist_value.proofs.NarrowUnits.{octets-narrow}
use Rattle.plist_value.proofs.words.feed_octets.Goals as goal

pub loop-rest-preserved : goal.loop-rest-preserved
loop-rest-preserved g c =
    let eight = fed_narrow-eight c.loop-rest.rest.now (omega arith) in
    rw (c.write.ensures, c.split_at.ensures.front, c.split_at.ensures.back) (rw eight at c.loop-rest.invariant)

pub returns : goal.returns
returns g c =
    let narrow = octets-narrow c.args.octets.now (λ i. omega (arith, c.type_inv.octets i)) in
    let last = fed_narrow-last c.loop-rest.rest.now (omega arith) in
    rw (narrow, c.write-2.ensures, c.seven_and.ensures) (rw last at c.loop-rest.invariant)
