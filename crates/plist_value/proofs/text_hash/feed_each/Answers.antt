use Rattle.std.proofs.Common.{◌≡◌, ◌+◌, ◌*◌, arith}
use Rattle.plist_value.specs.Texts.{units_of}
use Rattle.plist_value.proofs.Hashes.{fed_units-word}
use Rattle.std.proofs.lemmas.Grind.{common_steps}
use Rattle.plist_value.proofs.text_hash.feed_each.Goals as goal

pub loop-i-preserved : goal.loop-i-preserved
loop-i-preserved g c =
    let units = units_of c.args.text.now in
    let four = fed_units-word units (4 * c.loop-i.i) (omega arith) in
    let next : 4 * (c.loop-i.i + 1) ≡ 4 * c.loop-i.i + 4 = omega arith in
    rw (next, c.write_u64.ensures, c.word_at.ensures) (rw four at c.loop-i.invariant)

pub returns-in-0 : goal.returns-in-0
returns-in-0 g c = grind (arith, common_steps)

pub returns-in-1 : goal.returns-in-1
returns-in-1 g c = grind (arith, common_steps)

pub returns-in-2 : goal.returns-in-2
returns-in-2 g c = grind (arith, common_steps)

pub returns-in_default : goal.returns-in_default
returns-in_default g c = grind (arith, common_steps)
