use Rattle.std.proofs.Common.{◌≡◌, ◌+◌, ◌-◌, ◌*◌, ◌/◌, ◌≤◌, drop, length, arith}
use Rattle.std.proofs.lemmas.List.{drop-drop, length-drop}
use Rattle.plist_value.specs.Texts.{units_of}
use Rattle.plist_value.proofs.Hashes.{fed_narrow-eight, fed_narrow-last, seven_and-eight}
use Rattle.plist_value.proofs.text_hash.feed_narrow.Goals as goal

pub loop-i-preserved : goal.loop-i-preserved
loop-i-preserved g c =
    let units = units_of c.args.text.now in
    let i = 8 * c.loop-i.i in
    let long : 8 ≤ length (drop i units) = omega (arith, length-drop i units) in
    let eight = fed_narrow-eight (drop i units) long in
    let same = seven_and-eight (drop i units) long in
    let next : 8 * (c.loop-i.i + 1) ≡ i + 8 = omega arith in
    rw (c.write.ensures, c.seven_and.ensures, c.octet.ensures, same, next) (rw (eight, drop-drop 8 i units) at c.loop-i.invariant)

pub returns : goal.returns
returns g c =
    let units = units_of c.args.text.now in
    let words = c.len-words.result / 8 in
    let done : c.loop-i.i ≡ words = omega (arith, c.loop-i.auto.i-end) in
    let left : length (drop (8 * words) units) ≡ length units - 8 * words = length-drop (8 * words) units in
    let last = fed_narrow-last (drop (8 * words) units) (omega (arith, c.len-words.ensures, left)) in
    rw (c.write-2.ensures, c.seven_and-2.ensures, c.len.ensures) (rw (done, last, left) at c.loop-i.invariant)
