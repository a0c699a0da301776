use Rattle.std.proofs.Common.{◌≡◌, rules, refl, arith}
use Rattle.std.proofs.lemmas.Grind.{common_steps}
use Rattle.plist_object.proofs.Listed.{length-numbers}
use Rattle.plist_object.proofs.refs.Refs.is_same.Goals as goal

pub returns-then-eq : goal.returns-then-eq
returns-then-eq c =
    let refs = c.args.self.now in
    let others = c.args.other.now in
    let same_width : refs.width ≡ others.width = search rules in
    let same_octets : refs.octets.now ≡ others.octets.now = search rules in
    let as_many : c.len.result ≡ c.len-2.result = search rules in
    let same_count : refs.count ≡ others.count = omega (arith, as_many, c.len.ensures, c.len-2.ensures, length-numbers refs.width refs.count refs.octets.now, length-numbers others.width others.count others.octets.now) in
    (λ yes. rw (same_width, same_count, same_octets) refl, λ same. search rules)

pub loop-i-preserved : goal.loop-i-preserved
loop-i-preserved c = grind (arith, common_steps)
