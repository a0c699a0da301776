use Rattle.std.proofs.Common.{◌≡◌, None, rules, refl, arith}
use Rattle.plist_value.specs.Scalars.{content_of}
use Rattle.plist_write.specs.ScalarNumbers.{number_listed, IsLong, HasListRoom}
use Rattle.plist_write.proofs.Storing.{enters-pushed}
use Rattle.plist_write.proofs.scalar_numbers.ScalarNumbers.enter.Goals as goal

pub returns-clause-entered : goal.returns-clause-entered
returns-clause-entered g c = λ numbered.
    let known = c.args.self.now in
    let long : IsLong c.args.scalar = search rules in
    let room : HasListRoom known = omega (arith, c.len.ensures) in
    let missed : number_listed known.listed.items (content_of c.args.scalar) ≡ None = search rules in
    enters-pushed c.args.scalar c.args.next known _ numbered long missed room refl c.in_ok-push.ensures.items
