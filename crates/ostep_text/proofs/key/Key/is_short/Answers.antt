use Rattle.std.proofs.Common.{◌≡◌, ◌≤◌, true, length, ap, arith}
use Rattle.std.proofs.lemmas.Bool.Decides.{nat_tests}
use Rattle.ostep_text.specs.Key.{is_short_key}
use Rattle.ostep_text.proofs.KeySteps.{few_short}
use Rattle.ostep_text.proofs.key.Key.is_short.Goals as goal

pub returns-then-len-le-MOST_WIDE : goal.returns-then-len-le-MOST_WIDE
returns-then-len-le-MOST_WIDE c =
    let few : length c.args.self.now ≤ 7 = omega (arith, c.len.ensures, ap length c.text-text.ensures.text) in
    let short : is_short_key c.args.self.now ≡ true = few_short c.args.self.now few c.text-text.ensures.valid in
    rw short (grind (arith, nat_tests))
