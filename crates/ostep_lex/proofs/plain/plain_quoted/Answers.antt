use Rattle.std.proofs.Common.{◌≡◌, ◌==◌, true, arith}
use Rattle.std.proofs.lemmas.Bool.Decides.{nat_tests}
use Rattle.ostep_lex.proofs.LexerSteps.{plain_quoted}
use Rattle.ostep_lex.proofs.plain.plain_quoted.Goals as goal

pub returns : goal.returns
returns c =
    let same : (c.args.mark == c.args.mark) ≡ true = grind (arith, nat_tests) in
    plain_quoted c.in_ok-octets.ensures c.in_ok-end.ensures.0 c.in_ok-end.ensures.1 same
