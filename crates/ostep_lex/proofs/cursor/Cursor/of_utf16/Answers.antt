use Rattle.std.proofs.Common.{◌≡◌, length, arith}
use Rattle.std.proofs.lemmas.Bool.Decides.{nat_tests}
use Rattle.ostep_lex.proofs.TextLemmas.{whole_utf16}
use Rattle.ostep_lex.proofs.cursor.Cursor.of_utf16.Goals as goal

pub invariant_of-result-clause-whole : goal.invariant_of-result-clause-whole
invariant_of-result-clause-whole c =
    let empty : length c.after_characters-rest.result.now ≡ 0 = grind (arith, nat_tests) in
    whole_utf16 c.args.order c.args.octets c.after_characters-rest.result.now c.after_characters-rest.ensures.fronts empty
