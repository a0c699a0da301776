use Rattle.std.proofs.Common.{arith}
use Rattle.std.proofs.lemmas.Grind.{common_steps}
use Rattle.ostep_lex.proofs.opening.text_of.Goals as goal

pub returns-then-starts_with-2-clause-ok : goal.returns-then-starts_with-2-clause-ok
returns-then-starts_with-2-clause-ok c = grind (arith, common_steps)

pub returns-then-starts_with-2-clause-err : goal.returns-then-starts_with-2-clause-err
returns-then-starts_with-2-clause-err c = grind (arith, common_steps)

pub returns-then-starts_with-3-clause-ok : goal.returns-then-starts_with-3-clause-ok
returns-then-starts_with-3-clause-ok c = grind (arith, common_steps)

pub returns-then-starts_with-3-clause-err : goal.returns-then-starts_with-3-clause-err
returns-then-starts_with-3-clause-err c = grind (arith, common_steps)
