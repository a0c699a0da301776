use Rattle.std.proofs.Common.{◌≡◌, true, ◌∙◌}
use Rattle.ostep_lex.specs.Character.{is_white}
use Rattle.ostep_lex.specs.Stands.{none}
use Rattle.ostep_lex.proofs.LexerSteps.{white_more}
use Rattle.ostep_lex.proofs.opening.after_white.Goals as goal

pub loop-c-preserved : goal.loop-c-preserved
loop-c-preserved c =
    let w : is_white c.in-Some.c ≡ true = cc in
    (λ end r. c.loop-c.invariant.0 end (white_more c.in-Some.ensures.0 w r), c.in-Some.ensures.1 ∙ c.loop-c.invariant.1)

pub returns-then-not-is_white-clause-white : goal.returns-then-not-is_white-clause-white
returns-then-not-is_white-clause-white c = c.loop-c.invariant.0 _ none

pub returns-in_default-clause-white : goal.returns-in_default-clause-white
returns-in_default-clause-white c = c.loop-c.invariant.0 _ none
