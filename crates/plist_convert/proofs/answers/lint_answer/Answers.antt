use Rattle.std.proofs.Common.{inr}
use Rattle.std.proofs.lemmas.Result.{IfOk-weaker}
use Rattle.plist_convert.specs.Answer.{IsLintAnswer, said_of}
use Rattle.plist_convert.specs.declared.answers.Answer.{Answer}
use Rattle.plist_convert.proofs.answers.lint_answer.Goals as goal

pub returns-in-Err : goal.returns-in-Err
returns-in-Err c =
    IfOk-weaker c.refused.result _ (λ (a : Answer). IsLintAnswer c.args.path.now c.args.octets.now (said_of a))
    (λ a says. inr (record { fault = _; cause = c.in-Err.ensures.refused; says = says })) c.refused.ensures
