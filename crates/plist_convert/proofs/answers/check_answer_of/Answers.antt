use Rattle.std.proofs.Common.{ap, codes, inl, rules, ◌≡◌, ◌++◌, ◌∙◌, string_bytes}
use Rattle.std.proofs.lemmas.Result.{IfOk-weaker}
use Rattle.plist_convert.specs.Answer.{IsCheckAnswerOf, said_of}
use Rattle.plist_convert.specs.Verdicts.{verdict_line_of}
use Rattle.plist_convert.specs.declared.answers.Answer.{Answer}
use Rattle.plist_convert.proofs.answers.check_answer_of.Goals as goal

pub returns-in_ok-line-in-Ok : goal.returns-in_ok-line-in-Ok
returns-in_ok-line-in-Ok g c =
    let judged = c.in-Ok.ensures in
    let line : string_bytes c.in_ok-line-in-Ok.line ≡ verdict_line_of c.args.named c.args.path.now c.in-Ok.verdict = search rules in
    IfOk-weaker c.with_line_end.result _ (λ (a : Answer). IsCheckAnswerOf c.args.named c.args.path.now c.args.octets.now (said_of a))
    (λ a says. inl (record {
      verdict = c.in-Ok.verdict;
      laid = judged.laid;
      stands = judged.verdict;
      canonical = judged.canonical;
      says = (says.0 ∙ ap (λ l. l ++ codes "\n") line, says.1 ∙ c.verdict_status.ensures);
    })) c.with_line_end.ensures
