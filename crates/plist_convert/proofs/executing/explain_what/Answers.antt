use Rattle.std.proofs.Common.{option_map}
use Rattle.plist_convert.specs.Answer.{explained_said}
use Rattle.plist_convert.specs.Runs.{IsExplainRun}
use Rattle.plist_convert.specs.State.{state}
use Rattle.plist_convert.proofs.Runs.{answer_ends}
use Rattle.plist_convert.proofs.executing.explain_what.Goals as goal

pub returns-clause-run : goal.returns-clause-run
unfolding IsExplainRun
returns-clause-run g c = λ disk files.
    answer_ends (explained_said (option_map (λ word. word.now) c.args.what)) (state files disk _ _) (state files disk _ _) c.print_answer.result c.explain_answer.result
    c.explain_answer.ensures c.print_answer.ensures.ends
