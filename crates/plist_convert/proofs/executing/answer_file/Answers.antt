use Rattle.std.proofs.Common.{inl}
use Rattle.plist_convert.specs.Answer.{AnswersTask}
use Rattle.plist_convert.proofs.Runs.{file_answered}
use Rattle.plist_convert.proofs.executing.answer_file.Goals as goal

pub returns-in-Ok-clause-run : goal.returns-in-Ok-clause-run
returns-in-Ok-clause-run g c =
    let loads = c.in-Ok.ensures.loads in
    file_answered (AnswersTask c.args.task c.args.path.now) _ _ _ _ _ _ loads.found loads.kept loads.unfailed (rw c.as_slice.ensures.value at c.task_answer.ensures) c.print_answer.ensures.ends

pub returns-in-Err-clause-run : goal.returns-in-Err-clause-run
returns-in-Err-clause-run g c =
    let loads = c.in-Err.ensures.loads in
    inl (record { fault = c.in-Err.fault; cause = loads.refused; kept = loads.kept; ends = c.print_refusal.ensures.ends })
