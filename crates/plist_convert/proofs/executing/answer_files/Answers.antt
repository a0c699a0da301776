use Rattle.std.proofs.Common.{rules}
use Rattle.plist_convert.specs.Answer.{AnswersTask}
use Rattle.plist_convert.proofs.Each.{cut_off, ends, goes_on}
use Rattle.plist_convert.proofs.executing.answer_files.Goals as goal

pub returns-then-have_failed-clause-run : goal.returns-then-have_failed-clause-run
returns-then-have_failed-clause-run g c =
    rw c.code.ensures.code (cut_off (AnswersTask c.args.task) c.args.paths.now _ _ _ _ _ _ _ (search rules)
    c.loop-path.invariant.each c.answer_file.ensures.run (search rules))

pub loop-path-preserved : goal.loop-path-preserved
loop-path-preserved g c = record {
  each = rw c.max-status.ensures (goes_on (AnswersTask c.args.task) c.args.paths.now _ _ _ _ _ _ _ (search rules)
      c.loop-path.invariant.each c.answer_file.ensures.run (search rules));
  same = search rules;
}

pub returns-clause-run : goal.returns-clause-run
returns-clause-run g c = ends (AnswersTask c.args.task) c.args.paths.now _ _ _ _ (search rules) c.loop-path.invariant.each
