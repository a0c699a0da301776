use Rattle.std.proofs.Common.{◌≡◌}
use Rattle.plist_convert.specs.Answer.{AnswersTask}
use Rattle.plist_convert.specs.State.{run_state}
use Rattle.plist_convert.proofs.Each.{GoesOn, names_of}
use Rattle.plist_convert.proofs.executing.answer_files.Given as goal

abbrev pub invariant-loop-path : goal.invariant-loop-path
invariant-loop-path g l =
    let view = run_state g.O.Opens.files g.W.Sink.taken g.W.Sink.failures in
    record {
      each : GoesOn (AnswersTask l.task) (names_of l.paths) (view l.initial.disk l.initial.output) (view l.disk l.output) l.path-index l.status;
      same : g.W.Sink.device l.output ≡ g.W.Sink.device l.initial.output;
    }
