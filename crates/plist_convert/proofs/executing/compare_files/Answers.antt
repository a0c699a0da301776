use Rattle.std.proofs.Common.{inl, inr, ◌∙◌}
use Rattle.plist_convert.specs.Runs.{IsSameRun}
use Rattle.plist_convert.specs.State.{run_state}
use Rattle.plist_convert.proofs.FilesBefore.{holds_before, same_trans, unloaded_before}
use Rattle.plist_convert.proofs.Runs.{files_compared}
use Rattle.plist_convert.proofs.executing.compare_files.Goals as goal

pub returns-in-Err-clause-run : goal.returns-in-Err-clause-run
unfolding IsSameRun
returns-in-Err-clause-run g c =
    let loads = c.in-Err.ensures.loads in
    inl (record { fault = c.in-Err.fault; cause = loads.refused; kept = loads.kept; ends = c.print_refusal.ensures.ends })

pub returns-in-Ok-load_unless-clause-run : goal.returns-in-Ok-load_unless-clause-run
unfolding IsSameRun
returns-in-Ok-load_unless-clause-run g c =
    let view = run_state g.O.Opens.files g.W.Sink.taken g.W.Sink.failures in
    let before = view c.args.disk.now c.args.output.now in
    let middle = view c.load.new.self c.args.output.now in
    let after = view c.load_unless.new.self c.print_answer.new.output in
    let one = c.in-Ok.ensures.loads in
    let two = c.in-Ok-load_unless.ensures.loads in
    inr (inr (files_compared c.args.first.now c.args.second.now before after c.print_answer.result c.as_slice-a.result.now c.octets_or-b.result.now c.same_answer.result
    (rw c.as_slice-a.ensures.value one.found) (rw c.octets_or-b.ensures (holds_before before.files middle.files c.args.second.now _ one.kept two.found))
    (same_trans before.files middle.files after.files one.kept two.kept) (two.unfailed ∙ one.unfailed) c.same_answer.ensures c.print_answer.ensures.ends))

pub returns-clause-run : goal.returns-clause-run
unfolding IsSameRun
returns-clause-run g c =
    let view = run_state g.O.Opens.files g.W.Sink.taken g.W.Sink.failures in
    let before = view c.args.disk.now c.args.output.now in
    let middle = view c.load.new.self c.args.output.now in
    let after = view c.load_unless.new.self c.args.output.now in
    let one = c.in-Ok.ensures.loads in
    let two = c.in-Err-load_unless.ensures.loads in
    inr (inl (record {
      octets = c.in-Ok.octets.items;
      stands = one.found;
      unread = record {
        fault = c.in-Err-load_unless.fault;
        cause = unloaded_before before.files middle.files c.args.second.now before.disk_failures middle.disk_failures after.disk_failures
            c.in-Err-load_unless.fault one.kept one.unfailed two.refused;
        kept = same_trans before.files middle.files after.files one.kept two.kept;
        ends = c.print_refusal-in-Err-load_unless.ensures.ends;
      };
    }))
