use Rattle.std.proofs.Common.{◌≤◌, arith, length}
use Rattle.plist_keys.proofs.SortedRuns.{long_sorted, run_sorted}
use Rattle.plist_keys.proofs.prefixes.sort_runs.Goals as goal

pub loop-start-preserved : goal.loop-start-preserved
loop-start-preserved c =
    let texts = c.args.texts.now in
    let old = c.args.rows.now in
    let now = c.loop-start.rows in
    let start = c.loop-start.start in
    let end = c.run_end-end.result in
    let so_far = c.loop-start.invariant.so_far in
    let within = c.run_end-end.ensures.within in
    let long = long_sorted texts start old now c.loop-start.invariant.within so_far in
    let most = within.1 in
    let high : end ≤ length old = omega (arith, long, most) in
    record {
      within = high;
      so_far = run_sorted texts start end old now c.sort_run.new.rows within.0 high c.run_end-end.ensures.rises c.requires.tell c.requires.sorted so_far c.sort_run.ensures.sorted c.sort_run.ensures.long;
    }
