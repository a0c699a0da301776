use Rattle.std.proofs.Common.{ℕ, List, ◌∙◌, ap, drop, get_or, arith}
use Rattle.plist_keys.specs.Prefixes.{in_run, prefix_of}
use Rattle.plist_keys.proofs.PrefixSteps.{changed_more, in_run_is}
use Rattle.plist_keys.proofs.prefixes.fill.Goals as goal

pub loop-row-preserved : goal.loop-row-preserved
loop-row-preserved c =
    changed_more (in_run c.args.texts.now c.args.start c.args.front c.args.width) c.loop-row.row-index c.args.rows.now c.loop-row.rows _ _ (omega arith) c.loop-row.invariant (in_run_is c.args.texts.now c.args.start c.args.front c.args.width (get_or c.loop-row.rows c.loop-row.row-index _) _ (c.sort_prefix-row.ensures ∙ ap (λ (us : List ℕ). prefix_of c.args.width (drop c.args.front us)) c.text_at.ensures))
