use Rattle.std.proofs.Common.{◌∙◌, map}
use Rattle.std.proofs.lemmas.List.Sorted.{IsPermutation-trans}
use Rattle.plist_keys.specs.KeyOrder.{index_of}
use Rattle.plist_keys.proofs.order.sort_by_prefixes.Goals as goal

pub loop-preserved : goal.loop-preserved
loop-preserved c = record {
  tell = c.sort_runs.ensures.tell;
  sorted = c.sort_runs.ensures.sorted;
  moved = IsPermutation-trans (map index_of c.args.rows.now) (map index_of c.loop.rows) (map index_of c.sort_runs.new.rows) c.loop.invariant.moved c.sort_runs.ensures.moved;
  long = c.sort_runs.ensures.long ∙ c.loop.invariant.long;
}
