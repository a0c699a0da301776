use Rattle.std.proofs.Common.{rules, List, map, subst}
use Rattle.std.specs.List.Sorted.{IsPermutation}
use Rattle.std.proofs.lemmas.List.Sorted.{answers_always}
use Rattle.plist_keys.specs.declared.order.Row.{Row}
use Rattle.plist_keys.specs.Prefixes.{in_run}
use Rattle.plist_keys.proofs.SortedRuns.{sorted_by_prefix}
use Rattle.plist_keys.proofs.prefixes.sort_run.Goals as goal

pub returns-clause-sorted : goal.returns-clause-sorted
returns-clause-sorted c =
    let texts = c.args.texts.now in
    let now = c.sort_unstable_by_key.new.self in
    let front = c.shared-front.result in
    let width = c.prefix_width-width.result in
    let moved : IsPermutation (map (in_run texts c.args.start front width) c.args.rows.now) now = subst (λ (rows : List Row). IsPermutation rows now) c.fill.ensures c.sort_unstable_by_key.ensures.permutation in
    record {
      front = front;
      width = width;
      first = c.shared-front.ensures.0;
      shared = c.shared-front.ensures.1;
      fits = c.prefix_width-width.ensures;
      moved = moved;
      sorted = sorted_by_prefix texts c.args.start front width c.args.rows.now now moved (c.sort_unstable_by_key.ensures.sorted (λ row. row.prefix) (answers_always _ _ _ (λ f a r g h. search rules)));
    }
