use Rattle.std.proofs.Common.{◌≡◌, ◌∙◌, List, ap, drop, length, map, sym, subst, arith}
use Rattle.std.specs.Prelude.{All}
use Rattle.std.specs.List.Sorted.{IsNonDecreasingBy, IsPermutation}
use Rattle.std.proofs.lemmas.List.{length_push, take_at}
use Rattle.std.proofs.lemmas.List.Elements.{All-push}
use Rattle.plist_value.specs.declared.text_ref.TextRef.{TextRef}
use Rattle.plist_keys.specs.declared.order.Row.{Row}
use Rattle.plist_keys.specs.KeyOrder.{AreRows, TellsOrder, sort_key, index_of}
use Rattle.plist_keys.proofs.KeyOrders.{AreRows-sorted, indices-push, unnumbered-sorted, unnumbered-tell}
use Rattle.plist_keys.proofs.order.text_rows.Goals as goal

pub loop-index-preserved : goal.loop-index-preserved
loop-index-preserved c =
    let rows = c.loop-index.list.items in
    let row : Row = record { prefix = 0; run = 0; index = c.in_ok-to_u32.field-0 } in
    let pushed = c.in_ok-push.ensures.items in
    let index = c.in_ok-to_u32.ensures.value in
    record {
      long = omega (arith, ap length pushed, length_push rows row, c.loop-index.invariant.long);
      indices = indices-push rows c.push.new.self.items row c.loop-index.index pushed index c.loop-index.invariant.indices;
      unnumbered = subst (λ (rs : List Row). All (λ r. sort_key r ≡ 0) rs) (sym pushed) (All-push (λ (r : Row). sort_key r ≡ 0) rows row c.loop-index.invariant.unnumbered (omega arith));
      small = omega (arith, index);
    }

pub sort_by_prefixes-requires-clause-tell : goal.sort_by_prefixes-requires-clause-tell
sort_by_prefixes-requires-clause-tell c =
    subst (λ (rows : List Row). All (λ row. All (TellsOrder c.deref.result.now row) rows) rows) (sym c.as_mut_slice.ensures.value) (unnumbered-tell c.deref.result.now c.loop-index.list.items c.loop-index.invariant.unnumbered)

pub sort_by_prefixes-requires-clause-sorted : goal.sort_by_prefixes-requires-clause-sorted
sort_by_prefixes-requires-clause-sorted c =
    subst (IsNonDecreasingBy sort_key) (sym c.as_mut_slice.ensures.value) (unnumbered-sorted c.loop-index.list.items c.loop-index.invariant.unnumbered)

pub sort_by_prefixes-requires-clause-small : goal.sort_by_prefixes-requires-clause-small
sort_by_prefixes-requires-clause-small c =
    omega (arith, ap length c.as_mut_slice.ensures.value, c.loop-index.invariant.long, c.loop-index.invariant.small)

pub returns-clause-rows : goal.returns-clause-rows
returns-clause-rows c =
    let texts = c.args.texts.items in
    let old = c.loop-index.list.items in
    let new = c.sort_by_prefixes.new.rows in
    let value = c.as_mut_slice.ensures.value in
    let now = c.sort_by_prefixes.ensures in
    let moved : IsPermutation (map index_of old) (map index_of new) = subst (λ (rows : List Row). IsPermutation (map index_of rows) (map index_of new)) value now.moved in
    let tell : All (λ row. All (TellsOrder texts row) new) new = subst (λ (ts : List TextRef). All (λ row. All (TellsOrder ts row) new) new) c.deref.ensures.value now.tell in
    let long : length new ≡ length old = now.long ∙ ap length value in
    let seen = take_at new (drop (length new) old) c.loop-index.list.len (omega (arith, long, c.loop-index.list.ok.0)) in
    subst (AreRows texts) (sym seen) (AreRows-sorted texts c.loop-index.index old new (omega (arith, c.len-index-end.ensures)) c.loop-index.invariant.indices moved tell)
