use Rattle.std.proofs.Common.{◌≡◌, ℕ, List, map, subst, sym, ap, ◌∙◌}
use Rattle.std.specs.Prelude.{All, IsTrue, ◌↔◌}
use Rattle.std.specs.Ordering.{nat_cmp}
use Rattle.std.specs.Cmp.Lexicographic.{slice_cmp}
use Rattle.std.specs.List.Sorted.{IsSorted, IsStrictlySortedBy}
use Rattle.plist_value.specs.declared.text_ref.TextRef.{TextRef}
use Rattle.plist_object.specs.Views.{octets_of, numbers_of}
use Rattle.plist_keys.specs.declared.order.Row.{Row}
use Rattle.plist_keys.specs.Order.{Ascend, IsInOrder}
use Rattle.plist_keys.specs.KeyOrder.{TellsOrder, by_number, index_of, row_units}
use Rattle.plist_keys.proofs.KeyOrders.{IsInOrder-rows, moved_rows, strings-rows}
use Rattle.plist_keys.proofs.order.KeyOrder.sorted.Goals as goal

pub ascend-distinct-requires : goal.ascend-distinct-requires
ascend-distinct-requires c =
    let rows = c.in_ok-texts.field-0 in
    let sorted = c.sort_rows.new.rows.items in
    let now = moved_rows rows.texts.items rows.list.items sorted c.sort_rows.ensures.moved c.in_ok-texts.ensures.rows in
    subst (λ (ts : List TextRef). All (λ row. All (TellsOrder ts row) c.deref-2.result.now) c.deref-2.result.now) (sym c.deref-3.ensures.value) (subst (λ (rs : List Row). All (λ row. All (TellsOrder rows.texts.items row) rs) rs) (sym c.deref-2.ensures.value) now.tell)

pub returns-clause-sorted : goal.returns-clause-sorted
returns-clause-sorted c = record {
  order =
      let f = octets_of c.args.file.now in
      let keys = numbers_of c.args.keys.now in
      let rows = c.in_ok-texts.field-0 in
      let sorted = c.sort_rows.new.rows.items in
      let by : IsSorted (by_number rows.texts.items) sorted = subst (λ (ts : List TextRef). IsSorted (by_number ts) sorted) c.deref.ensures.value c.sort_rows.ensures.sorted in
      let order = IsInOrder-rows f keys rows.texts.items rows.list.items sorted c.in_ok-texts.ensures.texts c.in_ok-texts.ensures.rows c.sort_rows.ensures.moved by in
      subst (λ (ps : List ℕ). IsInOrder f keys ps) (sym (c.in_ok-indices.ensures ∙ ap (map index_of) c.deref-4.ensures.value)) order;
  tells =
      let f = octets_of c.args.file.now in
      let keys = numbers_of c.args.keys.now in
      let rows = c.in_ok-texts.field-0 in
      let texts = rows.texts.items in
      let sorted = c.sort_rows.new.rows.items in
      let distinct = c.ascend-distinct.result in
      let now = moved_rows texts rows.list.items sorted c.sort_rows.ensures.moved c.in_ok-texts.ensures.rows in
      let indices : c.in_ok-indices.indices.items ≡ map index_of sorted = c.in_ok-indices.ensures ∙ ap (map index_of) c.deref-4.ensures.value in
      let strings : map (row_units c.deref-3.result.now) c.deref-2.result.now ≡ map (row_units texts) sorted = ap (λ (ts : List TextRef). map (row_units ts) c.deref-2.result.now) c.deref-3.ensures.value ∙ ap (map (row_units texts)) c.deref-2.ensures.value in
      let at : IsTrue distinct ↔ Ascend f keys (map index_of sorted) = subst (λ (ts : List (List ℕ)). IsTrue distinct ↔ IsStrictlySortedBy (slice_cmp nat_cmp) ts) (strings ∙ sym (strings-rows f keys texts sorted c.in_ok-texts.ensures.texts now)) c.ascend-distinct.ensures in
      subst (λ (ps : List ℕ). IsTrue distinct ↔ Ascend f keys ps) (sym indices) at;
}
