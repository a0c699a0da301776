use Rattle.std.proofs.Common.{◌≡◌, ◌≤◌, ◌^◌, length, map}
use Rattle.std.specs.Prelude.{All}
use Rattle.std.specs.List.{range_with_len}
use Rattle.plist_keys.specs.KeyOrder.{sort_key, index_of}
use Rattle.plist_keys.proofs.order.text_rows.Given as goal

abbrev pub invariant-loop-index : goal.invariant-loop-index
invariant-loop-index l = record {
  long : length l.list.items ≡ l.index;
  indices : map index_of l.list.items ≡ range_with_len 0 l.index;
  unnumbered : All (λ row. sort_key row ≡ 0) l.list.items;
  small : l.index ≤ 2 ^ 32;
}
