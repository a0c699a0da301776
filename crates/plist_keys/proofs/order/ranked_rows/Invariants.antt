use Rattle.std.proofs.Common.{◌≡◌, ◌<◌, ℕ, length, map}
use Rattle.std.specs.Prelude.{All}
use Rattle.std.specs.List.{range_with_len}
use Rattle.plist_object.specs.Views.{octets_of, numbers_of}
use Rattle.plist_keys.specs.KeyOrder.{HoldsString, index_of}
use Rattle.plist_keys.proofs.KeyOrders.{IsRankedRow}
use Rattle.plist_keys.proofs.order.ranked_rows.Given as goal

abbrev pub invariant-loop-index : goal.invariant-loop-index
invariant-loop-index l = record {
  long : length l.texts.items ≡ l.index;
  held : (k : ℕ) → k < l.index → HoldsString (octets_of l.file) (numbers_of l.keys) l.texts.items k;
  indices : map index_of l.list.items ≡ range_with_len 0 l.index;
  ranked : All (IsRankedRow l.ranks l.texts.items) l.list.items;
}
