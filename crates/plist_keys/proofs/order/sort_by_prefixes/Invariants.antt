use Rattle.std.proofs.Common.{◌≡◌, length, map}
use Rattle.std.specs.Prelude.{All}
use Rattle.std.specs.List.Sorted.{IsNonDecreasingBy, IsPermutation}
use Rattle.plist_keys.specs.KeyOrder.{TellsOrder, sort_key, index_of}
use Rattle.plist_keys.proofs.order.sort_by_prefixes.Given as goal

abbrev pub invariant-loop : goal.invariant-loop
invariant-loop l = record {
  tell : All (λ row. All (TellsOrder l.texts row) l.rows) l.rows;
  sorted : IsNonDecreasingBy sort_key l.rows;
  moved : IsPermutation (map index_of l.initial.rows) (map index_of l.rows);
  long : length l.rows ≡ length l.initial.rows;
}
