use Rattle.std.proofs.Common.{take}
use Rattle.std.specs.Ordering.{nat_cmp}
use Rattle.std.specs.Cmp.Lexicographic.{slice_cmp}
use Rattle.std.specs.List.Sorted.{IsStrictlySortedBy}
use Rattle.std.specs.Map.{keys_of}
use Rattle.plist_value.specs.Plist.{AreItems, ArePairs}
use Rattle.plist_value.specs.View.{view_items, view_pairs}
use Rattle.plist_draft.specs.Encoded.{Keeps, SpellItemsIn}
use Rattle.plist_draft.specs.View.{objects}
use Rattle.plist_draft.proofs.Valued.{PairsLeft}
use Rattle.plist_draft.proofs.values.+values.Given as goal

abbrev pub invariant-put_items-loop-item : goal.invariant-put_items-loop-item
invariant-put_items-loop-item l = record {
  kept : Keeps (objects l.fn.draft) (objects l.draft);
  spells : SpellItemsIn (objects l.draft) l.numbers.items (view_items (take l.item-index l.items.items));
  valid : AreItems (view_items (take l.item-index l.items.items));
}

abbrev pub invariant-put_pairs-loop-key : goal.invariant-put_pairs-loop-key
invariant-put_pairs-loop-key l = record {
  can : (goal.iterator-put_pairs-loop-key).can_next l.key-iterator;
  finite : (goal.iterator-put_pairs-loop-key).is_finite l.key-iterator;
  kept : Keeps (objects l.fn.draft) (objects l.draft);
  left : PairsLeft (objects l.draft) l.keys.items l.values.items (view_pairs l.key-iterator) (view_pairs l.pairs.entries);
  ordered : IsStrictlySortedBy (slice_cmp nat_cmp) (keys_of l.key-iterator);
  valid : ArePairs (view_pairs l.key-iterator) → ArePairs (view_pairs l.pairs.entries);
}
