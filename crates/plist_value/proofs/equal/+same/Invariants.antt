use Rattle.std.proofs.Common.{◌≡◌, drop}
use Rattle.plist_value.specs.View.{view_items, view_pairs}
use Rattle.plist_value.proofs.equal.+same.Given as goal

-- all items are equal if and only if the remaining ones are
abbrev pub invariant-same_items-loop-i : goal.invariant-same_items-loop-i
invariant-same_items-loop-i l =
    let rest = view_items (drop l.i l.items.items) in
    let others = view_items (drop l.i l.others.items) in
    record {
      equal : rest ≡ others → view_items l.items.items ≡ view_items l.others.items;
      different : view_items l.items.items ≡ view_items l.others.items → rest ≡ others;
    }

abbrev pub invariant-same_pairs-loop-key : goal.invariant-same_pairs-loop-key
invariant-same_pairs-loop-key l =
    let rest = view_pairs l.key-iterator in
    let others = view_pairs l.rest in
    record {
      can : (goal.iterator-same_pairs-loop-key).can_next l.key-iterator;
      finite : (goal.iterator-same_pairs-loop-key).is_finite l.key-iterator;
      equal : rest ≡ others → view_pairs l.pairs.entries ≡ view_pairs l.others.entries;
      different : view_pairs l.pairs.entries ≡ view_pairs l.others.entries → rest ≡ others;
    }
