use Rattle.std.proofs.Common.{◌≡◌, ◌+◌, ◌≤◌, drop}
use Rattle.plist_value.specs.Plist.{AreItems, ArePairs}
use Rattle.plist_value.specs.Limits.{nodes_of_items, depth_of_items, payload_of_items, nodes_of_pairs, depth_of_pairs, payload_of_pairs}
use Rattle.plist_value.specs.View.{view_items, view_pairs}
use Rattle.std.specs.Ordering.{nat_cmp}
use Rattle.std.specs.Cmp.Lexicographic.{slice_cmp}
use Rattle.std.specs.List.Sorted.{IsStrictlySortedBy}
use Rattle.std.specs.Map.{keys_of}
use Rattle.plist_value.proofs.limits.+fits.Given as goal

-- what the remaining items need is what all items needed minus what was spent
abbrev pub invariant-charge_items-loop-item : goal.invariant-charge_items-loop-item
invariant-charge_items-loop-item l =
    let all = view_items l.items.items in
    let rest = view_items (drop l.item-index l.items.items) in
    record {
      nodes_left : l.left.nodes + nodes_of_items all ≡ l.initial.left.nodes + nodes_of_items rest;
      payload_left : l.left.payload + payload_of_items all ≡ l.initial.left.payload + payload_of_items rest;
      deep : depth_of_items rest ≤ l.levels → depth_of_items all ≤ l.levels;
      deeper : depth_of_items all ≤ l.levels → depth_of_items rest ≤ l.levels;
      valid : AreItems rest → AreItems all;
    }

abbrev pub invariant-charge_pairs-loop-key : goal.invariant-charge_pairs-loop-key
invariant-charge_pairs-loop-key l =
    let all = view_pairs l.pairs.entries in
    let rest = view_pairs l.key-iterator in
    record {
      can : (goal.iterator-charge_pairs-loop-key).can_next l.key-iterator;
      finite : (goal.iterator-charge_pairs-loop-key).is_finite l.key-iterator;
      nodes_left : l.left.nodes + nodes_of_pairs all ≡ l.initial.left.nodes + nodes_of_pairs rest;
      payload_left : l.left.payload + payload_of_pairs all ≡ l.initial.left.payload + payload_of_pairs rest;
      deep : depth_of_pairs rest ≤ l.levels → depth_of_pairs all ≤ l.levels;
      deeper : depth_of_pairs all ≤ l.levels → depth_of_pairs rest ≤ l.levels;
      ordered : IsStrictlySortedBy (slice_cmp nat_cmp) (keys_of l.key-iterator);
      valid : ArePairs rest → ArePairs all;
    }
