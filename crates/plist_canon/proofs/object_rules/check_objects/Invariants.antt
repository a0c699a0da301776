use Rattle.std.proofs.Common.{ℕ, ◌<◌}
use Rattle.plist_keys.specs.KeyOrder.{IsReady}
use Rattle.plist_object.specs.Views.{octets_of}
use Rattle.plist_canon.specs.Checking.{IsChecked}
use Rattle.plist_canon.specs.Visited.{AreVisited}
use Rattle.plist_canon.proofs.object_rules.check_objects.Given as goal

abbrev pub invariant-loop-i : goal.invariant-loop-i
invariant-loop-i g l =
    let f = octets_of l.input.file in
    record {
      ready : IsReady f l.order;
      visited : AreVisited f l.i l.visited;
      checked : (j : ℕ) → j < l.i → IsChecked f j;
    }
