use Rattle.std.proofs.Common.{ℕ, suc, ◌<◌}
use Rattle.std.specs.Prelude.{slice_index}
use Rattle.plist_object.specs.Views.{numbers_of, octets_of}
use Rattle.plist_keys.specs.Ascending.{AreInOrder}
use Rattle.plist_keys.proofs.in_order.neighbours_ascend.Given as goal

abbrev pub invariant-loop-k : goal.invariant-loop-k
invariant-loop-k l =
    (j : ℕ) → suc j < l.k → AreInOrder (octets_of l.file) (slice_index (numbers_of l.keys) j) (slice_index (numbers_of l.keys) (suc j))
