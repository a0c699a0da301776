use Rattle.std.proofs.Common.{vec_len}
use Rattle.plist_canon.specs.Preorders.{path_groups}
use Rattle.plist_canon.specs.Steps.{GoesOn}
use Rattle.plist_canon.proofs.preorder.next_visit.Given as goal

-- the walk went past the references that were popped
abbrev pub invariant-loop-frame : goal.invariant-loop-frame
invariant-loop-frame l =
    GoesOn l.weights (path_groups l.initial.path.items) l.initial.left (path_groups l.path.items) l.left

abbrev pub decreases-loop-frame : goal.decreases-loop-frame
decreases-loop-frame l = vec_len l.path
