use Rattle.std.proofs.Common.{drop}
use Rattle.plist_object.specs.Views.{numbers_of}
use Rattle.plist_canon.specs.Preorders.{grouped, frame_group}
use Rattle.plist_canon.specs.Steps.{GroupGoesOn}
use Rattle.plist_canon.proofs.preorder.first_other.Given as goal

-- the walk went past the references before the place
abbrev pub invariant-loop-index : goal.invariant-loop-index
invariant-loop-index l =
    GroupGoesOn l.weights (frame_group l.frame) l.initial.left (grouped l.frame.owner l.frame.levels (drop l.index (numbers_of l.frame.refs))) l.left
