use Rattle.std.proofs.Common.{◌+◌, ◌*◌, take}
use Rattle.plist_object.specs.Views.{numbers_of}
use Rattle.plist_binary.specs.Progress.{IsProgress, PassesBelow, inside, walked}
use Rattle.plist_binary.proofs.walker.Walker.+walk.Given as goal

-- by the levels, with callers before what they call
abbrev pub decreases-items_depth : goal.decreases-items_depth
decreases-items_depth l = 3 * l.container.now.levels

abbrev pub decreases-content_depth : goal.decreases-content_depth
decreases-content_depth l = 3 * l.node.now.levels + 1

abbrev pub decreases-validate : goal.decreases-validate
decreases-validate l = 3 * l.node.now.levels + 2

abbrev pub invariant-items_depth-loop-i : goal.invariant-items_depth-loop-i
invariant-items_depth-loop-i l =
    record {
      passed : PassesBelow (walked l.self) l.container (take l.i (numbers_of l.refs)) l.initial.progress l.progress l.deepest;
      progress : IsProgress (walked l.self) (inside l.container) l.progress;
    }
