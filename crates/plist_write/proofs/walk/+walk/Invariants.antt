use Rattle.std.proofs.Common.{ℕ, ◌+◌, ◌*◌, ◌≤◌, List, ◌++◌, length, drop}
use Rattle.plist_object.specs.Views.{octets_of}
use Rattle.plist_write.specs.declared.plan.Plan.{Plan}
use Rattle.plist_write.specs.Plan.{ItemsWalked, Knows}
use Rattle.plist_write.proofs.Filling.{IsFilling}
use Rattle.plist_write.proofs.walk.+walk.Given as goal

abbrev pub decreases-walk : goal.decreases-walk
decreases-walk g l = 3 * l.levels + 1

abbrev pub decreases-walk_object : goal.decreases-walk_object
decreases-walk_object g l = 3 * l.levels

abbrev pub decreases-walk_children : goal.decreases-walk_children
decreases-walk_children g l = 3 * l.levels + 2

-- all references are walked once those that remain are
abbrev pub invariant-walk_children-loop-i : goal.invariant-walk_children-loop-i
invariant-walk_children-loop-i g l =
    let start = l.fn.plan.references.items in
    record {
      within : l.i ≤ length start;
      done : List ℕ;
      filling : IsFilling l.first l.i start l.plan.references.items done;
      more : (new : Plan _ _) (numbers : List ℕ) → ItemsWalked (octets_of l.input.file) (length start) (drop l.i start) l.plan new numbers → ItemsWalked (octets_of l.input.file) (length start) (drop l.first start) l.fn.plan new (done ++ numbers);
      knows : Knows (octets_of l.input.file) l.plan l.order;
    }
