use Rattle.std.proofs.Common.{◌+◌, ◌*◌, take}
use Rattle.std.specs.List.{zip}
use Rattle.plist_value.specs.View.{view_items, view_pairs}
use Rattle.plist_object.specs.Views.{octets_of, numbers_of}
use Rattle.plist_binary.specs.Building.{AreSpelled}
use Rattle.plist_binary.specs.Readings.{PairsSpelled}
use Rattle.plist_binary.proofs.building.Builder.+build.Given as goal

-- by the levels, with callers before what they call
abbrev pub decreases-value : goal.decreases-value
decreases-value l = 3 * l.levels

abbrev pub decreases-pairs : goal.decreases-pairs
decreases-pairs l = 3 * l.levels + 2

abbrev pub decreases-items : goal.decreases-items
decreases-items l = 3 * l.levels + 1

abbrev pub invariant-items-loop-i : goal.invariant-items-loop-i
invariant-items-loop-i l =
    AreSpelled (octets_of l.self.file) (take l.i (numbers_of l.refs)) (view_items l.items.items)

abbrev pub invariant-pairs-loop-i : goal.invariant-pairs-loop-i
invariant-pairs-loop-i l =
    PairsSpelled (octets_of l.self.file) (take l.i (zip (numbers_of l.keys) (numbers_of l.values))) (view_pairs l.pairs.entries)
