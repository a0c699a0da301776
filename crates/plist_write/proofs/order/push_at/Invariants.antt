use Rattle.std.proofs.Common.{◌≡◌, ◌++◌, drop, map, slice_index}
use Rattle.plist_object.specs.Views.{numbers_of}
use Rattle.plist_write.proofs.order.push_at.Given as goal

abbrev pub invariant-loop-index : goal.invariant-loop-index
invariant-loop-index l =
    l.references.items ++ map (slice_index (numbers_of l.refs)) (drop l.index-index l.indices) ≡ l.initial.references.items ++ map (slice_index (numbers_of l.refs)) l.indices
