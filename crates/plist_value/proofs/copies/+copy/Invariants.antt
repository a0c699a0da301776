use Rattle.std.proofs.Common.{◌≡◌, ℕ, List, ◌++◌, take, map}
use Rattle.plist_value.specs.declared.value.Value.{Value}
use Rattle.plist_value.specs.View.{view, view_pairs}
use Rattle.plist_value.proofs.copies.+copy.Given as goal

abbrev pub invariant-copy_items-loop-item : goal.invariant-copy_items-loop-item
invariant-copy_items-loop-item l = map view l.copies.items ≡ map view (take l.item-index l.item-items)

-- the copied entries and the remaining ones are all entries
abbrev pub invariant-copy_pairs-loop-key : goal.invariant-copy_pairs-loop-key
invariant-copy_pairs-loop-key l =
    (done : List (List ℕ × Value)) × (l.pairs.entries ≡ done ++ l.key-iterator) × (view_pairs l.copies.entries ≡ view_pairs done)
