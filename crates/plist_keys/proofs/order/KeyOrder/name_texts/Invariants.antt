use Rattle.std.proofs.Common.{ℕ, ◌<◌}
use Rattle.std.specs.Prelude.{slice_index}
use Rattle.plist_object.specs.Views.{numbers_of, octets_of}
use Rattle.plist_object.specs.Places.{HoldsText}
use Rattle.plist_keys.proofs.order.KeyOrder.name_texts.Given as goal

abbrev pub invariant-loop-k : goal.invariant-loop-k
invariant-loop-k l = (j : ℕ) → j < l.k → HoldsText (octets_of l.file) (slice_index (numbers_of l.keys) j)
