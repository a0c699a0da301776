use Rattle.std.proofs.Common.{◌≡◌, ◌<◌, ℕ, length}
use Rattle.plist_object.specs.Views.{octets_of, numbers_of}
use Rattle.plist_keys.specs.KeyOrder.{HoldsString}
use Rattle.plist_keys.proofs.key_texts.texts_within.Given as goal

abbrev pub invariant-loop-index : goal.invariant-loop-index
invariant-loop-index l = record {
  long : length l.texts.items ≡ l.index;
  held : (k : ℕ) → k < l.index → HoldsString (octets_of l.file) (numbers_of l.keys) l.texts.items k;
}
