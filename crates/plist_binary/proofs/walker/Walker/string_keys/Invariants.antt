use Rattle.std.proofs.Common.{◌-◌, ℕ, List, take}
use Rattle.plist_object.specs.Views.{numbers_of}
use Rattle.plist_binary.specs.Progress.{IsProgressFrom, inside, walked}
use Rattle.plist_binary.specs.Readings.{ReadsItems, texts}
use Rattle.plist_binary.proofs.walker.Walker.string_keys.Given as goal

abbrev pub invariant-loop-i : goal.invariant-loop-i
invariant-loop-i l = record {
  keys : List (List ℕ);
  read : ReadsItems (walked l.self) (take l.i (numbers_of l.refs)) (l.table.levels - 1) l.initial.progress.left (texts keys) l.progress.left;
  progress : IsProgressFrom (walked l.self) (inside l.table) l.initial.progress l.progress;
}
