-- The number that a `Whole` is.
use Rattle.std.specs.Prelude.{ℤ}
use Rattle.plist_value.specs.Numbers.{number_kept}
use Rattle.plist_value.specs.declared.whole.Whole.{Whole}

abbrev pub integer_of : Whole → ℤ
integer_of w = number_kept w.kept
