-- The number that a `Whole` stores, as a signed or an unsigned one of 64 bits.
use Rattle.std.specs.Prelude.{ℤ, pos}
use Rattle.plist_value.specs.declared.whole.Number.{Number}
use Rattle.plist_value.specs.declared.whole.Number.TheVariants.{Signed, Unsigned}

abbrev pub number_kept : Number → ℤ
number_kept (Signed z) = z
number_kept (Unsigned n) = pos n
