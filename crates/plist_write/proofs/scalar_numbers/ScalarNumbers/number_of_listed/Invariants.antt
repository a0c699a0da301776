use Rattle.std.proofs.Common.{◌≡◌, drop}
use Rattle.plist_value.specs.Scalars.{content_of}
use Rattle.plist_write.specs.ScalarNumbers.{number_listed}
use Rattle.plist_write.proofs.scalar_numbers.ScalarNumbers.number_of_listed.Given as goal

-- a lookup in the entries that remain gives the same as one in all
abbrev pub invariant-loop-one : goal.invariant-loop-one
invariant-loop-one g l =
    number_listed (drop l.one-index l.self.listed.items) (content_of l.scalar) ≡ number_listed l.self.listed.items (content_of l.scalar)
