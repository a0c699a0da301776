use Rattle.std.proofs.Common.{◌≡◌, ◌-◌}
use Rattle.plist_print.specs.Reals.{shortest}
use Rattle.plist_print.specs.Shown.{placed}
use Rattle.plist_print.proofs.reals.shortest.Given as goal

-- the result is equal if the search begins at these digits
abbrev pub invariant-loop-digits : goal.invariant-loop-digits
invariant-loop-digits l = shortest (placed l.below l.here l.unit) (22 - l.digits) l.digits ≡ shortest (placed l.below l.here l.unit) 21 1
