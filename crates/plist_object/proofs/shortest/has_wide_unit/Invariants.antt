use Rattle.std.proofs.Common.{◌≡◌, length, nat_lt}
use Rattle.std.specs.List.{list_all}
use Rattle.plist_value.specs.Texts.{wide_units}
use Rattle.plist_object.proofs.shortest.has_wide_unit.Given as goal

-- all units so far are ASCII
abbrev pub invariant-loop-rest : goal.invariant-loop-rest
invariant-loop-rest l =
    list_all (λ unit. nat_lt unit 128) (wide_units l.octets) ≡ list_all (λ unit. nat_lt unit 128) (wide_units l.rest)

abbrev pub decreases-loop-rest : goal.decreases-loop-rest
decreases-loop-rest l = length l.rest
