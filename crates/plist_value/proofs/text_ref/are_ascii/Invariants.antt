use Rattle.std.proofs.Common.{◌≡◌, nat_lt, drop}
use Rattle.std.specs.List.{list_all}
use Rattle.plist_value.proofs.text_ref.are_ascii.Given as goal

-- all units are ASCII if and only if the remaining ones are
abbrev pub invariant-loop-unit : goal.invariant-loop-unit
invariant-loop-unit l =
    list_all (λ unit. nat_lt unit 128) (drop l.unit-index l.units) ≡ list_all (λ unit. nat_lt unit 128) l.units
