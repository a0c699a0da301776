use Rattle.std.proofs.Common.{◌≡◌, nat_lt, drop}
use Rattle.std.specs.List.{list_all}
use Rattle.plist_value.specs.Texts.{units_of}
use Rattle.ostep_text.proofs.key.is_narrow.Given as goal

-- all units are below 256 if and only if the remaining ones are
abbrev pub invariant-loop-i : goal.invariant-loop-i
invariant-loop-i l =
    list_all (λ unit. nat_lt unit 256) (drop l.i (units_of l.text)) ≡ list_all (λ unit. nat_lt unit 256) (units_of l.text)
