use Rattle.std.proofs.Common.{◌≡◌, ◌++◌, drop}
use Rattle.std.specs.Prelude.{flat_map}
use Rattle.plist_value.specs.Texts.{units_of}
use Rattle.plist_value.specs.Escapes.{quoted_unit}
use Rattle.ostep_text.proofs.write_scalars.put_units.Given as goal

-- the bytes so far, followed by the remaining units, are the whole string
abbrev pub invariant-loop-i : goal.invariant-loop-i
invariant-loop-i l = l.out.items ++ flat_map quoted_unit (drop l.i (units_of l.text)) ≡ l.initial.out.items ++ flat_map quoted_unit (units_of l.text)
