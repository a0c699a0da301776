use Rattle.std.proofs.Common.{◌≡◌, drop}
use Rattle.plist_value.specs.Texts.{units_of}
use Rattle.ostep_text.specs.Written.{are_alphanumeric}
use Rattle.ostep_text.proofs.write_scalars.are_alphanumeric.Given as goal

-- the remaining units decide
abbrev pub invariant-loop-i : goal.invariant-loop-i
invariant-loop-i l = are_alphanumeric (drop l.i (units_of l.text)) ≡ are_alphanumeric (units_of l.text)
