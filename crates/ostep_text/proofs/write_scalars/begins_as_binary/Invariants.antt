use Rattle.std.proofs.Common.{◌≡◌, drop}
use Rattle.std.specs.Prelude.{codes, nat_eq}
use Rattle.std.specs.List.{starts_with}
use Rattle.plist_value.specs.Texts.{units_of}
use Rattle.ostep_text.proofs.write_scalars.begins_as_binary.Given as goal

-- the remaining units decide
abbrev pub invariant-loop-i : goal.invariant-loop-i
invariant-loop-i l = starts_with nat_eq (drop l.i (units_of l.text)) (drop l.i (codes "bplist")) ≡ starts_with nat_eq (units_of l.text) (codes "bplist")
