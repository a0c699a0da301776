use Rattle.std.proofs.Common.{◌≡◌, drop}
use Rattle.plist_value.specs.Narrow.{are_narrow}
use Rattle.plist_value.specs.Texts.{units_of}
use Rattle.plist_value.proofs.text_hash.is_narrow.Given as goal

-- all units are narrow if and only if the remaining ones are
abbrev pub invariant-loop-i : goal.invariant-loop-i
invariant-loop-i l = are_narrow (drop l.i (units_of l.text)) ≡ are_narrow (units_of l.text)
