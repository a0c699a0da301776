use Rattle.std.proofs.Common.{◌≡◌, ◌+◌, ◌≤◌, ◌++◌, drop, length, vec_len, vec_capacity}
use Rattle.plist_value.specs.Texts.{units_of}
use Rattle.plist_object.specs.Spelling.{references}
use Rattle.plist_object.proofs.units.push_wide.Given as goal

abbrev pub invariant-loop-i : goal.invariant-loop-i
invariant-loop-i l =
    let rest = drop l.i (units_of l.text) in
    record {
      items : l.out.items ++ references 2 rest ≡ l.initial.out.items ++ references 2 (units_of l.text);
      len : vec_len l.out + length (references 2 rest) ≡ vec_len l.initial.out + length (references 2 (units_of l.text));
      room : vec_capacity l.initial.out ≤ vec_capacity l.out;
    }
