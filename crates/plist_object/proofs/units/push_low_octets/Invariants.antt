use Rattle.std.proofs.Common.{◌≡◌, ◌+◌, ◌≤◌, ◌++◌, drop, length, true, nat_lt, vec_len, vec_capacity}
use Rattle.std.specs.List.{list_all}
use Rattle.plist_value.specs.Texts.{units_of}
use Rattle.plist_object.proofs.units.push_low_octets.Given as goal

abbrev pub invariant-loop-i : goal.invariant-loop-i
invariant-loop-i l =
    let rest = drop l.i (units_of l.text) in
    record {
      items : l.out.items ++ rest ≡ l.initial.out.items ++ units_of l.text;
      len : vec_len l.out + length rest ≡ vec_len l.initial.out + length (units_of l.text);
      room : vec_capacity l.initial.out ≤ vec_capacity l.out;
      ascii : list_all (λ unit. nat_lt unit 128) rest ≡ true;
    }
