use Rattle.std.proofs.Common.{◌≡◌, ◌+◌, ◌*◌, ◌≤◌, ◌++◌, drop, length, vec_len, vec_capacity}
use Rattle.std.specs.Prelude.{flat_map}
use Rattle.plist_value.specs.Digits.{two_digits}
use Rattle.plist_value.proofs.hexadecimal.push_digits.Given as goal

abbrev pub invariant-loop-octet : goal.invariant-loop-octet
invariant-loop-octet l =
    let rest = drop l.octet-index l.octets in
    record {
      items : l.out.items ++ flat_map two_digits rest ≡ l.initial.out.items ++ flat_map two_digits l.octets;
      len : vec_len l.out + 2 * length rest ≡ vec_len l.initial.out + 2 * length l.octets;
      room : vec_capacity l.initial.out ≤ vec_capacity l.out;
    }
