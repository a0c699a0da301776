use Rattle.std.proofs.Common.{◌≡◌, ◌+◌, ◌-◌, ◌*◌, ◌^◌, drop}
use Rattle.plist_keys.specs.Prefixes.{digits_of}
use Rattle.plist_keys.proofs.prefixes.octets_prefix.Given as goal

-- the bytes so far, and those that are left, are the sort prefix
abbrev pub invariant-loop-i : goal.invariant-loop-i
invariant-loop-i l =
    l.prefix * 256 ^ (8 - l.i) + digits_of 255 (8 - l.i) (drop (l.front + l.i) l.octets) ≡ digits_of 255 8 (drop l.front l.octets)
