use Rattle.std.proofs.Common.{◌≡◌, ◌+◌, ◌-◌, ◌*◌, ◌^◌, drop}
use Rattle.plist_value.specs.Texts.{units_of}
use Rattle.plist_keys.specs.Prefixes.{digits_of}
use Rattle.plist_keys.proofs.prefixes.wide_prefix.Given as goal

-- the digits so far, and those that are left, are the sort prefix
abbrev pub invariant-loop-read : goal.invariant-loop-read
invariant-loop-read l =
    l.prefix * 65536 ^ (4 - l.read) + digits_of 65535 (4 - l.read) (drop l.index (units_of l.text)) ≡ digits_of 65535 4 (drop l.front (units_of l.text))
