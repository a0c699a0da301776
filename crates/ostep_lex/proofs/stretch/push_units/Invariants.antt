use Rattle.std.proofs.Common.{◌≡◌, ◌+◌, ◌≤◌, ◌++◌, length, vec_len, vec_capacity}
use Rattle.ostep_lex.specs.Remaining.{units_in}
use Rattle.ostep_lex.proofs.stretch.push_units.Given as goal

abbrev pub invariant-loop-unit : goal.invariant-loop-unit
invariant-loop-unit l = record {
  items : l.units.items ++ units_in l.order l.rest ≡ l.fn.units.items ++ units_in l.order l.octets;
  room : vec_len l.units + length (units_in l.order l.rest) ≤ vec_capacity l.units;
}

abbrev pub decreases-loop-unit : goal.decreases-loop-unit
decreases-loop-unit l = length l.rest
