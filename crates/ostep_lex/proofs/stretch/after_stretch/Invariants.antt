use Rattle.std.proofs.Common.{◌-◌, ◌≤◌, length, drop}
use Rattle.ostep_lex.specs.Stretch.{BeginsWithStretch}
use Rattle.ostep_lex.proofs.stretch.after_stretch.Given as goal

abbrev pub invariant-loop-count : goal.invariant-loop-count
invariant-loop-count l = record {
  within : l.count ≤ length l.octets;
  begins : BeginsWithStretch l.class l.octets (drop l.count l.octets);
}

abbrev pub decreases-loop-count : goal.decreases-loop-count
decreases-loop-count l = length l.octets - l.count
