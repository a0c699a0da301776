use Rattle.std.proofs.Common.{◌++◌, take, arith, refl, rules}
use Rattle.plist_devices.proofs.Taken.{taken-more}
use Rattle.plist_forms.specs.Load.{octets_taken}
use Rattle.plist_forms.proofs.loading.load_unless.Goals as goal

pub returns-then-len-given-gt-MAX_INPUT-clause-loads :
    goal.returns-then-len-given-gt-MAX_INPUT-clause-loads
returns-then-len-given-gt-MAX_INPUT-clause-loads g c =
    let more = taken-more _ _ _ _ _ _ _ _ c.takes.invariant.taken c.in_ok-given.ensures.take in
    let long = c.len.ensures c.args.known.now c.takes.invariant.beside in
    record {
      failed = search rules;
      at_once = search rules;
      kept = search rules;
      too_large = (
        octets_taken c.args.known.now c.takes.taken ++ take c.in_ok-given.given c.take.new.into,
        more.0,
        (λ _. omega (arith, more.1, long), λ _. refl),
      );
    }

pub returns-in_err-taken-clause-loads : goal.returns-in_err-taken-clause-loads
returns-in_err-taken-clause-loads g c =
    let more = taken-more _ _ _ _ _ _ _ _ c.takes.invariant.taken c.in_ok-given.ensures.take in
    let long = c.len.ensures c.args.known.now c.takes.invariant.beside in
    record {
      failed = search rules;
      at_once = search rules;
      kept = search rules;
      too_large = (
        octets_taken c.args.known.now c.takes.taken ++ take c.in_ok-given.given c.take.new.into,
        more.0,
        (
          λ same. let other = rw same at c.from_residual-in_err-taken.ensures.1 in absurd cc,
          λ large. absurd (omega (arith, more.1, long)),
        ),
      );
    }
