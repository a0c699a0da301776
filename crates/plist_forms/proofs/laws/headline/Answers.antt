use Rattle.std.proofs.Common.{ap}
use Rattle.plist_write.specs.Canonical.{canon}
use Rattle.plist_forms.proofs.Accepting.{accepted_fits, accepted_valid}
use Rattle.plist_forms.proofs.laws.headline.Goals as goal

pub returns : goal.returns
returns c = λ a b v w first second.
    let valid = accepted_valid a v first in
    let fits = accepted_fits a v first in
    let accepted = c.canonical_is_accepted.ensures v valid fits in
    record {
      equal = c.canonical_tells_values_apart.ensures v w valid fits (accepted_valid b w second) (accepted_fits b w second);
      accepted = accepted.1;
      own = λ u again. ap canon (c.one_value.ensures (canon v) u v again accepted.1);
    }
