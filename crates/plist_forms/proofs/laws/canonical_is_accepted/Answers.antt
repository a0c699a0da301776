use Rattle.plist_write.specs.Canonical.{canon}
use Rattle.plist_forms.proofs.Accepting.{as_binary, canon_begins}
use Rattle.plist_forms.proofs.laws.canonical_is_accepted.Goals as goal

pub returns : goal.returns
returns c = λ v valid fits. (canon_begins v, as_binary (canon v) v (canon_begins v) (c.canonical_spells_its_value.ensures v valid fits))
