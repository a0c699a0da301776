use Rattle.plist_write.proofs.Binary.{canon-binary}
use Rattle.plist_write.proofs.laws.canonical_spells_its_value.Goals as goal

pub returns : goal.returns
returns c = canon-binary
