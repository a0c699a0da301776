use Rattle.plist_write.proofs.Binary.{canon-length}
use Rattle.plist_write.proofs.laws.canonical_is_short.Goals as goal

pub returns : goal.returns
returns c = canon-length
