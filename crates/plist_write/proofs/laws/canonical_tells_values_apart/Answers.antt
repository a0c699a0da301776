use Rattle.std.proofs.Common.{ap}
use Rattle.plist_write.specs.Canonical.{canon}
use Rattle.plist_write.proofs.Binary.{canon-injective}
use Rattle.plist_write.proofs.laws.canonical_tells_values_apart.Goals as goal

pub returns : goal.returns
returns c = λ v w v_valid v_fits w_valid w_fits. (canon-injective v w v_valid v_fits w_valid w_fits, ap canon)
