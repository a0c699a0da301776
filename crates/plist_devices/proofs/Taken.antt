-- What one more take adds to the bytes taken so far.
use Rattle.std.proofs.Common.{◌≡◌, ℕ, ◌+◌, List, ◌++◌, length, take, Option, Ok, arith}
use Rattle.std.proofs.lemmas.List.{length-append}
use Rattle.std.proofs.KnownBytes.{Consumes-trans}
use Rattle.std.specs.Io.KnownBytes.{Consumes}
use Rattle.plist_devices.specs.Source.{IsTake}

-- the bytes taken so far, followed by those of the next take, are the first bytes of the input, and
-- their number is the sum of both
pub taken-more : {E : Type 0} (first middle last : Option (List ℕ)) (before after given : ℕ) (octets buffer : List ℕ)
    → Consumes first middle octets → IsTake {E = E} middle last before after (Ok given) buffer
    → Consumes first last (octets ++ take given buffer) × (length (octets ++ take given buffer) ≡ length octets + given)
taken-more first middle last before after given octets buffer taken step =
    (Consumes-trans first middle last octets (take given buffer) taken step.octets.0, simp length-append (omega (arith, step.within.1)))
