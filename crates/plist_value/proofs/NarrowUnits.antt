-- Bytes are units that fit into one byte each.
use Rattle.std.proofs.Common.{◌≡◌, ℕ, suc, true, List, [], ◌∷◌, refl, lt-ltb}
use Rattle.plist_value.specs.Plist.{AreOctets}
use Rattle.plist_value.specs.Narrow.{are_narrow}

pub octets-narrow : (octets : List ℕ) → AreOctets octets → are_narrow octets ≡ true
octets-narrow [] h = refl
octets-narrow (x ∷ octets) h = rw (lt-ltb x 256 (h 0), octets-narrow octets (λ i. h (suc i))) refl
