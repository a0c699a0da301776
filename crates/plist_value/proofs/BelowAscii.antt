-- ASCII bytes.
use Rattle.std.proofs.Common.{◌≡◌, ℕ, suc, nat_lt, true, List, [], ◌∷◌, IsAscii, refl, lt-ltb}
use Rattle.std.specs.List.{list_all}

-- each ASCII byte is below 128
pub all-ascii : (octets : List ℕ) → IsAscii octets → list_all (λ octet. nat_lt octet 128) octets ≡ true
all-ascii [] h = refl
all-ascii (x ∷ octets) h = rw (lt-ltb x 128 (h 0), all-ascii octets (λ i. h (suc i))) refl
