-- Which inputs are accepted as a property list, and as which value.
use Rattle.std.specs.Prelude.{◌≡◌, Bool, List, ℕ, nat_eq, codes}
use Rattle.std.specs.Bool.{MatchBool}
use Rattle.std.specs.List.{starts_with}
use Rattle.plist_value.specs.Plist.{Plist}
use Rattle.plist_object.specs.Spelled.{IsBinary}
use Rattle.plist_write.specs.Canonical.{canon}
use Rattle.ostep_text.specs.Text.{IsText}

-- the bytes begin like a binary file of any version
abbrev pub begins_as_binary : List ℕ → Bool
begins_as_binary octets = starts_with nat_eq octets (codes "bplist")

-- The input is accepted and encodes the value: as a binary file if it begins with `bplist`, else as
-- a text.
abbrev pub IsAccepted : List ℕ → Plist → Type 0
IsAccepted octets v = MatchBool (begins_as_binary octets) (IsBinary octets v) (IsText octets v)

-- the bytes are the canonical file of the value that the source encodes
pub record IsCanonicalOf (source octets : List ℕ) : Type 0 where
  pub value : Plist
  pub accepted : IsAccepted source value
  pub canonical : octets ≡ canon value
