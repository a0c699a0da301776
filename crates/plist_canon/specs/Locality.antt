-- Canonicity is local: it follows from rules about the parts of a file.
use Rattle.std.specs.Prelude.{◌≡◌, ◌↔◌, ℕ, List}
use Rattle.plist_value.specs.Plist.{Plist, AreOctets, IsPlist}
use Rattle.plist_value.specs.Limits.{Fits}
use Rattle.plist_object.specs.Layout.{IsLaid}
use Rattle.plist_write.specs.Canonical.{canon}
use Rattle.plist_canon.specs.Rules.{FollowsRules}

-- the bytes are the canonical file of a value within the limits
pub record IsCanonical (f : List ℕ) : Type 0 where
  pub value : Plist
  pub valid : IsPlist value
  pub fits : Fits value
  pub spelled : canon value ≡ f

-- bytes have the layout and follow the eight rules if and only if they are a canonical file
abbrev pub CanonicityIsLocal : Type 0
CanonicityIsLocal = (f : List ℕ) → AreOctets f → (IsLaid f × FollowsRules f) ↔ IsCanonical f
