-- Laws that hold of all canonical files.
use Rattle.std.specs.Prelude.{◌≡◌, ◌↔◌, ◌+◌, ◌*◌, ◌≤◌, length}
use Rattle.plist_value.specs.Plist.{Plist, IsPlist}
use Rattle.plist_value.specs.Limits.{nodes, payload, Fits}
use Rattle.plist_object.specs.Spelled.{IsBinary}
use Rattle.plist_write.specs.Canonical.{canon}

-- the canonical file of a value within the limits is a binary file of the value
abbrev pub CanonSpellsItsValue : Type 0
CanonSpellsItsValue = (v : Plist) → IsPlist v → Fits v → IsBinary (canon v) v

-- two values within the limits are equal if and only if their canonical files are
abbrev pub CanonTellsValuesApart : Type 0
CanonTellsValuesApart = (v w : Plist) → IsPlist v → Fits v → IsPlist w → Fits w
    → (canon v ≡ canon w) ↔ (v ≡ w)

-- a canonical file is not much longer than the payload of its value
abbrev pub CanonIsShort : Type 0
CanonIsShort = (v : Plist) → IsPlist v → Fits v → length (canon v) ≤ 40 + payload v + 25 * nodes v
