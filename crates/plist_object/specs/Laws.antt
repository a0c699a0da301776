-- Laws that hold of all files.
use Rattle.std.specs.Prelude.{◌≡◌, ℕ, List}
use Rattle.plist_value.specs.Plist.{Plist, IsPlist}
use Rattle.plist_object.specs.Layout.{trailer_of}
use Rattle.plist_object.specs.Spelled.{Spells}

-- no file encodes two values at its top object
abbrev pub OneValueAtTop : Type 0
OneValueAtTop =
    (f : List ℕ) (v w : Plist) → IsPlist v → IsPlist w → Spells f (trailer_of f).top v
    → Spells f (trailer_of f).top w → v ≡ w
