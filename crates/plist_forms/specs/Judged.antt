-- The binary file of an input: the input itself, or the draft of a text.
use Rattle.std.specs.Prelude.{◌≡◌, Bool, true, false, ℕ, List}
use Rattle.plist_value.specs.Plist.{Plist}
use Rattle.plist_value.specs.Writable.{is_writable}
use Rattle.plist_object.specs.Spelled.{IsBinary}
use Rattle.ostep_text.specs.Text.{IsText}
use Rattle.plist_forms.specs.Accepted.{IsAccepted, begins_as_binary}
use Rattle.plist_forms.specs.declared.judged.Binary.{Binary}
use Rattle.plist_forms.specs.declared.judged.Binary.TheVariants.{Input, Draft}

-- the bytes of the binary file; `items` gives those of an input
abbrev pub octets_in : {I : Type 0} → (I → List ℕ) → Binary I → List ℕ
octets_in items (Input input) = items input
octets_in items (Draft draft) = draft.items

-- The binary file is the input, which begins with `bplist`. Or the input is a text, and the file
-- encodes its value.
abbrev pub IsReadFrom : {I : Type 0} → (I → List ℕ) → List ℕ → Binary I → Type 0
IsReadFrom items octets (Input input) = (begins_as_binary octets ≡ true) × (items input ≡ octets)
IsReadFrom items octets (Draft draft) =
    (begins_as_binary octets ≡ false)
    × ((v : Plist) × (IsText octets v × IsBinary draft.items v))

-- the file encodes the value of the input, and `writable` tells whether that has a text
pub record Encodes (input file : List ℕ) (writable : Bool) : Type 0 where
  pub value : Plist
  pub accepted : IsAccepted input value
  pub binary : IsBinary file value
  pub told : (v : Plist) → IsBinary file v → is_writable v ≡ writable
