-- Why there is no text of an input.
use Rattle.std.specs.Prelude.{◌≡◌, ℕ, List, None}
use Rattle.plist_value.specs.Plist.{Plist}
use Rattle.ostep_text.specs.Written.{text_of}
use Rattle.plist_forms.specs.declared.faults.Fault.{Fault}
use Rattle.plist_forms.specs.declared.faults.Fault.TheVariants.{NotInOpenStep}
use Rattle.plistconv_c.specs.Inputs.{IsInputAccepted, IsInputRefused}

-- why there is no text: the input is refused, or encodes a value that has none
pub data IsTextFault (octets : List ℕ) (fault : Fault) : Type 0 where
  unread : IsInputRefused octets fault → IsTextFault octets fault
  no_text : (v : Plist) → IsInputAccepted octets v → text_of v ≡ None → fault ≡ NotInOpenStep
      → IsTextFault octets fault
