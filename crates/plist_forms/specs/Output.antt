-- The output for an input: its value in one of the forms.
use Rattle.std.specs.Prelude.{◌≡◌, ◌⊎◌, ℕ, List, None, Option, Some}
use Rattle.plist_value.specs.Plist.{Plist}
use Rattle.plist_write.specs.Canonical.{canon}
use Rattle.ostep_text.specs.Written.{text_of}
use Rattle.plist_forms.specs.Accepted.{IsAccepted}
use Rattle.plist_forms.specs.Refusals.{IsRefused}
use Rattle.plist_forms.specs.declared.faults.Fault.{Fault}
use Rattle.plist_forms.specs.declared.faults.Fault.TheVariants.{NotInOpenStep}
use Rattle.plist_forms.specs.declared.forms.Form.{Form}
use Rattle.plist_forms.specs.declared.forms.Form.TheVariants.{Binary1, OpenStep}

-- the output for a value: its canonical file, or its OpenStep text if it has one
abbrev pub output_of : Form → Plist → Option (List ℕ)
output_of Binary1 v = Some (canon v)
output_of OpenStep v = text_of v

-- the input encodes a value, and this is the output for it
pub record IsOutput (form : Form) (octets output : List ℕ) : Type 0 where
  pub value : Plist
  pub accepted : IsAccepted octets value
  pub written : output_of form value ≡ Some output

-- the input encodes a value without an output
pub record HasNoOutput (form : Form) (octets : List ℕ) (fault : Fault) : Type 0 where
  pub value : Plist
  pub accepted : IsAccepted octets value
  pub none : output_of form value ≡ None
  pub is : fault ≡ NotInOpenStep

-- why there is no output: the input is refused, or its value cannot be written
abbrev pub IsOutputFault : Form → List ℕ → Fault → Type 0
IsOutputFault form octets fault = IsRefused octets fault ⊎ HasNoOutput form octets fault
