-- What is refused, and what a refusal says of the input.
use Rattle.std.specs.Prelude.{◌≡◌, ◌≢◌, true, false, ℕ, List}
use Rattle.plist_value.specs.Plist.{Plist}
use Rattle.plist_binary.specs.Faults as of_binary
use Rattle.plist_binary.specs.declared.fault.BinaryFault.TheVariants as binary
use Rattle.ostep_text.specs.Stands as of_text
use Rattle.ostep_text.specs.declared.fault.TextFault.TheVariants as text
use Rattle.plist_forms.specs.Accepted.{IsAccepted, begins_as_binary}
use Rattle.plist_forms.specs.Fault.{code_of}
use Rattle.plist_forms.specs.declared.faults.Fault.{Fault}
use Rattle.plist_forms.specs.declared.faults.Fault.TheVariants.{Binary, Text, NotInOpenStep}
use Rattle.plist_forms.specs.declared.faults.Fault.TheVariants.{ReadFailed, WriteFailed}
use Rattle.plist_forms.specs.declared.faults.Fault.TheVariants.{InputTooLarge, OutOfMemory}

-- The fault is true of the input, at its place, and belongs to the form that it is read as. Out of
-- memory says nothing of the input. It has its own name, not a reader's, and occurs before anything
-- is sent.
abbrev pub FaultStands : List ℕ → Fault → Type 0
FaultStands octets (Binary binary.OutOfMemory) = ⊥
FaultStands octets (Binary fault) = (begins_as_binary octets ≡ true) × of_binary.Stands octets fault
FaultStands octets (Text text.OutOfMemory) = ⊥
FaultStands octets (Text fault) = (begins_as_binary octets ≡ false) × of_text.Stands octets fault
FaultStands octets (OutOfMemory sent) = sent ≡ 0
FaultStands octets NotInOpenStep = ⊥
FaultStands octets ReadFailed = ⊥
FaultStands octets (WriteFailed sent) = ⊥
FaultStands octets InputTooLarge = ⊥

-- The refusal is true, and unless it is out of memory, the input encodes no value.
pub record IsRefused (octets : List ℕ) (fault : Fault) : Type 0 where
  pub stands : FaultStands octets fault
  pub none : code_of fault ≢ 60 → (v : Plist) → IsAccepted octets v → ⊥
