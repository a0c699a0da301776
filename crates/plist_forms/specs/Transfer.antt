-- Transferring a property list from a source to a sink.
use Rattle.std.specs.Prelude.{◌≡◌, ◌⊎◌, ℕ, ◌≤◌, List, length, Option, Result, IfSome}
use Rattle.std.specs.Io.KnownBytes.{IsAtEnd}
use Rattle.plist_write.specs.Sending.{IsWritten}
use Rattle.plist_write.specs.declared.faults.WriteFault.{WriteFault}
use Rattle.plist_forms.specs.Load.{IsLoadFault}
use Rattle.plist_forms.specs.Sent.{IsUnsent, answer_of}
use Rattle.plist_forms.specs.declared.faults.Fault.{Fault}
use Rattle.plist_forms.specs.declared.forms.Form.{Form}
use Rattle.plist_forms.specs.declared.loading.TheConstants.{MAX_INPUT}
use Rattle.plist_forms.specs.Output.{IsOutput, IsOutputFault}

-- The output for the input is sent: all of it, or exactly a prefix, if the sink failed or memory
-- ran out.
pub record IsSent (form : Form) (octets : List ℕ) (old new : Option (List ℕ)) (before after : ℕ)
    (result : Result ℕ Fault) : Type 0 where
  pub output : List ℕ
  pub of : IsOutput form octets output
  pub sent : Result ℕ WriteFault
  pub is : result ≡ answer_of sent
  pub written : IsWritten output old new before after sent

-- the outcome of writing the value of loaded bytes
abbrev pub Writes : Form → List ℕ → Option (List ℕ) → Option (List ℕ) → ℕ → ℕ → Result ℕ Fault
    → Type 0
Writes form octets old new before after result =
    IsUnsent (IsOutputFault form octets) old new before after result
    ⊎ IsSent form octets old new before after result

-- The bytes are all that the source had to give, and within the maximum.
pub record IsInput (to_come rest : Option (List ℕ)) (octets : List ℕ) : Type 0 where
  pub whole : IfSome to_come (λ all. octets ≡ all)
  pub end : IsAtEnd rest
  pub within : length octets ≤ MAX_INPUT

-- Loading failed and nothing was sent, or the bytes were loaded and their value was written or
-- refused.
abbrev pub IsTransfer : Form → Option (List ℕ) → Option (List ℕ) → Option (List ℕ) → Option (List ℕ)
    → ℕ → ℕ → Result ℕ Fault → Type 0
IsTransfer form to_come rest old new before after result =
    IsUnsent IsLoadFault old new before after result
    ⊎ ((octets : List ℕ) × IsInput to_come rest octets
    × Writes form octets old new before after result)
