-- What is printed for an input: the printed text of its value.
use Rattle.std.specs.Prelude.{◌≡◌, ◌⊎◌, ℕ, List, Option, Result}
use Rattle.plist_value.specs.Plist.{Plist}
use Rattle.plist_write.specs.Sending.{IsWritten}
use Rattle.plist_write.specs.declared.faults.WriteFault.{WriteFault}
use Rattle.plist_print.specs.Printed.{printed}
use Rattle.plist_forms.specs.Accepted.{IsAccepted}
use Rattle.plist_forms.specs.Refusals.{IsRefused}
use Rattle.plist_forms.specs.Sent.{IsUnsent, answer_of}
use Rattle.plist_forms.specs.declared.faults.Fault.{Fault}

-- the input encodes a value, and this is its printed text
pub record IsPrintOf (octets text : List ℕ) : Type 0 where
  pub value : Plist
  pub accepted : IsAccepted octets value
  pub is : text ≡ printed value

-- The printed text is sent: all of it, or exactly a prefix, if the sink failed or memory ran out.
pub record IsPrinted (octets : List ℕ) (old new : Option (List ℕ)) (before after : ℕ)
    (result : Result ℕ Fault) : Type 0 where
  pub text : List ℕ
  pub of : IsPrintOf octets text
  pub sent : Result ℕ WriteFault
  pub is : result ≡ answer_of sent
  pub written : IsWritten text old new before after sent

-- the outcome of printing: the input is refused and nothing is sent, or its text is sent
abbrev pub Prints : List ℕ → Option (List ℕ) → Option (List ℕ) → ℕ → ℕ → Result ℕ Fault → Type 0
Prints octets old new before after result =
    IsUnsent (IsRefused octets) old new before after result
    ⊎ IsPrinted octets old new before after result
