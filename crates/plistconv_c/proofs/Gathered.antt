-- The refusal of a call that gathers its output, from what the call that sends it ensures.
use Rattle.std.proofs.Common.{inl, inr, refl, Err, List, Ok, Option, Result, ℕ, length, ◌≡◌, ◌≤◌}
use Rattle.plist_forms.specs.Output.{IsOutputFault}
use Rattle.plist_forms.specs.Printed.{Prints}
use Rattle.plist_forms.specs.Refusals.{IsRefused}
use Rattle.plist_forms.specs.Sent.{answer_of}
use Rattle.plist_forms.specs.Transfer.{Writes}
use Rattle.plist_forms.specs.declared.faults.Fault.{Fault}
use Rattle.plist_forms.specs.declared.faults.Fault.TheVariants.{Binary, Text, NotInOpenStep, ReadFailed, WriteFailed, InputTooLarge, OutOfMemory}
use Rattle.plist_write.specs.declared.faults.WriteFault.{WriteFault}
use Rattle.plist_write.specs.declared.faults.WriteFault.TheVariants as write
use Rattle.plist_forms.specs.declared.forms.Form.TheVariants.{OpenStep}
use Rattle.plist_forms.specs.declared.loading.TheConstants.{MAX_INPUT}
use Rattle.plistconv_c.specs.Answers.{gathered_fault}
use Rattle.plistconv_c.specs.Inputs as input
use Rattle.plistconv_c.specs.Texts.{IsTextFault, no_text, unread}

no_memory : (octets : List ℕ) → IsRefused octets (OutOfMemory 0)
no_memory octets = record { stands = refl; none = λ other v accepted. other refl }

front_fault : (octets : List ℕ) (fault : Fault) (sent : Result ℕ WriteFault) → Err fault ≡ answer_of sent
    → IsRefused octets (gathered_fault fault)
front_fault octets fault (Ok n) is = absurd cc
front_fault octets fault (Err (write.WriteFailed n)) is =
    let same : fault ≡ WriteFailed n = cc in rw same (no_memory octets)
front_fault octets fault (Err (write.OutOfMemory n)) is =
    let same : fault ≡ OutOfMemory n = cc in rw same (no_memory octets)

refused_fault : (octets : List ℕ) (fault : Fault) → IsRefused octets fault → IsRefused octets (gathered_fault fault)
refused_fault octets (WriteFailed sent) refused = absurd refused.stands
refused_fault octets (OutOfMemory sent) refused = no_memory octets
refused_fault octets _ refused = refused

-- an incomplete print fails with this refusal
pub gathered_refused : (octets : List ℕ) (old new : Option (List ℕ)) (before after : ℕ) (fault : Fault)
    → Prints octets old new before after (Err fault) → IsRefused octets (gathered_fault fault)
gathered_refused octets old new before after fault (inl unsent) =
    let same : unsent.fault ≡ fault = (let is = unsent.is in cc) in
    refused_fault octets fault (rw same at unsent.cause)
gathered_refused octets old new before after fault (inr goes) = front_fault octets fault goes.sent goes.is

unsent_text : (octets : List ℕ) (fault : Fault) → length octets ≤ MAX_INPUT → IsOutputFault OpenStep octets fault
    → IsTextFault octets (gathered_fault fault)
unsent_text octets fault within (inl unfit) = unread (input.refused within (refused_fault octets fault unfit))
unsent_text octets fault within (inr none) = rw none.is
    (no_text none.value (record { within = within; accepted = none.accepted }) none.none refl)

-- an incomplete OpenStep text fails with this refusal
pub gathered_unwritten : (octets : List ℕ) (old new : Option (List ℕ)) (before after : ℕ) (fault : Fault)
    → length octets ≤ MAX_INPUT → Writes OpenStep octets old new before after (Err fault)
    → IsTextFault octets (gathered_fault fault)
gathered_unwritten octets old new before after fault within (inl unsent) =
    let same : unsent.fault ≡ fault = (let is = unsent.is in cc) in
    unsent_text octets fault within (rw same at unsent.cause)
gathered_unwritten octets old new before after fault within (inr goes) =
    unread (input.refused within (front_fault octets fault goes.sent goes.is))
