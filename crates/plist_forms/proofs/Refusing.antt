-- A reader's refusal as one of this crate.
use Rattle.std.proofs.Common.{◌≡◌, ◌≢◌, true, false, ap, refl, subst, sym, Err, IfErr, List, Ok, Result, ℕ}
use Rattle.std.specs.Result.{IsErrAnd}
use Rattle.plist_value.specs.Plist.{Plist}
use Rattle.plist_object.specs.Spelled.{IsBinary}
use Rattle.plist_binary.specs.Faults as of_binary
use Rattle.plist_binary.specs.declared.fault.BinaryFault.{BinaryFault}
use Rattle.plist_binary.specs.declared.fault.BinaryFault.TheVariants as binary
use Rattle.ostep_text.specs.Text.{IsNoText}
use Rattle.ostep_text.specs.Stands as of_text
use Rattle.ostep_text.specs.declared.fault.TextFault.{TextFault}
use Rattle.ostep_text.specs.declared.fault.TextFault.TheVariants as text
use Rattle.plist_forms.specs.Accepted.{IsAccepted, begins_as_binary}
use Rattle.plist_forms.specs.Fault.{code_of, fault_for, text_fault_for}
use Rattle.plist_forms.specs.Refusals.{FaultStands, IsRefused}
use Rattle.plist_forms.specs.declared.faults.Fault.{Fault}
use Rattle.plist_forms.proofs.Accepting.{accepted_binary, accepted_text}

text_stands : (octets : List ℕ) → begins_as_binary octets ≡ false → (fault : TextFault)
    → of_text.Stands octets fault → FaultStands octets (text_fault_for fault)
text_stands octets begins text.OutOfMemory stands = refl
text_stands octets begins fault stands = (begins, stands)

pub text_refused : (octets : List ℕ) → begins_as_binary octets ≡ false → (fault : TextFault)
    → of_text.Stands octets fault → (fault ≢ text.OutOfMemory → IsNoText octets)
    → IsRefused octets (text_fault_for fault)
text_refused octets begins fault stands none = record {
  stands = text_stands octets begins fault stands;
  none = λ other. go (λ e. other (ap (λ f. code_of (text_fault_for f)) e));
}
  where
    go : fault ≢ text.OutOfMemory → (v : Plist) → IsAccepted octets v → ⊥
    go other v accepted = none other v (accepted_text octets v begins accepted)

binary_stands : (octets : List ℕ) → begins_as_binary octets ≡ true → (fault : BinaryFault)
    → of_binary.Stands octets fault → FaultStands octets (fault_for fault)
binary_stands octets begins binary.OutOfMemory stands = refl
binary_stands octets begins fault stands = (begins, stands)

pub binary_refused : (octets : List ℕ) → begins_as_binary octets ≡ true → (fault : BinaryFault)
    → of_binary.Stands octets fault → (fault ≢ binary.OutOfMemory → (v : Plist) → IsBinary octets v → ⊥)
    → IsRefused octets (fault_for fault)
binary_refused octets begins fault stands none = record {
  stands = binary_stands octets begins fault stands;
  none = λ other. go (λ e. other (ap (λ f. code_of (fault_for f)) e));
}
  where
    go : fault ≢ binary.OutOfMemory → (v : Plist) → IsAccepted octets v → ⊥
    go other v accepted = none other v (accepted_binary octets v begins accepted)

-- a call that fails with this refusal
pub failed_as : {A : Type 0} (Cause : Fault → Type 0) (refusal : Fault) (result : Result A Fault)
    → IsErrAnd result (λ fault. fault ≡ refusal) → Cause refusal → IfErr result Cause
failed_as Cause refusal (Ok value) is cause = tt
failed_as Cause refusal (Err fault) is cause = subst Cause (sym is) cause

pub refused_as : {A : Type 0} (octets : List ℕ) (refusal : Fault) (result : Result A Fault)
    → IsErrAnd result (λ fault. fault ≡ refusal) → IsRefused octets refusal → IfErr result (IsRefused octets)
refused_as octets refusal result is refused = failed_as (IsRefused octets) refusal result is refused
