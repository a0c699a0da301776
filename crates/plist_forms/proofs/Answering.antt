-- The result of a call that sends bytes to a sink, step by step.
use Rattle.std.proofs.Common.{◌≡◌, ◌++◌, ap, codes, inr, refl, subst, true, Err, List, Ok, Option, Result, ℕ}
use Rattle.std.specs.Result.{IfErr, IsErrAnd}
use Rattle.plist_value.specs.Plist.{Plist}
use Rattle.plist_write.specs.Canonical.{canon}
use Rattle.plist_write.specs.Sending.{IsWritten}
use Rattle.plist_write.specs.declared.faults.WriteFault.{WriteFault}
use Rattle.plist_write.specs.declared.faults.WriteFault.TheVariants as write
use Rattle.plist_print.specs.Printed.{printed}
use Rattle.plist_value.specs.Writable.{is_writable}
use Rattle.ostep_text.specs.Written.{written}
use Rattle.plist_forms.specs.Accepted.{IsAccepted}
use Rattle.plist_forms.specs.Fault.{write_fault_for}
use Rattle.plist_forms.specs.Printed.{Prints}
use Rattle.plist_forms.specs.Sent.{IsBeforePut, IsUnsent, answer_of}
use Rattle.plist_forms.specs.Transfer.{Writes}
use Rattle.plist_forms.specs.declared.faults.Fault.{Fault}
use Rattle.plist_forms.specs.declared.forms.Form.TheVariants.{Binary1, OpenStep}

-- an error before the first put
pub unsent : (Cause : Fault → Type 0) (old : Option (List ℕ)) (before : ℕ) (fault : Fault) (result : Result ℕ Fault)
    → IsErrAnd result (λ f. f ≡ fault) → Cause fault → IsUnsent Cause old old before before result
unsent Cause old before fault (Ok n) is cause = absurd is
unsent Cause old before fault (Err f) is cause =
    record { fault = fault; is = ap Err is; cause = cause; nothing = refl; unfailed = refl }

-- nothing was put
pub untouched : (Untouched : Type 0) (result : Result ℕ Fault) → Untouched → IfErr result (λ f. IsBeforePut f → Untouched)
untouched Untouched (Ok n) same = tt
untouched Untouched (Err f) same = λ _. same

-- an error of sending does not come before the first put
pub after_put : (Untouched : Type 0) (fault : WriteFault) (result : Result ℕ Fault)
    → IsErrAnd result (λ f. f ≡ write_fault_for fault) → IfErr result (λ f. IsBeforePut f → Untouched)
after_put Untouched fault (Ok n) is = absurd is
after_put Untouched (write.WriteFailed sent) (Err f) is = λ early. absurd (subst IsBeforePut is early)
after_put Untouched (write.OutOfMemory sent) (Err f) is = λ early. absurd (subst IsBeforePut is early)

-- the result of a call that failed while sending
pub failed_answer : (fault : WriteFault) (result : Result ℕ Fault) → IsErrAnd result (λ f. f ≡ write_fault_for fault)
    → result ≡ answer_of (Err fault)
failed_answer fault (Ok n) is = absurd is
failed_answer fault (Err f) is = ap Err is

-- the printed text of an accepted input is sent
pub text_sent : (octets : List ℕ) (v : Plist) → IsAccepted octets v → (old new : Option (List ℕ)) (before after : ℕ)
    (sent : Result ℕ WriteFault) (result : Result ℕ Fault) → result ≡ answer_of sent
    → IsWritten (printed v) old new before after sent → Prints octets old new before after result
text_sent octets v accepted old new before after sent result is written = inr (record {
  text = printed v;
  of = record { value = v; accepted = accepted; is = refl };
  sent = sent;
  is = is;
  written = written;
})

-- the canonical file of an accepted input is sent
pub file_sent : (octets : List ℕ) (v : Plist) → IsAccepted octets v → (old new : Option (List ℕ)) (before after : ℕ)
    (sent : Result ℕ WriteFault) (result : Result ℕ Fault) → result ≡ answer_of sent
    → IsWritten (canon v) old new before after sent → Writes Binary1 octets old new before after result
file_sent octets v accepted old new before after sent result is written = inr (record {
  output = canon v;
  of = record { value = v; accepted = accepted; written = refl };
  sent = sent;
  is = is;
  written = written;
})

-- the OpenStep text of an accepted input is sent
pub openstep_sent : (octets : List ℕ) (v : Plist) → IsAccepted octets v → is_writable v ≡ true → (old new : Option (List ℕ)) (before after : ℕ)
    (sent : Result ℕ WriteFault) (result : Result ℕ Fault) → result ≡ answer_of sent
    → IsWritten (written v ++ codes "\n") old new before after sent → Writes OpenStep octets old new before after result
openstep_sent octets v accepted writable old new before after sent result is whole = inr (record {
  output = written v ++ codes "\n";
  of = record { value = v; accepted = accepted; written = rw writable refl };
  sent = sent;
  is = is;
  written = whole;
})
