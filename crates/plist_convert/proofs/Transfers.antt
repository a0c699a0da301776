-- Derives a run without arguments from the contract of a transfer.
use Rattle.std.proofs.Common.{inl, inr, refl, sym, Err, List, None, Ok, Option, Result, Some, ℕ, ◌∙◌, ◌≡◌}
use Rattle.plist_forms.specs.Accepted.{IsCanonicalOf}
use Rattle.plist_forms.specs.Fault.{write_fault_for}
use Rattle.plist_forms.specs.Load.{IsLoadFault, Loads}
use Rattle.plist_forms.specs.Refusals.{IsRefused}
use Rattle.plist_forms.specs.declared.faults.Fault.{Fault}
use Rattle.plist_forms.specs.declared.faults.Fault.TheVariants.{InputTooLarge, OutOfMemory, ReadFailed}
use Rattle.plist_forms.specs.declared.forms.Form.TheVariants.{Binary1}
use Rattle.plist_write.specs.Canonical.{canon}
use Rattle.plist_write.specs.declared.faults.WriteFault.{WriteFault}
use Rattle.plist_write.specs.declared.faults.WriteFault.TheVariants as write
use Rattle.plist_forms.specs.Output.{IsOutput, IsOutputFault}
use Rattle.plist_forms.specs.Sent.{answer_of}
use Rattle.plist_forms.specs.Transfer.{IsInput, IsTransfer, Writes}
use Rattle.plist_convert.specs.Answer.{refusal}
use Rattle.plist_convert.specs.Ending.{Ends}
use Rattle.plist_convert.specs.Runs.{IsFilterRun, IsInputFault, IsUntaken, standard}
use Rattle.plist_convert.specs.State.{Input, State}
use Rattle.plist_convert.proofs.Conversions.{sent_front, sent_whole}

-- what loading the input does to it
abbrev pub LoadsInput : Input → Input → Result ℕ Fault → Type 0
LoadsInput input rest result = Loads input.to_come rest.to_come input.failures rest.failures result

-- the output in this form is the canonical file
canonical_output : (octets output : List ℕ) → IsOutput Binary1 octets output → IsCanonicalOf octets output
canonical_output octets output of = record {
  value = of.value;
  accepted = of.accepted;
  canonical = (let written : Some (canon of.value) ≡ Some output = of.written in cc);
}

-- all of it was sent
writes_sent : (input rest : Input) (before after : State) (n : ℕ) (octets : List ℕ) → IsInput input.to_come rest.to_come octets
    → rest.failures ≡ input.failures
    → Writes Binary1 octets before.printed after.printed before.print_failures after.print_failures (Ok n)
    → IsFilterRun input rest before after 0
unfolding IsFilterRun
writes_sent input rest before after n octets taken unfailed (inl unsent) = absurd (let is = unsent.is in cc)
writes_sent input rest before after n octets taken unfailed (inr goes) = inr (record {
  octets = octets;
  taken = record { all = taken; unfailed = unfailed };
  file = goes.output;
  canonical = canonical_output octets goes.output goes.of;
  sends = record {
    sent = goes.sent;
    printed = after.printed;
    failures = after.print_failures;
    written = goes.written;
    ends = sent_whole (refusal standard) goes.sent n after.printed after.print_failures goes.is;
  };
})

pub filter_sent : (input rest : Input) (before after : State) (n : ℕ)
    → IsTransfer Binary1 input.to_come rest.to_come before.printed after.printed before.print_failures after.print_failures (Ok n)
    → LoadsInput input rest (Ok n)
    → IsFilterRun input rest before after 0
filter_sent input rest before after n (inl unsent) loads = absurd (let is = unsent.is in cc)
filter_sent input rest before after n (inr goes) loads =
    writes_sent input rest before after n goes.0 goes.1 (loads.kept (λ e. cc)) goes.2

-- a fault before anything is sent
unfiltered : (input rest : Input) (before after : State) (status : ℕ) (printed : Option (List ℕ)) (failures : ℕ) (fault : Fault)
    → IsInputFault input rest fault → printed ≡ before.printed → failures ≡ before.print_failures
    → Ends printed after.printed failures after.print_failures (refusal standard fault) status
    → IsFilterRun input rest before after status
unfolding IsFilterRun
unfiltered input rest before after status printed failures fault cause nothing unfailed ends = inl (record {
  fault = fault;
  cause = cause;
  ends = rw (← nothing, ← unfailed) ends;
})

-- every value has a canonical file, so only the bytes can be at fault
output_fault : (octets : List ℕ) (fault : Fault) → IsOutputFault Binary1 octets fault → IsRefused octets fault
output_fault octets fault (inl refused) = refused
output_fault octets fault (inr none) = absurd (let is : Some (canon none.value) ≡ None = none.none in cc)

-- a refusal of the bytes is no failure of the source
not_read : (octets : List ℕ) (fault : Fault) → IsRefused octets fault → fault ≡ ReadFailed → ⊥
not_read octets fault refused is = absurd (let stands = rw is at refused.stands in stands)

not_read_sent : (fault : WriteFault) → write_fault_for fault ≡ ReadFailed → ⊥
not_read_sent (write.WriteFailed n) is = absurd cc
not_read_sent (write.OutOfMemory n) is = absurd cc

not_read_answer : (sent : Result ℕ WriteFault) (fault : Fault) → Err fault ≡ answer_of sent → fault ≡ ReadFailed → ⊥
not_read_answer (Ok n) fault is read = absurd cc
not_read_answer (Err f) fault is read = not_read_sent f (let same : fault ≡ write_fault_for f = cc in sym same ∙ read)

untaken : (input rest : Input) (fault : Fault) → IsLoadFault fault → LoadsInput input rest (Err fault) → IsUntaken input rest fault
untaken input rest ReadFailed cause loaded = loaded.at_once refl
untaken input rest InputTooLarge cause loaded =
    let took = loaded.too_large in
    ((took.0, took.1, took.2.0 refl), loaded.kept (λ e. absurd cc))
untaken input rest (OutOfMemory sent) cause loaded = (cause, loaded.kept (λ e. absurd cc))
untaken input rest _ cause loaded = absurd cause

writes_refused : (input rest : Input) (before after : State) (status : ℕ) (printed : Option (List ℕ)) (failures : ℕ) (fault : Fault)
    (octets : List ℕ) → IsInput input.to_come rest.to_come octets → LoadsInput input rest (Err fault)
    → Writes Binary1 octets before.printed printed before.print_failures failures (Err fault)
    → Ends printed after.printed failures after.print_failures (refusal standard fault) status
    → IsFilterRun input rest before after status
unfolding IsFilterRun
writes_refused input rest before after status printed failures fault octets taken loaded (inl unsent) ends =
    let same : unsent.fault ≡ fault = (let is = unsent.is in cc) in
    let refused : IsRefused octets fault = output_fault octets fault (rw same at unsent.cause) in
    let unfailed : rest.failures ≡ input.failures = loaded.kept (λ e. not_read octets fault refused (let is = e in cc)) in
    unfiltered input rest before after status printed failures fault
    (inr (octets, record { all = taken; unfailed = unfailed }, refused)) unsent.nothing unsent.unfailed ends
writes_refused input rest before after status printed failures fault octets taken loaded (inr goes) ends =
    let unfailed : rest.failures ≡ input.failures = loaded.kept (λ e. not_read_answer goes.sent fault goes.is (let is = e in cc)) in
    inr (record {
      octets = octets;
      taken = record { all = taken; unfailed = unfailed };
      file = goes.output;
      canonical = canonical_output octets goes.output goes.of;
      sends = record {
        sent = goes.sent;
        printed = printed;
        failures = failures;
        written = goes.written;
        ends = sent_front (refusal standard) goes.sent fault printed after.printed failures after.print_failures status goes.is ends;
      };
    })

pub filter_refused : (input rest : Input) (before after : State) (status : ℕ) (printed : Option (List ℕ)) (failures : ℕ) (fault : Fault)
    → IsTransfer Binary1 input.to_come rest.to_come before.printed printed before.print_failures failures (Err fault)
    → LoadsInput input rest (Err fault) → Ends printed after.printed failures after.print_failures (refusal standard fault) status
    → IsFilterRun input rest before after status
filter_refused input rest before after status printed failures fault (inl unsent) loaded ends =
    let same : unsent.fault ≡ fault = (let is = unsent.is in cc) in
    unfiltered input rest before after status printed failures fault
    (inl (untaken input rest fault (rw same at unsent.cause) loaded)) unsent.nothing unsent.unfailed ends
filter_refused input rest before after status printed failures fault (inr goes) loaded ends =
    writes_refused input rest before after status printed failures fault goes.0 goes.1 loaded goes.2 ends
