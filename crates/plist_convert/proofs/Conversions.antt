-- Derives a conversion from the contracts of a load and a store.
use Rattle.std.proofs.Common.{inl, inr, refl, Err, List, Ok, Option, Result, ℕ, ◌∙◌, ◌≡◌}
use Rattle.plist_forms.specs.Fault.{write_fault_for}
use Rattle.plist_forms.specs.Refusals.{IsRefused}
use Rattle.plist_forms.specs.declared.faults.Fault.{Fault}
use Rattle.plist_forms.specs.declared.faults.Fault.TheVariants.{WriteFailed}
use Rattle.plist_forms.specs.declared.forms.Form.{Form}
use Rattle.plist_write.specs.declared.faults.WriteFault.{WriteFault}
use Rattle.plist_forms.specs.Output.{IsOutputFault}
use Rattle.plist_forms.specs.Sent.{answer_of}
use Rattle.plist_convert.specs.Files.{FileName, FileHolds, IsOutputStored, SameFiles, Stores}
use Rattle.plist_convert.specs.Answer.{Said}
use Rattle.plist_convert.specs.Ending.{Ends}
use Rattle.plist_convert.specs.Runs.{EndsSending, IsConverted, IsConvertRun, path_of_fault, refusal_between}
use Rattle.plist_convert.specs.State.{State}
use Rattle.plist_convert.proofs.FilesBefore.{same_trans, stored_before}

-- nothing is printed after everything was sent
pub sent_whole : (line : Fault → Said) (sent : Result ℕ WriteFault) (n : ℕ) (printed : Option (List ℕ)) (failures : ℕ) → Ok n ≡ answer_of sent
    → EndsSending printed printed failures failures line sent 0
sent_whole line (Ok m) n printed failures is = (refl, refl, refl)
sent_whole line (Err fault) n printed failures is = absurd cc

-- the line of the refusal is printed after only a prefix was sent
pub sent_front : (line : Fault → Said) (sent : Result ℕ WriteFault) (fault : Fault) (old new : Option (List ℕ)) (before after status : ℕ)
    → Err fault ≡ answer_of sent → Ends old new before after (line fault) status → EndsSending old new before after line sent status
sent_front line (Ok m) fault old new before after status is ends = absurd cc
sent_front line (Err f) fault old new before after status is ends =
    let same : fault ≡ write_fault_for f = cc in
    rw same at ends

-- a store after a load is a store from the state before the load
store_before : (form : Form) (octets : List ℕ) (from to : FileName) (before middle after : State) (status : ℕ) (result : Result ℕ Fault)
    → FileHolds before.files from octets → SameFiles before.files middle.files → middle.disk_failures ≡ before.disk_failures
    → (goes : IsOutputStored form octets middle.files after.files middle.disk_failures after.disk_failures to result)
    → EndsSending before.printed after.printed before.print_failures after.print_failures (refusal_between from to) goes.sent status
    → IsConverted form from to before after status
store_before form octets from to before middle after status result stands kept unfailed goes ends = record {
  octets = octets;
  stands = stands;
  file = goes.output;
  of = goes.of;
  sent = goes.sent;
  stored = stored_before before.files middle.files after.files before.disk_failures middle.disk_failures after.disk_failures to goes.output goes.sent kept unfailed goes.stored;
  ends = ends;
}

pub converted : (form : Form) (octets : List ℕ) (from to : FileName) (before middle after : State) (n : ℕ)
    → FileHolds before.files from octets → SameFiles before.files middle.files → middle.disk_failures ≡ before.disk_failures
    → after.printed ≡ before.printed → after.print_failures ≡ before.print_failures
    → Stores form octets middle.files after.files middle.disk_failures after.disk_failures to (Ok n)
    → IsConvertRun form from to before after 0
unfolding IsConvertRun
converted form octets from to before middle after n stands kept unfailed printed failures (inl unsent) = absurd (let is = unsent.is in cc)
converted form octets from to before middle after n stands kept unfailed printed failures (inr goes) =
    inr (inr (store_before form octets from to before middle after 0 (Ok n) stands kept unfailed goes
    (rw (printed, failures) (sent_whole (refusal_between from to) goes.sent n before.printed before.print_failures goes.is))))

-- a refusal of the bytes names their own path
pub refused_under : (octets : List ℕ) (from to : FileName) (fault : Fault) → IsRefused octets fault
    → path_of_fault from to fault ≡ from
refused_under octets from to (WriteFailed sent) refused = absurd refused.stands
refused_under octets from to _ refused = refl

told_under : (form : Form) (octets : List ℕ) (from to : FileName) (fault : Fault) → IsOutputFault form octets fault
    → path_of_fault from to fault ≡ from
told_under form octets from to fault (inl refused) = refused_under octets from to fault refused
told_under form octets from to fault (inr none) = rw none.is refl

pub unconverted : (form : Form) (octets : List ℕ) (from to : FileName) (before middle after : State) (status : ℕ) (fault : Fault)
    → FileHolds before.files from octets → SameFiles before.files middle.files → middle.disk_failures ≡ before.disk_failures
    → Stores form octets middle.files after.files middle.disk_failures after.disk_failures to (Err fault)
    → Ends before.printed after.printed before.print_failures after.print_failures (refusal_between from to fault) status
    → IsConvertRun form from to before after status
unfolding IsConvertRun
unconverted form octets from to before middle after status fault stands kept unfailed (inl unsent) ends =
    let same : unsent.fault ≡ fault = (let is = unsent.is in cc) in
    let cause : IsOutputFault form octets fault = rw same at unsent.cause in
    inr (inl (record {
      octets = octets;
      stands = stands;
      said = refusal_between from to fault;
      answers = record { fault = fault; cause = cause; says = rw (told_under form octets from to fault cause) (refl, refl) };
      kept = same_trans before.files middle.files after.files kept unsent.kept;
      unfailed = unsent.unfailed ∙ unfailed;
      ends = ends;
    }))
unconverted form octets from to before middle after status fault stands kept unfailed (inr goes) ends =
    inr (inr (store_before form octets from to before middle after status (Err fault) stands kept unfailed goes
    (sent_front (refusal_between from to) goes.sent fault before.printed after.printed before.print_failures after.print_failures status goes.is ends)))
