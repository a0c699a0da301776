-- Derives a run of `print` from the contracts of a load and a print.
use Rattle.std.proofs.Common.{inl, inr, refl, Err, List, Ok, Option, ℕ, ◌≡◌}
use Rattle.plist_forms.specs.Printed.{Prints}
use Rattle.plist_forms.specs.Refusals.{IsRefused}
use Rattle.plist_forms.specs.declared.faults.Fault.{Fault}
use Rattle.plist_convert.specs.Files.{FileName, FileHolds, SameFiles}
use Rattle.plist_convert.specs.Answer.{refusal}
use Rattle.plist_convert.specs.Ending.{Ends}
use Rattle.plist_convert.specs.Runs.{IsPrintRun, refusal_between, standard}
use Rattle.plist_convert.specs.State.{State}
use Rattle.plist_convert.proofs.Conversions.{refused_under, sent_front, sent_whole}

-- everything was printed
pub printed_whole : (octets : List ℕ) (path : FileName) (before after : State) (n : ℕ)
    → FileHolds before.files path octets → SameFiles before.files after.files → after.disk_failures ≡ before.disk_failures
    → Prints octets before.printed after.printed before.print_failures after.print_failures (Ok n)
    → IsPrintRun path before after 0
unfolding IsPrintRun
printed_whole octets path before after n stands kept unfailed (inl unsent) = absurd (let is = unsent.is in cc)
printed_whole octets path before after n stands kept unfailed (inr goes) = inr (inr (record {
  octets = octets;
  stands = stands;
  kept = kept;
  unfailed = unfailed;
  text = goes.text;
  of = goes.of;
  sends = record {
    sent = goes.sent;
    printed = after.printed;
    failures = after.print_failures;
    written = goes.written;
    ends = sent_whole (refusal_between path standard) goes.sent n after.printed after.print_failures goes.is;
  };
}))

-- a refusal, or only a prefix was printed
pub unprinted : (octets : List ℕ) (path : FileName) (before after : State) (status : ℕ) (printed : Option (List ℕ)) (failures : ℕ) (fault : Fault)
    → FileHolds before.files path octets → SameFiles before.files after.files → after.disk_failures ≡ before.disk_failures
    → Prints octets before.printed printed before.print_failures failures (Err fault)
    → Ends printed after.printed failures after.print_failures (refusal_between path standard fault) status
    → IsPrintRun path before after status
unfolding IsPrintRun
unprinted octets path before after status printed failures fault stands kept unfailed (inl unsent) ends =
    let same : unsent.fault ≡ fault = (let is = unsent.is in cc) in
    let refused : IsRefused octets fault = rw same at unsent.cause in
    let told : Ends printed after.printed failures after.print_failures (refusal path fault) status =
    rw (refused_under octets path standard fault refused) at ends in
    inr (inl (record {
      octets = octets;
      stands = stands;
      said = refusal path fault;
      answers = record { fault = fault; cause = refused; says = (refl, refl) };
      kept = kept;
      unfailed = unfailed;
      ends = rw (← unsent.nothing, ← unsent.unfailed) told;
    }))
unprinted octets path before after status printed failures fault stands kept unfailed (inr goes) ends = inr (inr (record {
  octets = octets;
  stands = stands;
  kept = kept;
  unfailed = unfailed;
  text = goes.text;
  of = goes.of;
  sends = record {
    sent = goes.sent;
    printed = printed;
    failures = failures;
    written = goes.written;
    ends = sent_front (refusal_between path standard) goes.sent fault printed after.printed failures after.print_failures status goes.is ends;
  };
}))
