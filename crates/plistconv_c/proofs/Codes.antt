-- No refusal has the number 0.
use Rattle.std.proofs.Common.{◌<◌, lit<}
use Rattle.plist_value.specs.Refusals.{number_of}
use Rattle.plist_value.specs.declared.refusals.Refusal.{Refusal}
use Rattle.plist_value.specs.declared.refusals.Refusal.TheVariants as refusal
use Rattle.plist_forms.specs.Fault.{code_of, report_of}
use Rattle.plist_forms.specs.declared.faults.Fault.{Fault}

above : (refusal : Refusal) → 0 < number_of refusal
above refusal.TooShort = lit< tt
above _ = lit< tt

pub code_above : (fault : Fault) → 0 < code_of fault
code_above fault = above (report_of fault).0
