-- The refusal for each fault of the writer, its number, and its printed form.
use Rattle.std.specs.Prelude.{ℕ, List}
use Rattle.plist_value.specs.Refusals.{number_of, reports, report_text}
use Rattle.plist_value.specs.declared.refusals.Place.TheVariants.{Nowhere}
use Rattle.plist_value.specs.declared.refusals.Refusal.TheVariants as refusal
use Rattle.plist_value.specs.declared.refusals.Report.{Report}
use Rattle.ostep_text.specs.declared.write_fault.TextWriteFault.{TextWriteFault}
use Rattle.ostep_text.specs.declared.write_fault.TextWriteFault.TheVariants.{NotInOpenStep}
use Rattle.ostep_text.specs.declared.write_fault.TextWriteFault.TheVariants.{OutOfMemory}

-- the refusal, which has no position
abbrev pub report_of : TextWriteFault → Report
report_of NotInOpenStep = reports refusal.NotInOpenStep Nowhere
report_of OutOfMemory = reports refusal.OutOfMemory Nowhere

abbrev pub code_of : TextWriteFault → ℕ
code_of fault = number_of (report_of fault).0

-- the printed form of a refusal
abbrev pub text_of_fault : TextWriteFault → List ℕ
text_of_fault fault = report_text (report_of fault)
