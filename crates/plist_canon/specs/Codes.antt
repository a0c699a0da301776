-- The refusal for each error of a check, its number, and its printed form.
use Rattle.std.specs.Prelude.{ℕ, List}
use Rattle.plist_value.specs.Refusals.{number_of, reports, report_text}
use Rattle.plist_value.specs.declared.refusals.Place.TheVariants.{Nowhere}
use Rattle.plist_value.specs.declared.refusals.Refusal.TheVariants as refusal
use Rattle.plist_value.specs.declared.refusals.Report.{Report}
use Rattle.plist_object.specs.declared.layout.LayoutFault.{LayoutFault}
use Rattle.plist_object.specs.declared.layout.LayoutFault.TheVariants as layout
use Rattle.plist_canon.specs.declared.checking.CheckFault.{CheckFault}
use Rattle.plist_canon.specs.declared.checking.CheckFault.TheVariants.{TooShort, BadHeader}
use Rattle.plist_canon.specs.declared.checking.CheckFault.TheVariants.{BadTrailer, OutOfMemory}

-- the error of a layout as one of the check
abbrev pub of_layout : LayoutFault → CheckFault
of_layout layout.TooShort = TooShort
of_layout layout.BadHeader = BadHeader
of_layout layout.BadTrailer = BadTrailer

-- the refusal, which has no position
abbrev pub check_report : CheckFault → Report
check_report TooShort = reports refusal.TooShort Nowhere
check_report BadHeader = reports refusal.BadHeader Nowhere
check_report BadTrailer = reports refusal.BadTrailer Nowhere
check_report OutOfMemory = reports refusal.OutOfMemory Nowhere

abbrev pub check_code : CheckFault → ℕ
check_code fault = number_of (check_report fault).0

-- the printed form: number and name
abbrev pub check_text : CheckFault → List ℕ
check_text fault = report_text (check_report fault)
