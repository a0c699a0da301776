-- The numbers of the refusals, their printed form, and the exit status for each.
use Rattle.std.specs.Prelude.{ℕ, List, ◌==◌, ◌||◌, if◌then◌else◌}
use Rattle.plist_value.specs.Refusals.{number_of, reports, report_text}
use Rattle.plist_value.specs.declared.refusals.Place.TheVariants.{Nowhere, After}
use Rattle.plist_value.specs.declared.refusals.Refusal.TheVariants as refusal
use Rattle.plist_value.specs.declared.refusals.Report.{Report}
use Rattle.plist_binary.specs.Codes as binary_codes
use Rattle.plist_binary.specs.declared.fault.BinaryFault.{BinaryFault}
use Rattle.plist_binary.specs.declared.fault.BinaryFault.TheVariants as binary
use Rattle.ostep_text.specs.Fault as text_codes
use Rattle.ostep_text.specs.declared.fault.TextFault.{TextFault}
use Rattle.ostep_text.specs.declared.fault.TextFault.TheVariants as text
use Rattle.plist_canon.specs.declared.checking.CheckFault.{CheckFault}
use Rattle.plist_canon.specs.declared.checking.CheckFault.TheVariants as check
use Rattle.plist_write.specs.declared.faults.WriteFault.{WriteFault}
use Rattle.plist_write.specs.declared.faults.WriteFault.TheVariants as write
use Rattle.plist_forms.specs.declared.faults.Fault.{Fault}
use Rattle.plist_forms.specs.declared.faults.Fault.TheVariants.{Binary, Text, NotInOpenStep}
use Rattle.plist_forms.specs.declared.faults.Fault.TheVariants.{ReadFailed, WriteFailed}
use Rattle.plist_forms.specs.declared.faults.Fault.TheVariants.{InputTooLarge, OutOfMemory}

-- the refusal and the place that it names
abbrev pub report_of : Fault → Report
report_of (Binary fault) = binary_codes.fault_report fault
report_of (Text fault) = text_codes.report_of fault
report_of NotInOpenStep = reports refusal.NotInOpenStep Nowhere
report_of ReadFailed = reports refusal.ReadFailed Nowhere
report_of (WriteFailed sent) = reports refusal.WriteFailed (After sent)
report_of InputTooLarge = reports refusal.InputTooLarge Nowhere
report_of (OutOfMemory sent) = reports refusal.OutOfMemory (After sent)

abbrev pub code_of : Fault → ℕ
code_of fault = number_of (report_of fault).0

-- the printed form: number, name and place
abbrev pub fault_text : Fault → List ℕ
fault_text fault = report_text (report_of fault)

-- the exit status for a number: 4 if a device failed, 5 if out of memory, else 2
abbrev pub status_for : ℕ → ℕ
status_for code = if (code == 50) || (code == 51) then 4 else (if code == 60 then 5 else 2)

-- the refusal of a binary file as one of this crate; when memory ran out, nothing was sent yet
abbrev pub fault_for : BinaryFault → Fault
fault_for binary.OutOfMemory = OutOfMemory 0
fault_for fault = Binary fault

-- the refusal of a text as one of this crate; when memory ran out, nothing was sent yet
abbrev pub text_fault_for : TextFault → Fault
text_fault_for text.OutOfMemory = OutOfMemory 0
text_fault_for fault = Text fault

-- the refusal of a check as one of this crate, with the same number
abbrev pub check_fault_for : CheckFault → Fault
check_fault_for check.TooShort = Binary binary.TooShort
check_fault_for check.BadHeader = Binary binary.BadHeader
check_fault_for check.BadTrailer = Binary binary.BadTrailer
check_fault_for check.OutOfMemory = OutOfMemory 0

-- the refusal of sending as one of this crate, after the same number of bytes
abbrev pub write_fault_for : WriteFault → Fault
write_fault_for (write.WriteFailed sent) = WriteFailed sent
write_fault_for (write.OutOfMemory sent) = OutOfMemory sent
