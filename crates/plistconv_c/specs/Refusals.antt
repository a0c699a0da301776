-- A refusal as a number and a place.
use Rattle.std.specs.Prelude.{ℕ}
use Rattle.plist_value.specs.Refusals.{number_of}
use Rattle.plist_value.specs.declared.refusals.Place.{Place}
use Rattle.plist_value.specs.declared.refusals.Place.TheVariants.{Nowhere, Object, Octet, After}
use Rattle.plist_value.specs.declared.refusals.Report.{Report}
use Rattle.plist_forms.specs.Fault.{report_of}
use Rattle.plist_forms.specs.declared.faults.Fault.{Fault}
use Rattle.plistconv_c.specs.declared.refusals.Refused.{Refused}

-- The unit of a place, and the place in that unit: 0 none, 1 the number of an object, 2 the offset
-- of a byte in the input, 3 the number of bytes sent.
abbrev pub unit_and_place : Place → ℕ × ℕ
unit_and_place Nowhere = (0, 0)
unit_and_place (Object object) = (1, object)
unit_and_place (Octet octet) = (2, octet)
unit_and_place (After sent) = (3, sent)

-- the refusal of an input with this report
abbrev pub refusal_with : Report → ℕ → Refused
refusal_with report input =
    let at = unit_and_place report.1 in
    record { place = at.1; number = number_of report.0; unit = at.0; input = input }

-- the refusal of an input for a fault
abbrev pub refusal_of : Fault → ℕ → Refused
refusal_of fault input = refusal_with (report_of fault) input

abbrev pub no_refusal : Refused
no_refusal = record { place = 0; number = 0; unit = 0; input = 0 }
