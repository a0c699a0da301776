-- The report of each error: its number, its name, and what is printed.
use Rattle.std.specs.Prelude.{ℕ, List}
use Rattle.plist_value.specs.Refusals.{number_of, reports, report_text}
use Rattle.plist_value.specs.declared.refusals.Place.TheVariants.{Nowhere}
use Rattle.plist_value.specs.declared.refusals.Refusal.TheVariants as refusal
use Rattle.plist_value.specs.declared.refusals.Report.{Report}
use Rattle.plist_object.specs.declared.layout.LayoutFault.{LayoutFault}
use Rattle.plist_object.specs.declared.layout.LayoutFault.TheVariants.{TooShort, BadHeader}
use Rattle.plist_object.specs.declared.layout.LayoutFault.TheVariants.{BadTrailer}
use Rattle.plist_object.specs.declared.object.ObjectFault.{ObjectFault}
use Rattle.plist_object.specs.declared.object.ObjectFault.TheVariants.{BadOffset, CutObject}
use Rattle.plist_object.specs.declared.object.ObjectFault.TheVariants.{BadMarker, NullObject}
use Rattle.plist_object.specs.declared.object.ObjectFault.TheVariants.{UidObject, SetObject}
use Rattle.plist_object.specs.declared.object.ObjectFault.TheVariants.{NotAscii, WideInteger}

abbrev pub layout_report : LayoutFault → Report
layout_report TooShort = reports refusal.TooShort Nowhere
layout_report BadHeader = reports refusal.BadHeader Nowhere
layout_report BadTrailer = reports refusal.BadTrailer Nowhere

abbrev pub layout_code : LayoutFault → ℕ
layout_code fault = number_of (layout_report fault).0

abbrev pub layout_text : LayoutFault → List ℕ
layout_text fault = report_text (layout_report fault)

abbrev pub object_report : ObjectFault → Report
object_report BadOffset = reports refusal.BadOffset Nowhere
object_report CutObject = reports refusal.CutObject Nowhere
object_report BadMarker = reports refusal.BadMarker Nowhere
object_report NullObject = reports refusal.NullObject Nowhere
object_report UidObject = reports refusal.UidObject Nowhere
object_report SetObject = reports refusal.SetObject Nowhere
object_report NotAscii = reports refusal.NotAscii Nowhere
object_report WideInteger = reports refusal.WideInteger Nowhere

abbrev pub object_code : ObjectFault → ℕ
object_code fault = number_of (object_report fault).0

abbrev pub object_text : ObjectFault → List ℕ
object_text fault = report_text (object_report fault)
