-- The refusal for each fault, its number, and its printed form.
use Rattle.std.specs.Prelude.{ℕ, List}
use Rattle.plist_value.specs.Refusals.{number_of, reports, report_text}
use Rattle.plist_value.specs.declared.refusals.Place.TheVariants as place
use Rattle.plist_value.specs.declared.refusals.Refusal.TheVariants as refusal
use Rattle.plist_value.specs.declared.refusals.Report.{Report}
use Rattle.plist_object.specs.declared.layout.LayoutFault.{LayoutFault}
use Rattle.plist_object.specs.declared.layout.LayoutFault.TheVariants as layout
use Rattle.plist_object.specs.declared.object.ObjectFault.{ObjectFault}
use Rattle.plist_object.specs.declared.object.ObjectFault.TheVariants as object
use Rattle.plist_binary.specs.declared.fault.BinaryFault.{BinaryFault}
use Rattle.plist_binary.specs.declared.fault.BinaryFault.TheVariants.{TooShort, BadHeader}
use Rattle.plist_binary.specs.declared.fault.BinaryFault.TheVariants.{BadTrailer, BadOffset}
use Rattle.plist_binary.specs.declared.fault.BinaryFault.TheVariants.{BadReference, CutObject}
use Rattle.plist_binary.specs.declared.fault.BinaryFault.TheVariants.{BadMarker, NullObject}
use Rattle.plist_binary.specs.declared.fault.BinaryFault.TheVariants.{UidObject, SetObject}
use Rattle.plist_binary.specs.declared.fault.BinaryFault.TheVariants.{NotAscii, WideInteger}
use Rattle.plist_binary.specs.declared.fault.BinaryFault.TheVariants.{KeyNotText, DuplicateKey}
use Rattle.plist_binary.specs.declared.fault.BinaryFault.TheVariants.{Cycle, TooDeep, TooManyNodes}
use Rattle.plist_binary.specs.declared.fault.BinaryFault.TheVariants.{TooMuchPayload, OutOfMemory}

-- the fault of a layout as one of the file
abbrev pub of_layout : LayoutFault → BinaryFault
of_layout layout.TooShort = TooShort
of_layout layout.BadHeader = BadHeader
of_layout layout.BadTrailer = BadTrailer

-- the fault of object i as one of the file
abbrev pub of_object : ℕ → ObjectFault → BinaryFault
of_object i object.BadOffset = BadOffset i
of_object i object.CutObject = CutObject i
of_object i object.BadMarker = BadMarker i
of_object i object.NullObject = NullObject i
of_object i object.UidObject = UidObject i
of_object i object.SetObject = SetObject i
of_object i object.NotAscii = NotAscii i
of_object i object.WideInteger = WideInteger i

-- the refusal and the object that it names
abbrev pub fault_report : BinaryFault → Report
fault_report TooShort = reports refusal.TooShort place.Nowhere
fault_report BadHeader = reports refusal.BadHeader place.Nowhere
fault_report BadTrailer = reports refusal.BadTrailer place.Nowhere
fault_report (BadOffset i) = reports refusal.BadOffset (place.Object i)
fault_report (BadReference i) = reports refusal.BadReference (place.Object i)
fault_report (CutObject i) = reports refusal.CutObject (place.Object i)
fault_report (BadMarker i) = reports refusal.BadMarker (place.Object i)
fault_report (NullObject i) = reports refusal.NullObject (place.Object i)
fault_report (UidObject i) = reports refusal.UidObject (place.Object i)
fault_report (SetObject i) = reports refusal.SetObject (place.Object i)
fault_report (NotAscii i) = reports refusal.NotAscii (place.Object i)
fault_report (WideInteger i) = reports refusal.WideInteger (place.Object i)
fault_report (KeyNotText i) = reports refusal.KeyNotText (place.Object i)
fault_report (DuplicateKey i) = reports refusal.DuplicateKey (place.Object i)
fault_report (Cycle i) = reports refusal.Cycle (place.Object i)
fault_report (TooDeep i) = reports refusal.TooDeep (place.Object i)
fault_report (TooManyNodes i) = reports refusal.TooManyNodes (place.Object i)
fault_report (TooMuchPayload i) = reports refusal.TooMuchPayload (place.Object i)
fault_report OutOfMemory = reports refusal.OutOfMemory place.Nowhere

abbrev pub fault_code : BinaryFault → ℕ
fault_code fault = number_of (fault_report fault).0

abbrev pub binary_fault_text : BinaryFault → List ℕ
binary_fault_text fault = report_text (fault_report fault)
