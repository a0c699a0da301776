-- Each possible report is that of a fault. A refusal tells its report.
use Rattle.std.proofs.Common.{◌≡◌, ℕ, true, refl, rules}
use Rattle.std.proofs.lemmas.Bool.{false≢true}
use Rattle.plist_value.specs.Refusals.{number_of, occurs_at, reports}
use Rattle.plist_value.specs.declared.refusals.Place.{Place}
use Rattle.plist_value.specs.declared.refusals.Place.TheVariants.{Nowhere, Object, Octet, After}
use Rattle.plist_value.specs.declared.refusals.Refusal.{Refusal}
use Rattle.plist_value.specs.declared.refusals.Refusal.TheVariants as refusal
use Rattle.plist_value.specs.declared.refusals.Report.{Report}
use Rattle.plist_binary.specs.declared.fault.BinaryFault.TheVariants as binary
use Rattle.ostep_text.specs.declared.fault.TextFault.TheVariants as text
use Rattle.plist_forms.specs.Fault.{report_of}
use Rattle.plist_forms.specs.declared.faults.Fault.{Fault}
use Rattle.plist_forms.specs.declared.faults.Fault.TheVariants.{Binary, Text, NotInOpenStep, ReadFailed, WriteFailed, InputTooLarge, OutOfMemory}
use Rattle.plistconv_c.specs.Refusals.{refusal_with}

-- each possible report is that of a fault
pub of_possible : (refusal : Refusal) (place : Place) → occurs_at (number_of refusal) place ≡ true
    → (fault : Fault) × (report_of fault ≡ reports refusal place)
of_possible refusal.TooShort Nowhere _ = (Binary binary.TooShort, refl)
of_possible refusal.BadHeader Nowhere _ = (Binary binary.BadHeader, refl)
of_possible refusal.BadTrailer Nowhere _ = (Binary binary.BadTrailer, refl)
of_possible refusal.NotInOpenStep Nowhere _ = (NotInOpenStep, refl)
of_possible refusal.ReadFailed Nowhere _ = (ReadFailed, refl)
of_possible refusal.InputTooLarge Nowhere _ = (InputTooLarge, refl)
of_possible refusal.OutOfMemory Nowhere _ = (Binary binary.OutOfMemory, refl)
of_possible refusal.BadOffset (Object i) _ = (Binary (binary.BadOffset i), refl)
of_possible refusal.BadReference (Object i) _ = (Binary (binary.BadReference i), refl)
of_possible refusal.CutObject (Object i) _ = (Binary (binary.CutObject i), refl)
of_possible refusal.BadMarker (Object i) _ = (Binary (binary.BadMarker i), refl)
of_possible refusal.NullObject (Object i) _ = (Binary (binary.NullObject i), refl)
of_possible refusal.UidObject (Object i) _ = (Binary (binary.UidObject i), refl)
of_possible refusal.SetObject (Object i) _ = (Binary (binary.SetObject i), refl)
of_possible refusal.NotAscii (Object i) _ = (Binary (binary.NotAscii i), refl)
of_possible refusal.WideInteger (Object i) _ = (Binary (binary.WideInteger i), refl)
of_possible refusal.KeyNotText (Object i) _ = (Binary (binary.KeyNotText i), refl)
of_possible refusal.DuplicateKey (Object i) _ = (Binary (binary.DuplicateKey i), refl)
of_possible refusal.Cycle (Object i) _ = (Binary (binary.Cycle i), refl)
of_possible refusal.TooDeep (Object i) _ = (Binary (binary.TooDeep i), refl)
of_possible refusal.TooManyNodes (Object i) _ = (Binary (binary.TooManyNodes i), refl)
of_possible refusal.TooMuchPayload (Object i) _ = (Binary (binary.TooMuchPayload i), refl)
of_possible refusal.DuplicateKey (Octet i) _ = (Text (text.DuplicateKey i), refl)
of_possible refusal.TooDeep (Octet i) _ = (Text (text.TooDeep i), refl)
of_possible refusal.TooManyNodes (Octet i) _ = (Text (text.TooManyNodes i), refl)
of_possible refusal.TooMuchPayload (Octet i) _ = (Text (text.TooMuchPayload i), refl)
of_possible refusal.BadUtf8 (Octet i) _ = (Text (text.BadUtf8 i), refl)
of_possible refusal.XmlForm (Octet i) _ = (Text (text.XmlForm i), refl)
of_possible refusal.UnexpectedCharacter (Octet i) _ = (Text (text.UnexpectedCharacter i), refl)
of_possible refusal.UnclosedString (Octet i) _ = (Text (text.UnclosedString i), refl)
of_possible refusal.UnclosedComment (Octet i) _ = (Text (text.UnclosedComment i), refl)
of_possible refusal.BadEscape (Octet i) _ = (Text (text.BadEscape i), refl)
of_possible refusal.OctalRange (Octet i) _ = (Text (text.OctalRange i), refl)
of_possible refusal.OddData (Octet i) _ = (Text (text.OddData i), refl)
of_possible refusal.BadData (Octet i) _ = (Text (text.BadData i), refl)
of_possible refusal.Expected (Octet i) _ = (Text (text.Expected i), refl)
of_possible refusal.Junk (Octet i) _ = (Text (text.Junk i), refl)
of_possible refusal.BadUtf16 (Octet i) _ = (Text (text.BadUtf16 i), refl)
of_possible refusal.WriteFailed (After sent) _ = (WriteFailed sent, refl)
of_possible refusal.OutOfMemory (After sent) _ = (OutOfMemory sent, refl)
of_possible _ _ is = absurd (false≢true is)

-- the refusal of an input tells its report
pub same_report : (a b : Report) (i j : ℕ) → refusal_with a i ≡ refusal_with b j → a ≡ b
same_report a b i j e = search rules
