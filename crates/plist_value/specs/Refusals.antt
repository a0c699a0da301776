-- The numbers and the names of the refusals, and how a refusal is printed.
use Rattle.std.specs.Prelude.{◌≡◌, ◌==◌, ◌&&◌, ◌||◌, ℕ, Bool, List, ◌++◌, codes, nat_lt}
use Rattle.std.specs.Fmt.{decimal}
use Rattle.plist_value.specs.declared.refusals.Refusal.{Refusal}
use Rattle.plist_value.specs.declared.refusals.Refusal.TheVariants.{TooShort, BadHeader, BadTrailer}
use Rattle.plist_value.specs.declared.refusals.Refusal.TheVariants.{BadOffset, BadReference}
use Rattle.plist_value.specs.declared.refusals.Refusal.TheVariants.{CutObject, BadMarker}
use Rattle.plist_value.specs.declared.refusals.Refusal.TheVariants.{NullObject, UidObject}
use Rattle.plist_value.specs.declared.refusals.Refusal.TheVariants.{SetObject, NotAscii}
use Rattle.plist_value.specs.declared.refusals.Refusal.TheVariants.{WideInteger, KeyNotText}
use Rattle.plist_value.specs.declared.refusals.Refusal.TheVariants.{DuplicateKey, Cycle, TooDeep}
use Rattle.plist_value.specs.declared.refusals.Refusal.TheVariants.{TooManyNodes, TooMuchPayload}
use Rattle.plist_value.specs.declared.refusals.Refusal.TheVariants.{BadUtf8, XmlForm}
use Rattle.plist_value.specs.declared.refusals.Refusal.TheVariants.{UnexpectedCharacter}
use Rattle.plist_value.specs.declared.refusals.Refusal.TheVariants.{UnclosedString, UnclosedComment}
use Rattle.plist_value.specs.declared.refusals.Refusal.TheVariants.{BadEscape, OctalRange, OddData}
use Rattle.plist_value.specs.declared.refusals.Refusal.TheVariants.{BadData, Expected, Junk}
use Rattle.plist_value.specs.declared.refusals.Refusal.TheVariants.{BadUtf16, NotInOpenStep}
use Rattle.plist_value.specs.declared.refusals.Refusal.TheVariants.{ReadFailed, WriteFailed}
use Rattle.plist_value.specs.declared.refusals.Refusal.TheVariants.{InputTooLarge, OutOfMemory}
use Rattle.plist_value.specs.declared.refusals.Place.{Place}
use Rattle.plist_value.specs.declared.refusals.Place.TheVariants.{Nowhere, Object, Octet, After}
use Rattle.plist_value.specs.declared.refusals.Report.{Report}

abbrev pub number_of : Refusal → ℕ
number_of TooShort = 1
number_of BadHeader = 2
number_of BadTrailer = 3
number_of BadOffset = 4
number_of BadReference = 5
number_of CutObject = 6
number_of BadMarker = 7
number_of NullObject = 8
number_of UidObject = 9
number_of SetObject = 10
number_of NotAscii = 11
number_of WideInteger = 12
number_of KeyNotText = 13
number_of DuplicateKey = 14
number_of Cycle = 15
number_of TooDeep = 16
number_of TooManyNodes = 17
number_of TooMuchPayload = 18
number_of BadUtf8 = 20
number_of XmlForm = 21
number_of UnexpectedCharacter = 23
number_of UnclosedString = 24
number_of UnclosedComment = 25
number_of BadEscape = 26
number_of OctalRange = 27
number_of OddData = 28
number_of BadData = 29
number_of Expected = 30
number_of Junk = 31
number_of BadUtf16 = 32
number_of NotInOpenStep = 40
number_of ReadFailed = 50
number_of WriteFailed = 51
number_of InputTooLarge = 52
number_of OutOfMemory = 60

abbrev pub name_of : Refusal → List ℕ
name_of TooShort = codes "TooShort"
name_of BadHeader = codes "BadHeader"
name_of BadTrailer = codes "BadTrailer"
name_of BadOffset = codes "BadOffset"
name_of BadReference = codes "BadReference"
name_of CutObject = codes "CutObject"
name_of BadMarker = codes "BadMarker"
name_of NullObject = codes "NullObject"
name_of UidObject = codes "UidObject"
name_of SetObject = codes "SetObject"
name_of NotAscii = codes "NotAscii"
name_of WideInteger = codes "WideInteger"
name_of KeyNotText = codes "KeyNotText"
name_of DuplicateKey = codes "DuplicateKey"
name_of Cycle = codes "Cycle"
name_of TooDeep = codes "TooDeep"
name_of TooManyNodes = codes "TooManyNodes"
name_of TooMuchPayload = codes "TooMuchPayload"
name_of BadUtf8 = codes "BadUtf8"
name_of XmlForm = codes "XmlForm"
name_of UnexpectedCharacter = codes "UnexpectedCharacter"
name_of UnclosedString = codes "UnclosedString"
name_of UnclosedComment = codes "UnclosedComment"
name_of BadEscape = codes "BadEscape"
name_of OctalRange = codes "OctalRange"
name_of OddData = codes "OddData"
name_of BadData = codes "BadData"
name_of Expected = codes "Expected"
name_of Junk = codes "Junk"
name_of BadUtf16 = codes "BadUtf16"
name_of NotInOpenStep = codes "NotInOpenStep"
name_of ReadFailed = codes "ReadFailed"
name_of WriteFailed = codes "WriteFailed"
name_of InputTooLarge = codes "InputTooLarge"
name_of OutOfMemory = codes "OutOfMemory"

-- a refusal with its position
abbrev pub reports : Refusal → Place → Report
reports refusal place = record { 0 = refusal; 1 = place }

-- whether the refusal with this number occurs with such a position
abbrev pub occurs_at : ℕ → Place → Bool
occurs_at number Nowhere =
    nat_lt number 4 || ((number == 40) || ((number == 50) || ((number == 52) || (number == 60))))
occurs_at number (Object _) = nat_lt 3 number && nat_lt number 19
occurs_at number (Octet _) = (number == 14) || (nat_lt 15 number && nat_lt number 33)
occurs_at number (After _) = (number == 51) || (number == 60)

-- whether the refusal occurs with such a position
abbrev pub is_possible : Report → Bool
is_possible report = occurs_at (number_of report.0) report.1

-- how the position is printed
abbrev pub place_text : Place → List ℕ
place_text Nowhere = codes ""
place_text (Object object) = codes " at object " ++ decimal object
place_text (Octet octet) = codes " at octet " ++ decimal octet
place_text (After sent) = codes " after " ++ (decimal sent ++ codes " octets")

-- how a report is printed: the number, the name and the position
abbrev pub report_text : Report → List ℕ
report_text report = decimal (number_of report.0)
    ++ (codes " " ++ (name_of report.0 ++ place_text report.1))

-- no two refusals have the same image
abbrev pub TellsApart : {A : Type 0} → (Refusal → A) → Type 0
TellsApart image = (a b : Refusal) → image a ≡ image b → a ≡ b
