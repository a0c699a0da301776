-- The refusals of a text's tokens: their numbers, and how they are printed.
use Rattle.std.specs.Prelude.{ℕ, List}
use Rattle.plist_value.specs.Refusals.{number_of, reports, report_text}
use Rattle.plist_value.specs.declared.refusals.Place.TheVariants.{Nowhere, Octet}
use Rattle.plist_value.specs.declared.refusals.Refusal.TheVariants as refusal
use Rattle.plist_value.specs.declared.refusals.Report.{Report}
use Rattle.ostep_lex.specs.declared.fault.LexFault.{LexFault}
use Rattle.ostep_lex.specs.declared.fault.LexFault.TheVariants.{BadUtf8, XmlForm}
use Rattle.ostep_lex.specs.declared.fault.LexFault.TheVariants.{UnexpectedCharacter, UnclosedString}
use Rattle.ostep_lex.specs.declared.fault.LexFault.TheVariants.{UnclosedComment, BadEscape}
use Rattle.ostep_lex.specs.declared.fault.LexFault.TheVariants.{OctalRange, OddData, BadData}
use Rattle.ostep_lex.specs.declared.fault.LexFault.TheVariants.{BadUtf16, OutOfMemory}

-- the refusal and its offset; out of memory has none
abbrev pub report_of : LexFault → Report
report_of (BadUtf8 octet) = reports refusal.BadUtf8 (Octet octet)
report_of (XmlForm octet) = reports refusal.XmlForm (Octet octet)
report_of (UnexpectedCharacter octet) = reports refusal.UnexpectedCharacter (Octet octet)
report_of (UnclosedString octet) = reports refusal.UnclosedString (Octet octet)
report_of (UnclosedComment octet) = reports refusal.UnclosedComment (Octet octet)
report_of (BadEscape octet) = reports refusal.BadEscape (Octet octet)
report_of (OctalRange octet) = reports refusal.OctalRange (Octet octet)
report_of (OddData octet) = reports refusal.OddData (Octet octet)
report_of (BadData octet) = reports refusal.BadData (Octet octet)
report_of (BadUtf16 octet) = reports refusal.BadUtf16 (Octet octet)
report_of OutOfMemory = reports refusal.OutOfMemory Nowhere

-- the number of a refusal
abbrev pub code_of : LexFault → ℕ
code_of fault = number_of (report_of fault).0

-- the printed form of a refusal
abbrev pub text_of_fault : LexFault → List ℕ
text_of_fault fault = report_text (report_of fault)
