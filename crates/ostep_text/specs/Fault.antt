-- The refusal for each fault of a text, its number, and its printed form.
use Rattle.std.specs.Prelude.{ℕ, List}
use Rattle.plist_value.specs.Refusals.{number_of, reports, report_text}
use Rattle.plist_value.specs.declared.refusals.Place.TheVariants.{Nowhere, Octet}
use Rattle.plist_value.specs.declared.refusals.Refusal.TheVariants as refusal
use Rattle.plist_value.specs.declared.refusals.Report.{Report}
use Rattle.ostep_lex.specs.declared.fault.LexFault.{LexFault}
use Rattle.ostep_lex.specs.declared.fault.LexFault.TheVariants as tokens
use Rattle.ostep_text.specs.declared.fault.TextFault.{TextFault}
use Rattle.ostep_text.specs.declared.fault.TextFault.TheVariants.{BadUtf8, XmlForm}
use Rattle.ostep_text.specs.declared.fault.TextFault.TheVariants.{UnexpectedCharacter}
use Rattle.ostep_text.specs.declared.fault.TextFault.TheVariants.{UnclosedString, UnclosedComment}
use Rattle.ostep_text.specs.declared.fault.TextFault.TheVariants.{BadEscape, OctalRange, OddData}
use Rattle.ostep_text.specs.declared.fault.TextFault.TheVariants.{BadData, BadUtf16, DuplicateKey}
use Rattle.ostep_text.specs.declared.fault.TextFault.TheVariants.{TooDeep, TooManyNodes}
use Rattle.ostep_text.specs.declared.fault.TextFault.TheVariants.{TooMuchPayload, Expected, Junk}
use Rattle.ostep_text.specs.declared.fault.TextFault.TheVariants.{OutOfMemory}

-- a fault of the tokens as one of the text
abbrev pub of_tokens : LexFault → TextFault
of_tokens (tokens.BadUtf8 octet) = BadUtf8 octet
of_tokens (tokens.XmlForm octet) = XmlForm octet
of_tokens (tokens.UnexpectedCharacter octet) = UnexpectedCharacter octet
of_tokens (tokens.UnclosedString octet) = UnclosedString octet
of_tokens (tokens.UnclosedComment octet) = UnclosedComment octet
of_tokens (tokens.BadEscape octet) = BadEscape octet
of_tokens (tokens.OctalRange octet) = OctalRange octet
of_tokens (tokens.OddData octet) = OddData octet
of_tokens (tokens.BadData octet) = BadData octet
of_tokens (tokens.BadUtf16 octet) = BadUtf16 octet
of_tokens tokens.OutOfMemory = OutOfMemory

-- the refusal and its byte; out of memory has no position
abbrev pub report_of : TextFault → Report
report_of (BadUtf8 octet) = reports refusal.BadUtf8 (Octet octet)
report_of (XmlForm octet) = reports refusal.XmlForm (Octet octet)
report_of (UnexpectedCharacter octet) = reports refusal.UnexpectedCharacter (Octet octet)
report_of (UnclosedString octet) = reports refusal.UnclosedString (Octet octet)
report_of (UnclosedComment octet) = reports refusal.UnclosedComment (Octet octet)
report_of (BadEscape octet) = reports refusal.BadEscape (Octet octet)
report_of (OctalRange octet) = reports refusal.OctalRange (Octet octet)
report_of (OddData octet) = reports refusal.OddData (Octet octet)
report_of (BadData octet) = reports refusal.BadData (Octet octet)
report_of (BadUtf16 octet) = reports refusal.BadUtf16 (Octet octet)
report_of (DuplicateKey octet) = reports refusal.DuplicateKey (Octet octet)
report_of (TooDeep octet) = reports refusal.TooDeep (Octet octet)
report_of (TooManyNodes octet) = reports refusal.TooManyNodes (Octet octet)
report_of (TooMuchPayload octet) = reports refusal.TooMuchPayload (Octet octet)
report_of (Expected octet) = reports refusal.Expected (Octet octet)
report_of (Junk octet) = reports refusal.Junk (Octet octet)
report_of OutOfMemory = reports refusal.OutOfMemory Nowhere

abbrev pub code_of : TextFault → ℕ
code_of fault = number_of (report_of fault).0

-- the printed form of a refusal
abbrev pub text_of_fault : TextFault → List ℕ
text_of_fault fault = report_text (report_of fault)
