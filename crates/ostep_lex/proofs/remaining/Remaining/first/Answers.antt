use Rattle.ostep_lex.proofs.TextLemmas.{Leads-utf8, Leads-utf16, Leads-none}
use Rattle.ostep_lex.proofs.remaining.Remaining.first.Goals as goal

pub returns-in_err-first-in-Utf16 : goal.returns-in_err-first-in-Utf16
returns-in_err-first-in-Utf16 c =
    rw c.from_residual-in_err-first-in-Utf16.ensures (Leads-none c.in-Utf16.is c.requires c.in_err-first-in-Utf16.ensures)

pub returns-in_ok-first-in-Utf8 : goal.returns-in_ok-first-in-Utf8
returns-in_ok-first-in-Utf8 c = Leads-utf8 c.in-Utf8.is c.requires c.in_ok-first-in-Utf8.ensures.0 c.in_ok-first-in-Utf8.ensures.1

pub returns-in_ok-first-in-Utf16 : goal.returns-in_ok-first-in-Utf16
returns-in_ok-first-in-Utf16 c = Leads-utf16 c.in-Utf16.is c.requires c.in_ok-first-in-Utf16.ensures
