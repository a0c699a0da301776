use Rattle.ostep_lex.proofs.StretchLemmas.{leads_stretch, leads_units}
use Rattle.ostep_lex.proofs.remaining.Remaining.after_stretch.Goals as goal

pub returns-in-Utf8 : goal.returns-in-Utf8
returns-in-Utf8 c = record {
  front = c.stretch.result.0.now;
  leads = leads_stretch c.in-Utf8.is c.stretch.ensures.stretch c.stretch.ensures.chars c.stretch.ensures.split c.stretch.ensures.utf8;
}

pub returns-in-Utf16 : goal.returns-in-Utf16
returns-in-Utf16 c = record { front = c.after_units.ensures.front; leads = leads_units c.in-Utf16.is c.requires c.after_units.ensures }
