use Rattle.std.proofs.Common.{◌++◌, ap, ◌∙◌}
use Rattle.ostep_lex.proofs.StretchLemmas.{leads_stretch, leads_units, units_of_front}
use Rattle.ostep_lex.proofs.remaining.Remaining.push_stretch.Goals as goal

pub returns-in_ok-push_octets-in-Utf8 : goal.returns-in_ok-push_octets-in-Utf8
returns-in_ok-push_octets-in-Utf8 c = record {
  front = c.stretch.result.0.now;
  leads = leads_stretch c.in-Utf8.is c.stretch.ensures.stretch c.stretch.ensures.chars c.stretch.ensures.split c.stretch.ensures.utf8;
  appended = c.in_ok-push_octets-in-Utf8.ensures;
}

pub returns-in_ok-push_units-in-Utf16 : goal.returns-in_ok-push_units-in-Utf16
returns-in_ok-push_units-in-Utf16 c =
    let begins = c.after_units-after.ensures in
    record {
      front = begins.front;
      leads = leads_units c.in-Utf16.is c.requires begins;
      appended = c.in_ok-push_units-in-Utf16.ensures ∙ ap (λ us. c.args.units.now.items ++ us) (units_of_front begins);
    }
