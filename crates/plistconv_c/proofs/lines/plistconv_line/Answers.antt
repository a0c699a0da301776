use Rattle.std.proofs.Common.{◌≡◌, ◌∙◌, refl, sym, inr}
use Rattle.plist_forms.specs.Fault.{report_of}
use Rattle.plistconv_c.proofs.Reports.{same_report}
use Rattle.plistconv_c.proofs.lines.plistconv_line.Goals as goal

pub returns-in_default-clause-refused : goal.returns-in_default-clause-refused
returns-in_default-clause-refused c = λ _.
    record { reason = inr (refl, c.report.ensures.none c.in_default.is); kept = refl; nothing = refl }

pub returns-in-Ok-clause-given : goal.returns-in-Ok-clause-given
returns-in-Ok-clause-given c = λ _.
    let known = c.in-Some.ensures.found in
    record {
      known = (known.fault, (c.args.refusal.now.input, known.described));
      given = λ fault input is.
          let same : c.in-Some.report ≡ report_of fault = sym known.same ∙ same_report _ _ _ input (sym known.described ∙ is) in
          rw (← same, ← c.in-Ok.ensures, ← c.deref.ensures.value) c.give.ensures.given;
    }
