use Rattle.std.proofs.Common.{◌∙◌, sym, rules}
use Rattle.plistconv_c.proofs.Reports.{of_possible}
use Rattle.plistconv_c.proofs.refusals.Refused.report.Goals as goal

pub returns-then-is_possible-clause-found : goal.returns-then-is_possible-clause-found
returns-then-is_possible-clause-found c =
    let found = of_possible _ c.in_ok-place.place (sym c.is_possible.ensures ∙ c.if-is_possible.true) in
    record { fault = found.0; described = search rules; same = found.1 }
