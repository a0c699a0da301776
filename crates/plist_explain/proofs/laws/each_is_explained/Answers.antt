use Rattle.plist_explain.proofs.Covered.{explains_lines, explains_refusals, explains_rules}
use Rattle.plist_explain.proofs.Reported.{explains_reports, explains_verdicts}
use Rattle.plist_explain.proofs.laws.each_is_explained.Goals as goal

pub returns-clause-lines : goal.returns-clause-lines
returns-clause-lines c = explains_lines

pub returns-clause-refusals : goal.returns-clause-refusals
returns-clause-refusals c = explains_refusals

pub returns-clause-rules : goal.returns-clause-rules
returns-clause-rules c = explains_rules

pub returns-clause-reports : goal.returns-clause-reports
returns-clause-reports c = explains_reports

pub returns-clause-verdicts : goal.returns-clause-verdicts
returns-clause-verdicts c = explains_verdicts
