use Rattle.plist_convert.proofs.Transfers.{filter_refused, filter_sent}
use Rattle.plist_convert.proofs.filtering.filter.Goals as goal

pub returns-in-Ok-clause-run : goal.returns-in-Ok-clause-run
returns-in-Ok-clause-run g c = λ disk files.
    rw c.code.ensures.code (filter_sent _ _ _ _ c.in-Ok.field-0 c.in-Ok.ensures.transfer c.in-Ok.ensures.loads)

pub returns-in-Err-clause-run : goal.returns-in-Err-clause-run
returns-in-Err-clause-run g c = λ disk files.
    filter_refused _ _ _ _ c.print_refusal.result _ _ c.in-Err.fault c.in-Err.ensures.transfer c.in-Err.ensures.loads c.print_refusal.ensures.ends
