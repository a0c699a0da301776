use Rattle.std.proofs.Common.{inl, rules, ◌≡◌}
use Rattle.plist_convert.specs.Runs.{IsPrintRun}
use Rattle.plist_convert.proofs.Prints.{printed_whole, unprinted}
use Rattle.plist_convert.proofs.executing.print_file.Goals as goal

pub returns-in-Err-clause-run : goal.returns-in-Err-clause-run
unfolding IsPrintRun
returns-in-Err-clause-run g c =
    let loads = c.in-Err.ensures.loads in
    inl (record { fault = c.in-Err.fault; cause = loads.refused; kept = loads.kept; ends = c.print_refusal.ensures.ends })

pub returns-in-Ok-print-clause-run : goal.returns-in-Ok-print-clause-run
returns-in-Ok-print-clause-run g c =
    let loads = c.in-Ok.ensures.loads in
    let same : c.as_slice.result.now ≡ c.in-Ok.octets.items = search rules in
    rw c.code.ensures.code (printed_whole c.in-Ok.octets.items c.args.path.now _ _ c.in-Ok-print.field-0
    loads.found loads.kept loads.unfailed (rw same at c.in-Ok-print.ensures.prints))

pub returns-clause-run : goal.returns-clause-run
returns-clause-run g c =
    let loads = c.in-Ok.ensures.loads in
    let same : c.as_slice.result.now ≡ c.in-Ok.octets.items = search rules in
    unprinted c.in-Ok.octets.items c.args.path.now _ _ c.print_refusal-in-Err-print.result _ _ c.in-Err-print.fault
    loads.found loads.kept loads.unfailed (rw same at c.in-Err-print.ensures.prints) (rw c.path_of.ensures at c.print_refusal-in-Err-print.ensures.ends)
