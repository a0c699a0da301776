use Rattle.plist_value.specs.Texts.{units_of}
use Rattle.plist_print.proofs.Plain.{run-printed}
use Rattle.plist_value.proofs.Quoted.{run-of, run-within}
use Rattle.plist_print.proofs.strings.put_some.Goals as goal

pub returns-then-not-is_empty-clause-octets : goal.returns-then-not-is_empty-clause-octets
returns-then-not-is_empty-clause-octets c =
    let us = units_of c.args.text.now in
    let run = c.literal_run-run.result.now in
    let is = run-of c.args.index c.in-Some.ensures.text c.literal_run-run.ensures in
    record { piece = run; put = c.in_ok-extend_from_slice.ensures.items; split = run-printed us run c.args.index is }

pub returns-then-not-is_empty-clause-within : goal.returns-then-not-is_empty-clause-within
returns-then-not-is_empty-clause-within c =
    let is = run-of c.args.index c.in-Some.ensures.text c.literal_run-run.ensures in
    run-within (units_of c.args.text.now) c.literal_run-run.result.now c.args.index c.requires is
