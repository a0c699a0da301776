use Rattle.std.proofs.Common.{inl, refl}
use Rattle.plist_convert.specs.Runs.{IsConvertRun}
use Rattle.plist_convert.specs.State.{run_state}
use Rattle.plist_convert.proofs.Conversions.{converted, unconverted}
use Rattle.plist_convert.proofs.executing.convert_file.Goals as goal

pub returns-in-Err-clause-run : goal.returns-in-Err-clause-run
unfolding IsConvertRun
returns-in-Err-clause-run g c =
    let loads = c.in-Err.ensures.loads in
    inl (record { fault = c.in-Err.fault; cause = loads.refused; kept = loads.kept; ends = c.print_refusal.ensures.ends })

pub returns-in-Ok-store-clause-run : goal.returns-in-Ok-store-clause-run
returns-in-Ok-store-clause-run g c =
    let middle = run_state g.O.Opens.files g.W.Sink.taken g.W.Sink.failures c.load.new.self c.args.output.now in
    let loads = c.in-Ok.ensures.loads in
    rw c.code.ensures.code (converted c.args.to.form c.in-Ok.octets.items c.args.from.now c.args.to.path.now _ middle _ c.in-Ok-store.field-0
    loads.found loads.kept loads.unfailed refl refl c.in-Ok-store.ensures.stores)

pub returns-in-Err-store-clause-run : goal.returns-in-Err-store-clause-run
returns-in-Err-store-clause-run g c =
    let middle = run_state g.O.Opens.files g.W.Sink.taken g.W.Sink.failures c.load.new.self c.args.output.now in
    let loads = c.in-Ok.ensures.loads in
    unconverted c.args.to.form c.in-Ok.octets.items c.args.from.now c.args.to.path.now _ middle _ c.print_refusal-in-Err-store.result c.in-Err-store.fault
    loads.found loads.kept loads.unfailed c.in-Err-store.ensures.stores (rw c.path_of.ensures at c.print_refusal-in-Err-store.ensures.ends)
