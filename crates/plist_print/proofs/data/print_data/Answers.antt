use Rattle.std.proofs.Common.{◌+◌, min, [], ◌∷◌, ◌++◌, refl}
use Rattle.plist_value.specs.Plist.{bytes}
use Rattle.plist_write.specs.BufferedSink.{sink_state}
use Rattle.plist_print.specs.Printed.{indent, octet_lines, printed_line}
use Rattle.plist_print.proofs.DataLines.{bytes-enclosed}
use Rattle.plist_write.proofs.Going.{Emits_then}
use Rattle.plist_write.proofs.Steps.{refused, brackets_unopened, brackets_unfilled, brackets_closed}
use Rattle.plist_print.proofs.data.print_data.Goals as goal

pub returns-in_err-put : goal.returns-in_err-put
returns-in_err-put g c =
    let xs = c.args.octets.now in
    let is = bytes-enclosed c.args.level (min c.args.level 32) xs refl c.requires in
    record { emits = refused c.from_residual.result c.from_residual.ensures.1 (brackets_unopened (60 ∷ 10 ∷ []) (octet_lines (indent (min c.args.level 32 + 1)) xs) (indent c.args.level ++ (62 ∷ 10 ∷ [])) (printed_line c.args.level (bytes xs)) is (sink_state g.W.Sink c.args.out.now) (sink_state g.W.Sink c.put.new.self) _ c.in_err-put.ensures.emits) }

pub returns-in_err-print_lines : goal.returns-in_err-print_lines
returns-in_err-print_lines g c =
    let xs = c.args.octets.now in
    let is = bytes-enclosed c.args.level c.min.result xs c.min.ensures c.requires in
    record { emits = refused c.from_residual-in_err-print_lines.result c.from_residual-in_err-print_lines.ensures.1 (brackets_unfilled (60 ∷ 10 ∷ []) (octet_lines (indent (c.min.result + 1)) xs) (indent c.args.level ++ (62 ∷ 10 ∷ [])) (printed_line c.args.level (bytes xs)) is (sink_state g.W.Sink c.args.out.now) (sink_state g.W.Sink c.put.new.self) (sink_state g.W.Sink c.print_lines.new.out) _ _ c.in_ok-put.ensures.emits c.in_err-print_lines.ensures.emits) }

pub returns-in_err-begin_line : goal.returns-in_err-begin_line
returns-in_err-begin_line g c =
    let xs = c.args.octets.now in
    let is = bytes-enclosed c.args.level c.min.result xs c.min.ensures c.requires in
    let lines = octet_lines (indent (c.min.result + 1)) xs in
    let p = sink_state g.W.Sink c.args.out.now in
    let r = sink_state g.W.Sink c.print_lines.new.out in
    let begun = Emits_then (60 ∷ 10 ∷ []) lines p (sink_state g.W.Sink c.put.new.self) r _ _ c.in_ok-put.ensures.emits c.in_ok-print_lines.ensures.emits in
    record { emits = refused c.from_residual-in_err-begin_line.result c.from_residual-in_err-begin_line.ensures.1 (brackets_unfilled (60 ∷ 10 ∷ lines) (indent c.args.level) (62 ∷ 10 ∷ []) (printed_line c.args.level (bytes xs)) is p r (sink_state g.W.Sink c.begin_line.new.out) _ _ begun c.in_err-begin_line.ensures.emits) }

pub returns : goal.returns
returns g c =
    let xs = c.args.octets.now in
    let is = bytes-enclosed c.args.level c.min.result xs c.min.ensures c.requires in
    let lines = octet_lines (indent (c.min.result + 1)) xs in
    let p = sink_state g.W.Sink c.args.out.now in
    let r = sink_state g.W.Sink c.print_lines.new.out in
    let begun = Emits_then (60 ∷ 10 ∷ []) lines p (sink_state g.W.Sink c.put.new.self) r _ _ c.in_ok-put.ensures.emits c.in_ok-print_lines.ensures.emits in
    record { emits = brackets_closed (60 ∷ 10 ∷ lines) (indent c.args.level) (62 ∷ 10 ∷ []) (printed_line c.args.level (bytes xs)) is p r (sink_state g.W.Sink c.begin_line.new.out) (sink_state g.W.Sink c.put-2.new.self) _ _ c.put-2.result begun c.in_ok-begin_line.ensures.emits c.put-2.ensures.emits }
