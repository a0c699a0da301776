use Rattle.std.proofs.Common.{◌++◌}
use Rattle.std.specs.Prelude.{codes}
use Rattle.plist_value.specs.Texts.{units_of}
use Rattle.plist_write.specs.BufferedSink.{sink_state}
use Rattle.plist_write.proofs.Going.{Emits_then}
use Rattle.plist_print.specs.Units.{printed_text}
use Rattle.plist_print.specs.Printed.{indent}
use Rattle.plist_print.proofs.layout.begin_pair.Goals as goal

pub returns : goal.returns
returns g c = record {
  emits = Emits_then (indent c.args.level) (printed_text (units_of c.args.key.now) ++ codes " => ") (sink_state g.W.Sink c.args.out.now) (sink_state g.W.Sink c.begin_line.new.out) (sink_state g.W.Sink c.print_text.new.out) _ c.print_text.result c.in_ok-begin_line.ensures.emits c.print_text.ensures.emits;
}
