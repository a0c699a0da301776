use Rattle.plist_write.proofs.Going.{Emits_then, Emits_stop}
use Rattle.plist_write.proofs.Steps.{refused}
use Rattle.plist_write.proofs.notation_writer.end_lines.Goals as goal

pub returns-in_err-begin_line : goal.returns-in_err-begin_line
returns-in_err-begin_line g c = record { emits = refused c.from_residual.result c.from_residual.ensures.1 (Emits_stop (g.N.Notation.parts.line_start c.args.level) (g.N.Notation.parts.mark_text c.args.close) _ _ _ c.in_err-begin_line.ensures.emits) }

pub returns : goal.returns
returns g c = record { emits = Emits_then (g.N.Notation.parts.line_start c.args.level) (g.N.Notation.parts.mark_text c.args.close) _ _ _ _ _ c.in_ok-begin_line.ensures.emits c.write_mark.ensures.emits }
