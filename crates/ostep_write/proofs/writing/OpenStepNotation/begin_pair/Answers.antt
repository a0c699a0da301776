use Rattle.std.specs.Prelude.{codes}
use Rattle.plist_value.specs.Texts.{units_of}
use Rattle.plist_write.proofs.Going.{Emits_then, Emits_stop}
use Rattle.plist_write.proofs.Steps.{refused}
use Rattle.ostep_text.specs.Written.{written_text}
use Rattle.ostep_write.proofs.writing.OpenStepNotation.begin_pair.Goals as goal

pub returns-in_err-write_string : goal.returns-in_err-write_string
returns-in_err-write_string g c = record { emits = refused c.from_residual.result c.from_residual.ensures.1 (Emits_stop (written_text (units_of c.args.key.now)) (codes " = ") _ _ _ c.in_err-write_string.ensures.emits) }

pub returns : goal.returns
returns g c = record { emits = Emits_then (written_text (units_of c.args.key.now)) (codes " = ") _ _ _ _ _ c.in_ok-write_string.ensures.emits c.put.ensures.emits }
