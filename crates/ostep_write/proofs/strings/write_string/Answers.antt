use Rattle.std.proofs.Common.{[], ◌∷◌, sym, ◌∙◌}
use Rattle.std.specs.Prelude.{flat_map}
use Rattle.plist_value.specs.Texts.{units_of}
use Rattle.plist_write.proofs.Going.{Emits_same}
use Rattle.plist_write.proofs.Steps.{refused, brackets_unopened, brackets_unfilled, brackets_closed}
use Rattle.plist_value.specs.Escapes.{quoted_unit}
use Rattle.ostep_text.specs.Written.{written_text}
use Rattle.ostep_text.proofs.UnquotedText.{unquoted_text, quoted_text}
use Rattle.ostep_write.proofs.strings.write_string.Goals as goal

pub returns-then-is_unquoted : goal.returns-then-is_unquoted
returns-then-is_unquoted g c =
    let us = units_of c.args.text.now in
    record { emits = Emits_same (flat_map quoted_unit us) (written_text us) _ _ c.write_units.result (unquoted_text us (sym c.is_unquoted.ensures ∙ c.if-is_unquoted.true)) c.write_units.ensures.emits }

pub returns-in_err-put : goal.returns-in_err-put
returns-in_err-put g c =
    let us = units_of c.args.text.now in
    record { emits = refused c.from_residual.result c.from_residual.ensures.1 (brackets_unopened (34 ∷ []) (flat_map quoted_unit us) (34 ∷ []) (written_text us) (quoted_text us (sym c.is_unquoted.ensures ∙ c.if-is_unquoted.false)) _ _ _ c.in_err-put.ensures.emits) }

pub returns-in_err-write_units : goal.returns-in_err-write_units
returns-in_err-write_units g c =
    let us = units_of c.args.text.now in
    record { emits = refused c.from_residual-in_err-write_units.result c.from_residual-in_err-write_units.ensures.1 (brackets_unfilled (34 ∷ []) (flat_map quoted_unit us) (34 ∷ []) (written_text us) (quoted_text us (sym c.is_unquoted.ensures ∙ c.if-is_unquoted.false)) _ _ _ _ _ c.in_ok-put.ensures.emits c.in_err-write_units.ensures.emits) }

pub returns : goal.returns
returns g c =
    let us = units_of c.args.text.now in
    record { emits = brackets_closed (34 ∷ []) (flat_map quoted_unit us) (34 ∷ []) (written_text us) (quoted_text us (sym c.is_unquoted.ensures ∙ c.if-is_unquoted.false)) _ _ _ _ _ _ _ c.in_ok-put.ensures.emits c.in_ok-write_units.ensures.emits c.put-2.ensures.emits }
