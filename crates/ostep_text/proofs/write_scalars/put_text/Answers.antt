use Rattle.std.proofs.Common.{◌≡◌, sym, ap, ◌∙◌}
use Rattle.std.specs.Prelude.{flat_map}
use Rattle.plist_value.specs.Texts.{units_of}
use Rattle.plist_value.specs.Escapes.{quoted_unit}
use Rattle.ostep_text.specs.Written.{written_text}
use Rattle.ostep_text.proofs.UnquotedText.{unquoted_text}
use Rattle.ostep_text.proofs.write_scalars.put_text.Goals as goal

pub returns-then-is_unquoted : goal.returns-then-is_unquoted
returns-then-is_unquoted c =
    let us = units_of c.of_units-text.result in
    let same : flat_map quoted_unit us ≡ written_text c.args.units.now = unquoted_text us (sym c.is_unquoted.ensures ∙ c.if-is_unquoted.true) ∙ ap written_text c.of_units-text.ensures.text in
    rw same at c.put_units.ensures
