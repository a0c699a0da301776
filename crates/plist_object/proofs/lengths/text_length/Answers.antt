use Rattle.std.proofs.Common.{sym, ◌∙◌, refl}
use Rattle.plist_value.specs.Texts.{units_of}
use Rattle.plist_object.proofs.Counts.{length-wide_text}
use Rattle.plist_object.proofs.lengths.text_length.Goals as goal

pub returns-else-is_ascii : goal.returns-else-is_ascii
returns-else-is_ascii c =
    let wide = sym c.is_ascii.ensures ∙ c.if-is_ascii.false in
    let size = rw c.len-units.ensures at c.head_length-else-is_ascii.ensures.size in
    rw (length-wide_text (units_of c.args.text.now) wide, size, c.len-units.ensures) refl
