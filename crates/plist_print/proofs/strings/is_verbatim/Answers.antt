use Rattle.std.proofs.Common.{◌∙◌, arith}
use Rattle.std.proofs.lemmas.Bool.Decides.{nat_tests}
use Rattle.plist_print.proofs.Visible.{in_ranges-visible}
use Rattle.plist_print.proofs.strings.is_verbatim.Goals as goal

pub returns-then-unit-ne92 : goal.returns-then-unit-ne92
returns-then-unit-ne92 c =
    let visible = (rw c.from.ensures at c.is_visible.ensures) ∙ in_ranges-visible c.args.unit (omega arith) in
    grind (arith, nat_tests, visible)
