use Rattle.std.proofs.Common.{◌≡◌, true, false, sym, ◌∙◌, arith, rules}
use Rattle.plist_print.specs.Units.{is_visible_pair}
use Rattle.plist_print.proofs.Visible.{pair-visible}
use Rattle.plist_print.proofs.invisible.visible_pair.Goals as goal

pub returns-then-not-is_visible : goal.returns-then-not-is_visible
returns-then-not-is_visible c =
    let hidden : is_visible_pair c.args.high c.args.low ≡ false = pair-visible c.args.high c.args.low _ (omega arith) (omega arith) (omega arith) (omega arith) (omega arith) ∙ sym c.is_visible.ensures ∙ c.if-not-is_visible.true in
    rw hidden

pub returns : goal.returns
returns c =
    let shown : is_visible_pair c.args.high c.args.low ≡ true = pair-visible c.args.high c.args.low _ (omega arith) (omega arith) (omega arith) (omega arith) (omega arith) ∙ sym c.is_visible.ensures ∙ c.if-not-is_visible.false in
    rw shown (search rules)
