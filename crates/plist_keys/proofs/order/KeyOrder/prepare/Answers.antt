use Rattle.std.proofs.Common.{◌≡◌, true, ◌∙◌, sym, ap, rules}
use Rattle.std.specs.Option.{is_none}
use Rattle.plist_object.specs.Views.{octets_of}
use Rattle.plist_keys.proofs.Counting.{Counted-overlap}
use Rattle.plist_keys.proofs.order.KeyOrder.prepare.Goals as goal

pub returns-2-clause-overlap : goal.returns-2-clause-overlap
returns-2-clause-overlap c = λ apart.
    let named = c.in_ok-named.named in
    let counted = c.in_ok-named.ensures.counted in
    let overlaps : c.overlap.result ≡ true = search rules in
    let none : is_none named.room ≡ true = ap is_none (sym c.ranks.ensures.room) ∙ sym c.overlap.ensures ∙ overlaps in
    Counted-overlap (octets_of c.args.file.now) counted.0 named.room named.named named.seen.items none counted.1
