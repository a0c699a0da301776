use Rattle.std.proofs.Common.{sym, ap, ◌∙◌, arith}
use Rattle.std.proofs.lemmas.List.{get_or-map, length-map}
use Rattle.std.proofs.lemmas.Option.{slice_get_within, get_or_from_slice_get}
use Rattle.plist_value.specs.Texts.{units_of}
use Rattle.plist_keys.proofs.Ranked.{ranked_holds}
use Rattle.plist_keys.proofs.order.ranked.Goals as goal

pub returns-clause-held : goal.returns-clause-held
returns-clause-held c f are =
    let first = sym c.get.ensures ∙ c.in_ok-rank.was in
    let second = sym c.text.ensures ∙ c.in_ok-text.was in
    (ranked_holds f c.args.ranks.now c.args.object c.in_ok-rank.rank c.in_ok-text.field-0 are first second).0

pub returns-clause-ranked : goal.returns-clause-ranked
returns-clause-ranked c =
    let items = c.args.ranks.now.texts.items in
    let rank = c.in_ok-rank.rank in
    let t = c.in_ok-text.field-0 in
    let found = sym c.text.ensures ∙ c.in_ok-text.was in
    let within = slice_get_within items rank t found in
    (omega (arith, within, length-map items units_of), get_or-map units_of items rank t _ within ∙ ap units_of (get_or_from_slice_get items rank t t found))
