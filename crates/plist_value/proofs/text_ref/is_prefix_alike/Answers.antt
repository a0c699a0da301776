use Rattle.std.proofs.Common.{◌≡◌, ◌*◌, ap, sym, ◌∙◌, take, arith, rules}
use Rattle.plist_value.specs.Texts.{wide_units}
use Rattle.plist_value.proofs.WideUnits.{length-wide_units, take-wide_units}
use Rattle.plist_value.proofs.text_ref.is_prefix_alike.Goals as goal

pub first_pairs-requires : goal.first_pairs-requires
first_pairs-requires c = search (rules, length-wide_units)

pub first_pairs-requires-in-Wide-Wide : goal.first_pairs-requires-in-Wide-Wide
first_pairs-requires-in-Wide-Wide c = search (rules, length-wide_units)

pub returns-in-Wide-Wide : goal.returns-in-Wide-Wide
returns-in-Wide-Wide c equal =
    let n = c.args.count in
    let xs = c.in-Wide-Wide.octets.now in
    let ys = c.in-Wide-Wide.others.now in
    let bytes : take (n * 2) ys ≡ take (n * 2) xs = search rules in
    let units = take-wide_units n (n * 2) ys (omega arith) ∙ ap wide_units bytes ∙ sym (take-wide_units n (n * 2) xs (omega arith)) in
    rw (c.in-Wide-Wide.is-0, c.in-Wide-Wide.is-1) units
