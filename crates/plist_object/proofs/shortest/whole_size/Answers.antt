use Rattle.std.proofs.Common.{◌≡◌, arith, rules, sym, ap, ◌∙◌}
use Rattle.byteorder.specs.Endian.{big_number}
use Rattle.plist_value.specs.Plist.{AreOctets}
use Rattle.plist_object.specs.Spelling.{least_width}
use Rattle.plist_object.proofs.Wholes.{whole-begins}
use Rattle.plist_object.proofs.shortest.whole_size.Goals as goal

pub returns-then-from-width : goal.returns-then-from-width
returns-then-from-width c =
    let width = c.in_ok-width.width in
    let digits = c.in_ok-marker.digits.now in
    let are : AreOctets c.args.octets.now = search rules in
    let least : least_width (big_number width digits) ≡ width = sym (c.from.ensures ∙ c.width_of.ensures.value ∙ ap least_width c.number_in-number.ensures) ∙ c.if-from-width.true in
    whole-begins c.in_ok-marker.marker.now width c.args.octets.now digits c.in_ok-marker.ensures.cases.0 are (omega arith) c.in_ok-width.ensures.marker least
