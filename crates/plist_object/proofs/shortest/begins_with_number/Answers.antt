use Rattle.std.proofs.Common.{◌≡◌, take, ap, sym, ◌∙◌, arith}
use Rattle.std.proofs.lemmas.Bool.Decides.{Decides-eqb}
use Rattle.byteorder.specs.Endian.{big_bytes, big_number}
use Rattle.byteorder.specs.Numbers.{big_from-take}
use Rattle.plist_object.proofs.ReadBack.{big_number-big_bytes}
use Rattle.plist_object.proofs.SameOctets.{big_bytes-big_number}
use Rattle.plist_object.proofs.shortest.begins_with_number.Goals as goal

pub returns-then-octets-width : goal.returns-then-octets-width
returns-then-octets-width c =
    let octets = c.args.octets.now in
    let width = c.args.width in
    let n = c.args.n in
    let test = Decides-eqb c.number_in.result n in
    let read : c.number_in.result ≡ big_number width octets = rw c.from-width.ensures at c.number_in.ensures in
    let back : big_bytes width (big_number width octets) ≡ take width octets = big_bytes-big_number width octets (λ i. omega (arith, c.type_inv.octets i)) (omega (arith, c.if-octets-width.true, c.from-width.ensures)) in
    let first : big_number width (take width octets) ≡ big_number width octets = big_from-take 0 width width octets (omega arith) in (
      λ yes. sym back ∙ ap (big_bytes width) (sym read ∙ test.0 yes),
      λ begins. test.1 (read ∙ sym first ∙ ap (big_number width) begins ∙ big_number-big_bytes width n c.requires.fits),
    )
