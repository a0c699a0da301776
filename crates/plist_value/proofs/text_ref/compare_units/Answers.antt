use Rattle.std.proofs.Common.{◌≡◌, length, nat_cmp, refl, sym, arith, ◌∙◌}
use Rattle.plist_value.specs.Texts.{units_of}
use Rattle.plist_value.proofs.Behind.{slice_cmp-differ, slice_cmp-lengths}
use Rattle.plist_value.proofs.text_ref.compare_units.Goals as goal

pub returns-then-i-most : goal.returns-then-i-most
returns-then-i-most c =
    let xs = units_of c.args.text.now in
    let ys = units_of c.args.other.now in
    let order = slice_cmp-lengths c.alike-i.result xs ys (omega arith) c.alike-i.ensures.same in
    let lengths : c.cmp.result ≡ nat_cmp (length xs) (length ys) = rw (c.cmp.ensures, c.len-then-i-most.ensures, c.len-then-i-most-2.ensures) refl in
    lengths ∙ sym order

pub returns : goal.returns
returns c =
    let xs = units_of c.args.text.now in
    let ys = units_of c.args.other.now in
    let order = slice_cmp-differ c.alike-i.result xs ys (omega arith) (omega arith) c.alike-i.ensures.same (c.alike-i.ensures.differ (omega arith)) in
    let units : c.cmp-2.result ≡ nat_cmp c.unit-unit.result c.unit-other_unit.result = c.cmp-2.ensures in
    rw (units, c.unit-unit.ensures, c.unit-other_unit.ensures) (sym order)
