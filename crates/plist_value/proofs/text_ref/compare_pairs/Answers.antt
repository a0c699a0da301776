use Rattle.std.proofs.Common.{◌∙◌, nat_cmp, refl, arith}
use Rattle.std.specs.Cmp.Lexicographic.{slice_cmp}
use Rattle.plist_value.proofs.WideUnits.{slice_cmp-pairs}
use Rattle.plist_value.proofs.text_ref.compare_pairs.Goals as goal

pub returns : goal.returns
returns c =
    c.cmp.ensures ∙ (λ i. slice_cmp nat_cmp (c.first_pairs-pairs.ensures i) (c.first_pairs.ensures i)) ∙ slice_cmp-pairs _ _ c.args.octets.now c.args.others.now refl refl (λ i. omega (arith, c.type_inv.octets i)) (λ i. omega (arith, c.type_inv.others i))
