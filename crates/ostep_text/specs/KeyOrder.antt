-- The order of keys is total, and keys that are equal in it have equal units.
use Rattle.std.specs.Prelude.{◌≡◌, true, ℕ, List, nat_eq}
use Rattle.std.specs.declared.cmp.Ordering.{Ordering}
use Rattle.std.specs.declared.cmp.Ordering.TheVariants.{Equal}
use Rattle.std.specs.Ordering.{is_eq, eq_by_cmp, as_partial_cmp, nat_cmp, ordering_then}
use Rattle.std.specs.Cmp.{IsTotalOrder, IsPartialOrder, tied_itself, then_total, on_total}
use Rattle.std.specs.Cmp.{nat_cmp_total, partial_order_from_total}
use Rattle.std.specs.Cmp.Lexicographic.{pointwise, slice_cmp, texts_ties, bytes_decides}
use Rattle.std.specs.Cmp.Lexicographic.{lists_total}
use Rattle.std.proofs.Common.{refl, sym, ap, ◌∙◌}
use Rattle.std.proofs.lemmas.Bool.{false_from_ne_true}
use Rattle.ostep_text.specs.Key.{number_of, key_cmp}

pub key_total : IsTotalOrder key_cmp
key_total = then_total (on_total number_of nat_cmp_total) (lists_total nat_cmp_total)

pub key_partial : IsPartialOrder (eq_by_cmp key_cmp) (as_partial_cmp key_cmp)
key_partial = partial_order_from_total key_total

-- equal units have equal numbers
level : (xs ys : List ℕ) → pointwise nat_eq xs ys ≡ true
    → nat_cmp (number_of xs) (number_of ys) ≡ Equal
level xs ys s =
    ap (λ zs. nat_cmp (number_of xs) (number_of zs)) (sym ((bytes_decides xs ys).0 s))
    ∙ tied_itself nat_cmp_total (number_of xs)

tied : (xs ys : List ℕ) (a : Ordering) → nat_cmp (number_of xs) (number_of ys) ≡ a
    → pointwise nat_eq xs ys ≡ is_eq (ordering_then a (slice_cmp nat_cmp xs ys))
tied xs ys Equal e = texts_ties xs ys
tied xs ys a e = false_from_ne_true (pointwise nat_eq xs ys) (λ s. cc (level xs ys s, e))

pub key_ties : (xs ys : List ℕ) → pointwise nat_eq xs ys ≡ is_eq (key_cmp xs ys)
key_ties xs ys = tied xs ys (nat_cmp (number_of xs) (number_of ys)) refl
