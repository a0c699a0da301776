-- Which items are writable, one by one.
use Rattle.std.proofs.Common.{◌≡◌, Bool, true, false, List, [], ◌∷◌, ◌++◌, refl, sym, ap, ◌∙◌}
use Rattle.std.specs.Prelude.{◌&&◌}
use Rattle.std.proofs.Math.Bool.{and_assoc}
use Rattle.plist_value.specs.Plist.{Plist, Items, no_items, item}
use Rattle.plist_value.specs.View.{items_of}
use Rattle.plist_value.specs.Writable.{is_writable, are_writable_items}
use Rattle.plist_value.proofs.Items.{push, items_of-push}

and_true : (b : Bool) → (b && true) ≡ b
and_true true = refl
and_true false = refl

-- one more item
writable-push : (vs : Items) (v : Plist) → are_writable_items (push vs v) ≡ (are_writable_items vs && is_writable v)
writable-push no_items v = and_true (is_writable v)
writable-push (item w vs) v =
    ap (λ rest. is_writable w && rest) (writable-push vs v) ∙ sym (and_assoc (is_writable w) (are_writable_items vs) (is_writable v))

-- the items so far, and one more
pub writable-next : (first so_far all : Bool) (vs : List Plist) (v : Plist) → so_far ≡ (first && are_writable_items (items_of vs)) → all ≡ (so_far && is_writable v) → all ≡ (first && are_writable_items (items_of (vs ++ v ∷ [])))
writable-next first so_far all vs v before is =
    let pushed = ap are_writable_items (items_of-push vs v) ∙ writable-push (items_of vs) v in
    is ∙ ap (λ b. b && is_writable v) before ∙ and_assoc first (are_writable_items (items_of vs)) (is_writable v) ∙ ap (λ b. first && b) (sym pushed)

-- what stays so if it is so
pub kept : (all b : Bool) → (all ≡ true → b ≡ true) → all ≡ (all && b)
kept true b is = sym (is refl)
kept false b is = refl
