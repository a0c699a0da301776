-- The positions of a tree, and the values there.
use Rattle.std.proofs.Common.{◌≡◌, ℕ, suc, ◌+◌, ◌<◌, List, [], ◌∷◌, ◌++◌, length, refl, sym, ap, subst, ◌∙◌, arith, add-one, length-append, append_assoc}
use Rattle.std.proofs.lemmas.List.{get_or_at, append-nil}
use Rattle.plist_value.specs.Plist.{Plist, scalar, list, table, Items, no_items, item, Pairs, no_pairs, pair}
use Rattle.plist_value.specs.Limits.{nodes, nodes_of_items, nodes_of_pairs}
use Rattle.plist_write.specs.Tree.{key_texts, preorder, preorder_items, preorder_values, key_positions, value_positions}
use Rattle.plist_write.specs.Sharing.{value_at}
pub use Rattle.plist_write.specs.Found.{OccursAt}

-- a tree has a position for each node
mutual
  pub length-preorder : (v : Plist) → length (preorder v) ≡ nodes v
  length-preorder (scalar s) = refl
  length-preorder (list vs) = let items = length-preorder_items vs in omega arith
  length-preorder (table ps) = let pairs = length-pairs ps in rw length-append (omega arith)

  pub length-preorder_items : (vs : Items) → length (preorder_items vs) ≡ nodes_of_items vs
  length-preorder_items no_items = refl
  length-preorder_items (item v vs) =
      let first = length-preorder v in let others = length-preorder_items vs in rw length-append (omega arith)

  pub length-pairs : (ps : Pairs) → length (key_texts ps) + length (preorder_values ps) ≡ nodes_of_pairs ps
  length-pairs no_pairs = refl
  length-pairs (pair key v ps) =
      let first = length-preorder v in let others = length-pairs ps in rw length-append (omega arith)

pub length-key_positions : (k : ℕ) (ps : Pairs) → length (key_positions k ps) ≡ length (key_texts ps)
length-key_positions k no_pairs = refl
length-key_positions k (pair key v ps) = let others = length-key_positions (suc k) ps in omega arith

pub length-value_positions : (k : ℕ) (ps : Pairs) → length (value_positions k ps) ≡ length (key_texts ps)
length-value_positions k no_pairs = refl
length-value_positions k (pair key v ps) = let others = length-value_positions (k + nodes v) ps in omega arith

-- a prefix of a list is at the same position, and the rest after it
pub OccursAt-front : {X : Type 0} {all : List X} {k : ℕ} (xs ys : List X) → OccursAt all k (xs ++ ys) → OccursAt all k xs
OccursAt-front xs ys h =
    record { before = h.before; after = ys ++ h.after; whole = h.whole ∙ ap (λ zs. h.before ++ zs) (append_assoc xs ys h.after); position = h.position }

pub OccursAt-rest : {X : Type 0} {all : List X} {k : ℕ} (xs ys : List X) (n : ℕ) → length xs ≡ n → OccursAt all k (xs ++ ys) → OccursAt all (k + n) ys
OccursAt-rest xs ys n long h =
    record {
      before = h.before ++ xs;
      after = h.after;
      whole = h.whole ∙ ap (λ zs. h.before ++ zs) (append_assoc xs ys h.after) ∙ sym (append_assoc h.before xs (ys ++ h.after));
      position = rw length-append (omega arith);
    }

pub OccursAt-tail : {X : Type 0} {all : List X} {k : ℕ} (x : X) (xs : List X) → OccursAt all k (x ∷ xs) → OccursAt all (suc k) xs
OccursAt-tail {X} {all} {k} x xs h =
    subst (λ (n : ℕ). OccursAt all n xs) (add-one k) (OccursAt-rest (x ∷ []) xs 1 refl h)

pub OccursAt-all : {X : Type 0} (xs : List X) → OccursAt xs 0 xs
OccursAt-all xs = record { before = []; after = []; whole = sym (append-nil xs); position = refl }

-- the value at the position of a list is its first element
pub OccursAt-head : {all : List Plist} {k : ℕ} (v : Plist) (vs : List Plist) → OccursAt all k (v ∷ vs) → (value_at all k ≡ v) × (k < length all)
OccursAt-head v vs h = rw (h.whole, length-append) (get_or_at h.before v (vs ++ h.after) (list no_items) _ h.position, omega arith)

pub preorder-head : (v : Plist) → (rest : List Plist) × (preorder v ≡ v ∷ rest)
preorder-head (scalar s) = ([], refl)
preorder-head (list vs) = (preorder_items vs, refl)
preorder-head (table ps) = (key_texts ps ++ preorder_values ps, refl)

pub OccursAt-tree : {all : List Plist} {k : ℕ} (v : Plist) → OccursAt all k (preorder v) → (value_at all k ≡ v) × (k < length all)
OccursAt-tree v h = let head = preorder-head v in OccursAt-head v head.0 (rw head.1 at h)
