-- The objects of a tree follow the rules about one object and its references.
use Rattle.std.proofs.Common.{◌≡◌, ℕ, suc, ◌+◌, ◌<◌, List, [], ◌∷◌, ◌++◌, length, map, Ok, refl, sym, ap, subst, ◌∙◌, arith, ◌≤◌, ltb, inl, inr, add-zero, lt-ltb}
use Rattle.std.specs.declared.cmp.Ordering.TheVariants.{Less}
use Rattle.std.specs.Ordering.{nat_cmp}
use Rattle.std.specs.Cmp.Lexicographic.{slice_cmp}
use Rattle.std.specs.List.{AllByRecursion}
use Rattle.std.specs.List.Sorted.{IsStrictlySortedBy}
use Rattle.std.proofs.lemmas.Cmp.{nat_list_cmp_total}
use Rattle.plist_value.specs.Plist.{Scalar, text, Plist, scalar, list, table, Items, no_items, item, Pairs, no_pairs, pair, IsPlist, ArePairs, IsKeyBelow}
use Rattle.plist_object.specs.Layout.{trailer_of}
use Rattle.plist_object.specs.Objects.{holds_scalar, holds_list, holds_table}
use Rattle.plist_object.specs.Places.{what_holds, Holds, HoldsText, HoldsScalar}
use Rattle.plist_object.proofs.Uniqueness.{same_held}
use Rattle.plist_write.specs.Tree.{key_texts, preorder, preorder_items, preorder_values, item_positions, key_positions, value_positions}
use Rattle.plist_write.specs.Sharing.{first_position, kept_positions, value_at, count_below}
use Rattle.plist_write.specs.Found.{OccursAt, held_at, number_in}
use Rattle.plist_canon.specs.Rules.{HoldTexts, IsWellRead, HasAscendingKeys, IsNoRepeat, Walk, visit, Walks, end, step, IsNumberedInPreorder}
use Rattle.plist_canon.proofs.InOrder.{MeetsInOrder, AreBelow-none, AreInOrder-none, in_order}
use Rattle.plist_write.proofs.Trees.{length-preorder, OccursAt-front, OccursAt-rest, OccursAt-tail, OccursAt-head, OccursAt-tree, OccursAt-all}
use Rattle.plist_canon.proofs.KeptPositions.{is_made, count_below-end}
use Rattle.plist_canon.proofs.Checks.{every_append}
use Rattle.plist_canon.proofs.Visiting.{Walks-append}
use Rattle.std.proofs.lemmas.Bool.{cond_both, cases_lt, le-ltb}
use Rattle.plist_write.proofs.Numbering.{count_below-none, first_position-le, first_position-holds, first_position-first, number-top}
use Rattle.plist_write.proofs.Counting.{count-kept, count-shared}

-- The file has one object for each position of a tree that has an object of its own, and the object of
-- each position contains what is there.
pub record HasObjects (f : List ℕ) (all : List Plist) : Type 0 where
  pub counted : (trailer_of f).count ≡ length (kept_positions all)
  pub reads : (k : ℕ) (v : Plist) → value_at all k ≡ v → k < length all → Holds f (number_in all k) (held_at (number_in all) k v)
  pub stands : (k : ℕ) → k < length all → OccursAt all k (preorder (value_at all k))

-- the keys of a dictionary in order
abbrev key_units : Pairs → List (List ℕ)
key_units no_pairs = []
key_units (pair key v ps) = key ∷ key_units ps

keys_above : (key : List ℕ) (ps : Pairs) → IsKeyBelow key ps → ArePairs ps → AllByRecursion (λ units. slice_cmp nat_cmp key units ≡ Less) (key_units ps)
keys_above key no_pairs below valid = tt
keys_above key (pair next v no_pairs) below valid = (below, tt)
keys_above key (pair next v (pair third w ps)) below valid =
    (below, keys_above key (pair third w ps) (nat_list_cmp_total.trans key next third below valid.2) valid.3)

keys_ascend : (ps : Pairs) → ArePairs ps → IsStrictlySortedBy (slice_cmp nat_cmp) (key_units ps)
unfolding IsStrictlySortedBy
keys_ascend no_pairs valid = tt
keys_ascend (pair key v ps) valid = (keys_above key ps valid.2 valid.3, keys_ascend ps valid.3)

module _ (f : List ℕ) (all : List Plist) (has : HasObjects f all) where
  abbrev IsListed : ℕ → Type 0
  IsListed reference = reference < (trailer_of f).count

  tree_holds : (v : Plist) (k : ℕ) → OccursAt all k (preorder v) → Holds f (number_in all k) (held_at (number_in all) k v)
  tree_holds v k h = let at = OccursAt-tree v h in has.reads k v at.0 at.1

  listed_items : (vs : Items) (k : ℕ) → OccursAt all k (preorder_items vs) → AllByRecursion IsListed (map (number_in all) (item_positions k vs))
  listed_items no_items k h = tt
  listed_items (item v vs) k h = (
    (tree_holds v k (OccursAt-front (preorder v) (preorder_items vs) h)).listed,
    listed_items vs (k + _) (OccursAt-rest (preorder v) (preorder_items vs) _ (length-preorder v) h),
  )

  listed_values : (ps : Pairs) (k : ℕ) → OccursAt all k (preorder_values ps) → AllByRecursion IsListed (map (number_in all) (value_positions k ps))
  listed_values no_pairs k h = tt
  listed_values (pair key v ps) k h = (
    (tree_holds v k (OccursAt-front (preorder v) (preorder_values ps) h)).listed,
    listed_values ps (k + _) (OccursAt-rest (preorder v) (preorder_values ps) _ (length-preorder v) h),
  )

  key_holds : (key : List ℕ) (rest : List Plist) (k : ℕ) → OccursAt all k (scalar (text key) ∷ rest) → Holds f (number_in all k) (holds_scalar (text key))
  key_holds key rest k h = let at = OccursAt-head (scalar (text key)) rest h in has.reads k (scalar (text key)) at.0 at.1

  listed_keys : (ps : Pairs) (k : ℕ) → OccursAt all k (key_texts ps) → AllByRecursion IsListed (map (number_in all) (key_positions k ps))
  listed_keys no_pairs k h = tt
  listed_keys (pair key v ps) k h =
      let holds = key_holds key (key_texts ps) k h in
      (holds.listed, listed_keys ps (suc k) (OccursAt-tail (scalar (text key)) (key_texts ps) h))

  keys_hold : (ps : Pairs) (k : ℕ) → OccursAt all k (key_texts ps) → AllByRecursion (HoldsText f) (map (number_in all) (key_positions k ps))
  keys_hold no_pairs k h = tt
  keys_hold (pair key v ps) k h =
      ((key, key_holds key (key_texts ps) k h), keys_hold ps (suc k) (OccursAt-tail (scalar (text key)) (key_texts ps) h))

  well_read_at : (v : Plist) (k : ℕ) → OccursAt all k (preorder v) → IsWellRead f (number_in all k)
  well_read_at (scalar s) k h =
      record { held = holds_scalar s; holds = tree_holds (scalar s) k h; numbers = tt; texts = tt }
  well_read_at (list vs) k h =
      record {
        held = held_at (number_in all) k (list vs);
        holds = tree_holds (list vs) k h;
        numbers = listed_items vs (suc k) (OccursAt-tail (list vs) (preorder_items vs) h);
        texts = tt;
      }
  well_read_at (table ps) k h =
      let below = OccursAt-tail (table ps) (key_texts ps ++ preorder_values ps) h in
      let keys = OccursAt-front (key_texts ps) (preorder_values ps) below in
      let values = OccursAt-rest (key_texts ps) (preorder_values ps) (length (key_texts ps)) refl below in
      record {
        held = held_at (number_in all) k (table ps);
        holds = tree_holds (table ps) k h;
        numbers = every_append IsListed (map (number_in all) (key_positions (suc k) ps)) (map (number_in all) (value_positions (suc k + length (key_texts ps)) ps)) (listed_keys ps (suc k) keys) (listed_values ps (suc k + length (key_texts ps)) values);
        texts = keys_hold ps (suc k) keys;
      }

  pub well_read : (i : ℕ) → i < (trailer_of f).count → IsWellRead f i
  well_read i h =
      let made = is_made all i (rw has.counted at h) in
      subst (IsWellRead f) made.number_is (well_read_at (value_at all made.position) made.position (has.stands made.position made.below))

  -- the strings that references to keys point to are the keys
  texts_named : (ps : Pairs) (k : ℕ) (texts : List (List ℕ)) → OccursAt all k (key_texts ps) → HoldTexts f (map (number_in all) (key_positions k ps)) texts → texts ≡ key_units ps
  texts_named no_pairs k [] h named = refl
  texts_named no_pairs k (units ∷ texts) h named = absurd named
  texts_named (pair key v ps) k [] h named =
      absurd (let none : number_in all k ∷ map (number_in all) (key_positions (suc k) ps) ≡ [] = named in cc)
  texts_named (pair key v ps) k (units ∷ texts) h named =
      let first = same_held f (number_in all k) (holds_scalar (text units)) (holds_scalar (text key)) named.0 (key_holds key (key_texts ps) k h) in
      let others = texts_named ps (suc k) texts (OccursAt-tail (scalar (text key)) (key_texts ps) h) named.1 in
      cc

  ascending_at : (v : Plist) (k : ℕ) → OccursAt all k (preorder v) → IsPlist v → HasAscendingKeys f (number_in all k)
  ascending_at (scalar s) k h valid keys values texts reads named =
      let holds = (tree_holds (scalar s) k h).reads in
      absurd (let e : Ok (holds_scalar s) ≡ Ok (holds_table keys values) = sym holds ∙ reads in cc)
  ascending_at (list vs) k h valid keys values texts reads named =
      let holds = (tree_holds (list vs) k h).reads in
      absurd (let e : Ok (holds_list (map (number_in all) (item_positions (suc k) vs))) ≡ Ok (holds_table keys values) = sym holds ∙ reads in cc)
  ascending_at (table ps) k h valid keys values texts reads named =
      let holds = (tree_holds (table ps) k h).reads in
      let e : Ok (held_at (number_in all) k (table ps)) ≡ Ok (holds_table keys values) = sym holds ∙ reads in
      let same : keys ≡ map (number_in all) (key_positions (suc k) ps) = cc in
      let below = OccursAt-tail (table ps) (key_texts ps ++ preorder_values ps) h in
      let texts_are = texts_named ps (suc k) texts (OccursAt-front (key_texts ps) (preorder_values ps) below) (subst (λ (refs : List ℕ). HoldTexts f refs texts) same named) in
      subst (IsStrictlySortedBy (slice_cmp nat_cmp)) (sym texts_are) (keys_ascend ps valid)

  pub ascending : ((k : ℕ) → k < length all → IsPlist (value_at all k)) → (i : ℕ) → i < (trailer_of f).count → HasAscendingKeys f i
  ascending valid i h =
      let made = is_made all i (rw has.counted at h) in
      subst (HasAscendingKeys f) made.number_is (ascending_at (value_at all made.position) made.position (has.stands made.position made.below) (valid made.position made.below))

  -- a position whose object is a scalar contains that scalar
  scalar_from : (v : Plist) (k : ℕ) (s : Scalar) → held_at (number_in all) k v ≡ holds_scalar s → v ≡ scalar s
  scalar_from (scalar t) k s e = cc
  scalar_from _ k s e = absurd (cc)

  scalar_at : (k : ℕ) (s : Scalar) → k < length all → what_holds f (number_in all k) ≡ Ok (holds_scalar s) → value_at all k ≡ scalar s
  scalar_at k s h reads =
      let holds = (has.reads k (value_at all k) refl h).reads in
      let e : Ok (held_at (number_in all) k (value_at all k)) ≡ Ok (holds_scalar s) = sym holds ∙ reads in
      scalar_from (value_at all k) k s (cc)

  -- two first positions of one scalar are the same
  same_place : (s : Scalar) (j k : ℕ) → value_at all j ≡ scalar s → value_at all k ≡ scalar s → first_position all j (value_at all j) ≡ j → first_position all k (value_at all k) ≡ k → j ≡ k
  same_place s j k at_j at_k own_j own_k =
      let a : first_position all j (scalar s) ≡ j = rw at_j at own_j in
      let b : first_position all k (scalar s) ≡ k = rw at_k at own_k in
      sym a ∙ b

  pub no_repeat : (i : ℕ) → i < (trailer_of f).count → IsNoRepeat f i
  no_repeat i h s reads earlier before other =
      let made = is_made all i (rw has.counted at h) in
      let under : earlier < (trailer_of f).count = omega arith in
      let first = is_made all earlier (rw has.counted at under) in
      let at = scalar_at made.position s made.below (ap (what_holds f) made.number_is ∙ reads) in
      let first_at = scalar_at first.position s first.below (ap (what_holds f) first.number_is ∙ other) in
      let same = same_place s first.position made.position first_at at first.own made.own in
      let e : earlier ≡ i = sym first.number_is ∙ ap (number_in all) same ∙ made.number_is in
      omega arith

-- The walk through the objects of a tree visits them in the order of its positions.

-- the numbers of the positions from k on, where these values are
abbrev pub entries_of : (ℕ → ℕ) → ℕ → List Plist → List ℕ
entries_of number k [] = []
entries_of number k (v ∷ rest) = number k ∷ entries_of number (suc k) rest

entries-append : (number : ℕ → ℕ) (k : ℕ) (xs ys : List Plist) → entries_of number k (xs ++ ys) ≡ entries_of number k xs ++ entries_of number (k + length xs) ys
entries-append number k [] ys = rw add-zero refl
entries-append number k (x ∷ xs) ys =
    let others = entries-append number (suc k) xs ys in
    let moved : suc k + length xs ≡ k + suc (length xs) = omega arith in
    ap (λ ns. number k ∷ ns) (rw moved at others)

-- the count of kept positions grows with the position
count-grows : (m n : ℕ) (kept : List (ℕ × Plist)) → m ≤ n → count_below m kept ≤ count_below n kept
count-grows m n [] h = omega arith
count-grows m n (p ∷ kept) h =
    let others = count-grows m n kept h in
    elim (cases_lt p.0 m) [
      | inl below ↦ rw (lt-ltb p.0 m below, lt-ltb p.0 n (omega arith)) (omega arith)
      | inr above ↦ rw (le-ltb p.0 m above) (cond_both (ltb p.0 n) (suc (count_below n kept)) (count_below n kept) (λ c. count_below m kept ≤ c) (λ _. omega arith) (λ _. omega arith))
    ]

module _ (f : List ℕ) (all : List Plist) (has : HasObjects f all) where
  walk_keys : (ps : Pairs) (k : ℕ) → OccursAt all k (key_texts ps) → Walks f (map (number_in all) (key_positions k ps)) (entries_of (number_in all) k (key_texts ps))
  walk_keys no_pairs k h = end
  walk_keys (pair key v ps) k h =
      let others = walk_keys ps (suc k) (OccursAt-tail (scalar (text key)) (key_texts ps) h) in
      let first = visit (number_in all k) (holds_scalar (text key)) [] (key_holds f all has key (key_texts ps) k h) end in
      step (number_in all k) (map (number_in all) (key_positions (suc k) ps)) (number_in all k ∷ []) (entries_of (number_in all) (suc k) (key_texts ps)) first others

  mutual
    walk_tree : (v : Plist) (k : ℕ) → OccursAt all k (preorder v) → Walk f (number_in all k) (entries_of (number_in all) k (preorder v))
    walk_tree (scalar s) k h =
        visit (number_in all k) (holds_scalar s) [] (tree_holds f all has (scalar s) k h) end
    walk_tree (list vs) k h =
        visit (number_in all k) (held_at (number_in all) k (list vs)) (entries_of (number_in all) (suc k) (preorder_items vs)) (tree_holds f all has (list vs) k h) (walk_items vs (suc k) (OccursAt-tail (list vs) (preorder_items vs) h))
    walk_tree (table ps) k h =
        let below = OccursAt-tail (table ps) (key_texts ps ++ preorder_values ps) h in
        let start = suc k + length (key_texts ps) in
        let keys = walk_keys ps (suc k) (OccursAt-front (key_texts ps) (preorder_values ps) below) in
        let values = walk_values ps start (OccursAt-rest (key_texts ps) (preorder_values ps) (length (key_texts ps)) refl below) in
        let both = Walks-append f (map (number_in all) (key_positions (suc k) ps)) (map (number_in all) (value_positions start ps)) (entries_of (number_in all) (suc k) (key_texts ps)) (entries_of (number_in all) start (preorder_values ps)) keys values in
        visit (number_in all k) (held_at (number_in all) k (table ps)) (entries_of (number_in all) (suc k) (key_texts ps ++ preorder_values ps)) (tree_holds f all has (table ps) k h)
        (subst (Walks f (map (number_in all) (key_positions (suc k) ps) ++ map (number_in all) (value_positions start ps))) (sym (entries-append (number_in all) (suc k) (key_texts ps) (preorder_values ps))) both)

    walk_items : (vs : Items) (k : ℕ) → OccursAt all k (preorder_items vs) → Walks f (map (number_in all) (item_positions k vs)) (entries_of (number_in all) k (preorder_items vs))
    walk_items no_items k h = end
    walk_items (item v vs) k h =
        let first = walk_tree v k (OccursAt-front (preorder v) (preorder_items vs) h) in
        let others = walk_items vs (k + length (preorder v)) (OccursAt-rest (preorder v) (preorder_items vs) (length (preorder v)) refl h) in
        let positions = ap (λ n. map (number_in all) (item_positions (k + n) vs)) (length-preorder v) in
        subst (Walks f (map (number_in all) (item_positions k (item v vs)))) (sym (entries-append (number_in all) k (preorder v) (preorder_items vs)))
        (step (number_in all k) _ (entries_of (number_in all) k (preorder v)) (entries_of (number_in all) (k + length (preorder v)) (preorder_items vs)) first (subst (λ (refs : List ℕ). Walks f refs (entries_of (number_in all) (k + length (preorder v)) (preorder_items vs))) positions others))

    walk_values : (ps : Pairs) (k : ℕ) → OccursAt all k (preorder_values ps) → Walks f (map (number_in all) (value_positions k ps)) (entries_of (number_in all) k (preorder_values ps))
    walk_values no_pairs k h = end
    walk_values (pair key v ps) k h =
        let first = walk_tree v k (OccursAt-front (preorder v) (preorder_values ps) h) in
        let others = walk_values ps (k + length (preorder v)) (OccursAt-rest (preorder v) (preorder_values ps) (length (preorder v)) refl h) in
        let positions = ap (λ n. map (number_in all) (value_positions (k + n) ps)) (length-preorder v) in
        subst (Walks f (map (number_in all) (value_positions k (pair key v ps)))) (sym (entries-append (number_in all) k (preorder v) (preorder_values ps)))
        (step (number_in all k) _ (entries_of (number_in all) k (preorder v)) (entries_of (number_in all) (k + length (preorder v)) (preorder_values ps)) first (subst (λ (refs : List ℕ). Walks f refs (entries_of (number_in all) (k + length (preorder v)) (preorder_values ps))) positions others))

  -- a position that shares the object of an earlier one is a scalar
  shared_scalar : (v : Plist) (k : ℕ) → value_at all k ≡ v → k < length all → first_position all k v < k → HoldsScalar f (number_in all k)
  shared_scalar (scalar s) k at h before = (s, has.reads k (scalar s) at h)
  shared_scalar _ k at h before = absurd (omega arith)

  number_at : (k : ℕ) (v : Plist) → value_at all k ≡ v → number_in all k ≡ count_below (first_position all k v) (kept_positions all)
  number_at k v at = ap (λ u. count_below (first_position all k u) (kept_positions all)) at

  -- the number of such a position was visited
  shared_below : (v : Plist) (k : ℕ) → value_at all k ≡ v → k < length all → first_position all k v < k → number_in all k < count_below k (kept_positions all)
  shared_below v k at h before =
      let first = first_position all k v in
      let holds = first_position-holds all k v at in
      let counted = count-kept all first v holds (omega arith) (first_position-first all k v) in
      omega (arith, number_at k v at, count-grows (suc first) k (kept_positions all) before)

  meets_from : (rest : List Plist) (k : ℕ) → OccursAt all k rest → k + length rest ≡ length all → MeetsInOrder f (count_below k (kept_positions all)) (entries_of (number_in all) k rest) (length (kept_positions all))
  meets_from [] k h end_is = count_below-end all all 0 k (omega arith)
  meets_from (v ∷ rest) k h end_is =
      let at = OccursAt-head v rest h in
      let others = meets_from rest (suc k) (OccursAt-tail v rest h) (omega arith) in
      elim (cases_lt (first_position all k v) k) [
        | inl before ↦ (let still = count-shared all k v at.0 at.1 before in inr (shared_below v k at.0 at.1 before, shared_scalar v k at.0 at.1 before, rw still at others))
        | inr own ↦ (let own_place : first_position all k v ≡ k = omega (arith, first_position-le all k v at.0) in let next = count-kept all k v at.0 at.1 own_place in inl (number_at k v at.0 ∙ ap (λ n. count_below n (kept_positions all)) own_place, rw next at others))
      ]

-- the walk from the root of a tree
pub numbered : (f : List ℕ) (v : Plist) → HasObjects f (preorder v) → IsNumberedInPreorder f
numbered f v has =
    let all = preorder v in
    let stands = OccursAt-all all in
    let entries = entries_of (number_in all) 0 all in
    let seen = meets_from f all has all 0 stands (omega arith) in
    let from_none = subst (λ (n : ℕ). MeetsInOrder f n entries (length (kept_positions all))) (count_below-none all all 0 0 (omega arith)) seen in
    let order = in_order f [] entries 0 (trailer_of f).count AreBelow-none (AreInOrder-none f) (subst (λ (n : ℕ). MeetsInOrder f 0 entries n) (sym has.counted) from_none) in
    record {
      entries = entries;
      walk = subst (λ (i : ℕ). Walk f i entries) (number-top all) (walk_tree f all has v 0 stands);
      order = order.0;
      all = order.1;
    }
