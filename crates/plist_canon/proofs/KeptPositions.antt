-- Each position of a tree begins the subtree of its value.
use Rattle.std.proofs.Common.{◌≡◌, ℕ, zero, suc, ◌+◌, ◌<◌, ◌≤◌, cond, List, [], ◌∷◌, ◌++◌, length, refl, subst, arith, add-zero, eqb, true, false, get_or, sym, ap, ◌∙◌, inl, inr, lt-ltb}
use Rattle.std.specs.Prelude.{⊤}
use Rattle.plist_value.specs.Plist.{text, Plist, scalar, list, table, Items, no_items, item, Pairs, no_pairs, pair}
use Rattle.plist_write.specs.Tree.{key_texts, preorder, preorder_items, preorder_values}
use Rattle.plist_write.specs.Sharing.{value_at, first_position, kept_from, kept_positions, count_below}
use Rattle.plist_write.proofs.Trees.{OccursAt, OccursAt-front, OccursAt-rest, OccursAt-tail}
use Rattle.std.proofs.lemmas.Bool.{le-ltb, eqb-true, cases_Bool}
use Rattle.plist_write.specs.Found.{number_in}
use Rattle.plist_write.proofs.Numbering.{count_below-none, number-entry}

-- each of these values, which are at the positions from k on, begins its own subtree there
abbrev pub EachOccurs : List Plist → ℕ → List Plist → Type 0
EachOccurs all k [] = ⊤
EachOccurs all k (v ∷ rest) = OccursAt all k (preorder v) × EachOccurs all (suc k) rest

EachOccurs-append : (all : List Plist) (k : ℕ) (xs ys : List Plist) → EachOccurs all k xs → EachOccurs all (k + length xs) ys → EachOccurs all k (xs ++ ys)
EachOccurs-append all k [] ys each others = rw add-zero at others
EachOccurs-append all k (x ∷ xs) ys each others =
    let moved : k + suc (length xs) ≡ suc k + length xs = omega arith in
    (each.0, EachOccurs-append all (suc k) xs ys each.1 (subst (λ (n : ℕ). EachOccurs all n ys) moved others))

EachOccurs-keys : (all : List Plist) (ps : Pairs) (k : ℕ) → OccursAt all k (key_texts ps) → EachOccurs all k (key_texts ps)
EachOccurs-keys all no_pairs k h = tt
EachOccurs-keys all (pair key v ps) k h =
    (OccursAt-front (scalar (text key) ∷ []) (key_texts ps) h, EachOccurs-keys all ps (suc k) (OccursAt-tail (scalar (text key)) (key_texts ps) h))

mutual
  pub EachOccurs-tree : (all : List Plist) (v : Plist) (k : ℕ) → OccursAt all k (preorder v) → EachOccurs all k (preorder v)
  EachOccurs-tree all (scalar s) k h = (h, tt)
  EachOccurs-tree all (list vs) k h = (h, EachOccurs-items all vs (suc k) (OccursAt-tail (list vs) (preorder_items vs) h))
  EachOccurs-tree all (table ps) k h =
      let below = OccursAt-tail (table ps) (key_texts ps ++ preorder_values ps) h in
      let keys = EachOccurs-keys all ps (suc k) (OccursAt-front (key_texts ps) (preorder_values ps) below) in
      let values = EachOccurs-values all ps (suc k + length (key_texts ps)) (OccursAt-rest (key_texts ps) (preorder_values ps) (length (key_texts ps)) refl below) in
      (h, EachOccurs-append all (suc k) (key_texts ps) (preorder_values ps) keys values)

  EachOccurs-items : (all : List Plist) (vs : Items) (k : ℕ) → OccursAt all k (preorder_items vs) → EachOccurs all k (preorder_items vs)
  EachOccurs-items all no_items k h = tt
  EachOccurs-items all (item v vs) k h =
      let first = EachOccurs-tree all v k (OccursAt-front (preorder v) (preorder_items vs) h) in
      let others = EachOccurs-items all vs (k + length (preorder v)) (OccursAt-rest (preorder v) (preorder_items vs) (length (preorder v)) refl h) in
      EachOccurs-append all k (preorder v) (preorder_items vs) first others

  EachOccurs-values : (all : List Plist) (ps : Pairs) (k : ℕ) → OccursAt all k (preorder_values ps) → EachOccurs all k (preorder_values ps)
  EachOccurs-values all no_pairs k h = tt
  EachOccurs-values all (pair key v ps) k h =
      let first = EachOccurs-tree all v k (OccursAt-front (preorder v) (preorder_values ps) h) in
      let others = EachOccurs-values all ps (k + length (preorder v)) (OccursAt-rest (preorder v) (preorder_values ps) (length (preorder v)) refl h) in
      EachOccurs-append all k (preorder v) (preorder_values ps) first others

-- the subtree at position k, which is position m of these values
pub EachOccurs-at : (all rest : List Plist) (j m k : ℕ) → m < length rest → j + m ≡ k → EachOccurs all j rest → OccursAt all k (preorder (value_at rest m))
EachOccurs-at all [] j m k h at each = absurd (omega arith)
EachOccurs-at all (v ∷ rest) j zero k h at each = let same : j ≡ k = omega arith in subst (λ (n : ℕ). OccursAt all n (preorder v)) same each.0
EachOccurs-at all (v ∷ rest) j (suc m) k h at each = EachOccurs-at all rest (suc j) m k (omega arith) (omega arith) each.1

-- Each number below the count of objects is that of a position with an object of its own.

-- Object i is made at position `from + offset`, if `rest` is at the positions from `from` on.
record IsMadeIn (all : List Plist) (from : ℕ) (rest : List Plist) (i : ℕ) : Type 0 where
  pub offset : ℕ
  pub position : ℕ
  pub place_is : from + offset ≡ position
  pub below : offset < length rest
  pub own : first_position all position (value_at rest offset) ≡ position
  pub counted : count_below position (kept_from all from rest) ≡ i

-- one position earlier, if that has no object of its own
made_behind : (all : List Plist) (from : ℕ) (v : Plist) (rest : List Plist) (i : ℕ) → eqb (first_position all from v) from ≡ false → IsMadeIn all (suc from) rest i → IsMadeIn all from (v ∷ rest) i
made_behind all from v rest i other x =
    record { offset = suc x.offset; position = x.position; place_is = omega (arith, x.below, x.place_is); below = omega (arith, x.below, x.place_is); own = x.own; counted = rw other x.counted }

-- one position earlier and one number more, if that has an object of its own
made_later : (all : List Plist) (from : ℕ) (v : Plist) (rest : List Plist) (i : ℕ) → eqb (first_position all from v) from ≡ true → IsMadeIn all (suc from) rest i → IsMadeIn all from (v ∷ rest) (suc i)
made_later all from v rest i same x =
    record {
      offset = suc x.offset;
      position = x.position;
      place_is = omega (arith, x.below, x.place_is);
      below = omega (arith, x.below, x.place_is);
      own = x.own;
      counted = rw (same, lt-ltb from x.position (omega (arith, x.below, x.place_is))) (ap suc x.counted);
    }

made_in : (all : List Plist) (from : ℕ) (rest : List Plist) (i : ℕ) → i < length (kept_from all from rest) → IsMadeIn all from rest i
made_in all from [] i h = absurd (omega arith)
made_in all from (v ∷ rest) zero h =
    elim (cases_Bool (eqb (first_position all from v) from)) [
      | inl same ↦ record {
        offset = 0;
        position = from;
        place_is = omega arith;
        below = omega arith;
        own = eqb-true _ _ same;
        counted = rw (same, le-ltb from from (omega arith)) (count_below-none all rest (suc from) from (omega arith));
      }
      | inr other ↦ (let x = made_in all (suc from) rest zero (rw other at h) in made_behind all from v rest zero other x)
    ]
made_in all from (v ∷ rest) (suc i) h =
    elim (cases_Bool (eqb (first_position all from v) from)) [
      | inl same ↦ (let long = rw same at h in made_later all from v rest i same (made_in all (suc from) rest i (omega arith)))
      | inr other ↦ (let x = made_in all (suc from) rest (suc i) (rw other at h) in made_behind all from v rest (suc i) other x)
    ]

-- the position at which the object with number i is made
pub record IsMade (all : List Plist) (i : ℕ) : Type 0 where
  pub position : ℕ
  pub below : position < length all
  pub own : first_position all position (value_at all position) ≡ position
  pub number_is : number_in all position ≡ i
  pub entry_is : get_or (kept_positions all) i (0, list no_items) ≡ (position, value_at all position)

pub is_made : (all : List Plist) (i : ℕ) → i < length (kept_positions all) → IsMade all i
is_made all i h =
    let x = made_in all 0 all i h in
    let v = value_at all x.position in
    let same : x.offset ≡ x.position = let at = x.place_is in omega arith in
    let own : first_position all x.position v ≡ x.position = rw same at x.own in
    let below : x.position < length all = let b = x.below in omega arith in
    let number_is : number_in all x.position ≡ i = ap (λ n. count_below n (kept_positions all)) own ∙ x.counted in
    let entry = number-entry all x.position v refl below in
    record {
      position = x.position;
      below = below;
      own = own;
      number_is = number_is;
      entry_is = ap (λ n. get_or (kept_positions all) n (0, list no_items)) (sym number_is) ∙ entry.1 (0, list no_items) ∙ ap (λ (n : ℕ). (n, v)) own;
    }

-- all kept positions are below the end
pub count_below-end : (all rest : List Plist) (k n : ℕ) → k + length rest ≤ n → count_below n (kept_from all k rest) ≡ length (kept_from all k rest)
count_below-end all [] k n h = refl
count_below-end all (v ∷ rest) k n h =
    let others = count_below-end all rest (suc k) n (omega arith) in
    elim (eqb (first_position all k v) k) as (λ t. count_below n (cond t ((k, v) ∷ kept_from all (suc k) rest) (kept_from all (suc k) rest)) ≡ length (cond t ((k, v) ∷ kept_from all (suc k) rest) (kept_from all (suc k) rest))) [
      | true ↦ rw (lt-ltb k n (omega arith)) (ap suc others)
      | false ↦ others
    ]
