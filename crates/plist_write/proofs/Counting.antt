-- How the number of objects and the known scalars grow from one position to the next.
use Rattle.std.proofs.Common.{◌≡◌, ℕ, zero, suc, ◌+◌, ◌<◌, eqb, cond, true, false, List, [], ◌∷◌, length, Some, refl, ◌∙◌, inl, inr, arith, lt-ltb}
use Rattle.std.proofs.lemmas.Bool.{le-ltb, eq-eqb, ne_eqb, cond_both, cases_order}
use Rattle.plist_value.specs.Plist.{Scalar, Plist, scalar}
use Rattle.plist_write.specs.Sharing.{is_scalar, least_position, first_position, kept_from, kept_positions, count_below, value_at}
use Rattle.plist_write.specs.Found.{number_known}
use Rattle.plist_write.proofs.Numbering.{is_scalar-true, count_below-none}

count-from : (all rest : List Plist) (j i n : ℕ) → i < length rest → j + i ≡ n → count_below (suc n) (kept_from all j rest) ≡ cond (eqb (first_position all n (value_at rest i)) n) (suc (count_below n (kept_from all j rest))) (count_below n (kept_from all j rest))
count-from all [] j i n h at = absurd (omega arith)
count-from all (v ∷ rest) j zero n h at =
    let e : n ≡ j = omega arith in
    let here = count_below-none all rest (suc j) j (omega arith) in
    let next = count_below-none all rest (suc j) (suc j) (omega arith) in
    rw e (elim (eqb (first_position all j v) j) as (λ t. count_below (suc j) (cond t ((j, v) ∷ kept_from all (suc j) rest) (kept_from all (suc j) rest)) ≡ cond t (suc (count_below j (cond t ((j, v) ∷ kept_from all (suc j) rest) (kept_from all (suc j) rest)))) (count_below j (cond t ((j, v) ∷ kept_from all (suc j) rest) (kept_from all (suc j) rest)))) [
      | true ↦ rw (lt-ltb j (suc j) (omega arith), le-ltb j j (omega arith), next, here) refl
      | false ↦ rw (next, here) refl
    ])
count-from all (v ∷ rest) j (suc i) n h at =
    let others = count-from all rest (suc j) i n (omega arith) (omega arith) in
    elim (eqb (first_position all j v) j) as (λ t. count_below (suc n) (cond t ((j, v) ∷ kept_from all (suc j) rest) (kept_from all (suc j) rest)) ≡ cond (eqb (first_position all n (value_at rest i)) n) (suc (count_below n (cond t ((j, v) ∷ kept_from all (suc j) rest) (kept_from all (suc j) rest)))) (count_below n (cond t ((j, v) ∷ kept_from all (suc j) rest) (kept_from all (suc j) rest)))) [
      | true ↦ rw (lt-ltb j (suc n) (omega arith), lt-ltb j n (omega arith), others) (elim (eqb (first_position all n (value_at rest i)) n) as (λ t. suc (cond t (suc (count_below n (kept_from all (suc j) rest))) (count_below n (kept_from all (suc j) rest))) ≡ cond t (suc (suc (count_below n (kept_from all (suc j) rest)))) (suc (count_below n (kept_from all (suc j) rest)))) [ true ↦ refl | false ↦ refl ])
      | false ↦ others
    ]

-- a position with its own object adds one, and any other adds none
pub count-next : (all : List Plist) (k : ℕ) (v : Plist) → value_at all k ≡ v → k < length all → count_below (suc k) (kept_positions all) ≡ cond (eqb (first_position all k v) k) (suc (count_below k (kept_positions all))) (count_below k (kept_positions all))
count-next all k v at h = let step = count-from all all 0 k k h (omega arith) in rw at at step

pub count-kept : (all : List Plist) (k : ℕ) (v : Plist) → value_at all k ≡ v → k < length all → first_position all k v ≡ k → count_below (suc k) (kept_positions all) ≡ suc (count_below k (kept_positions all))
count-kept all k v at h own = count-next all k v at h ∙ rw (eq-eqb _ _ own) refl

pub count-shared : (all : List Plist) (k : ℕ) (v : Plist) → value_at all k ≡ v → k < length all → first_position all k v < k → count_below (suc k) (kept_positions all) ≡ count_below k (kept_positions all)
count-shared all k v at h before =
    let apart : first_position all k v ≡ k → ⊥ = λ (e : first_position all k v ≡ k). omega arith in
    count-next all k v at h ∙ rw (ne_eqb _ _ (apart)) refl

-- the least position of a scalar contains it, if it has a position
pub least_position-at : (s : Scalar) (all : List Plist) → least_position s all < length all → value_at all (least_position s all) ≡ scalar s
least_position-at s [] h = absurd (omega arith)
least_position-at s (v ∷ vs) h =
    cond_both (is_scalar s v) 0 (suc (least_position s vs)) (λ n. n < suc (length vs) → value_at (v ∷ vs) n ≡ scalar s) (λ e _. is_scalar-true s v e) (λ _ below. least_position-at s vs (omega arith)) h

-- a position that is not the first of a scalar does not change whether it is known
pub known-still : (all : List Plist) (k : ℕ) (q : Scalar) → (least_position q all ≡ k → ⊥) → number_known all (suc k) q ≡ number_known all k q
known-still all k q apart =
    let first = least_position q all in
    elim (cases_order first k) [
      | inl e ↦ absurd (apart e)
      | inr other ↦ elim other [
        | inl below ↦ rw (lt-ltb first (suc k) (omega arith), lt-ltb first k below) refl
        | inr above ↦ rw (le-ltb first (suc k) (omega arith), le-ltb first k (omega arith)) refl
      ]
    ]

pub known-now : (all : List Plist) (k : ℕ) (q : Scalar) → least_position q all ≡ k → number_known all (suc k) q ≡ Some (count_below k (kept_positions all))
known-now all k q e = rw (e, lt-ltb k (suc k) (omega arith)) refl
