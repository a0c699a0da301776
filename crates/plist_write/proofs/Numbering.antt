-- The number of a position is the index of its object among the objects.
use Rattle.std.proofs.Common.{◌≡◌, ℕ, zero, suc, ◌+◌, ◌<◌, ◌≤◌, eqb, cond, true, false, List, [], ◌∷◌, length, get_or, refl, sym, ap, arith}
use Rattle.std.proofs.lemmas.Bool.{false≢true, le-ltb, lt-ltb, eq-eqb, cond_both}
use Rattle.plist_value.specs.Plist.{Scalar, Plist, scalar}
use Rattle.plist_value.specs.Equality.{scalar_eq}
use Rattle.plist_value.specs.EqualityLaws.{scalar_eq-Decides}
use Rattle.plist_write.specs.Sharing.{is_scalar, least_position, first_position, kept_from, kept_positions, count_below, value_at, number_among}

pub is_scalar-true : (s : Scalar) (v : Plist) → is_scalar s v ≡ true → v ≡ scalar s
is_scalar-true s (scalar t) h = ap scalar (sym ((scalar_eq-Decides s t).0 h))
is_scalar-true s _ h = absurd (false≢true h)

pub is_scalar-same : (s : Scalar) → scalar_eq s s ≡ true
is_scalar-same s = (scalar_eq-Decides s s).1 refl

-- the least position of a scalar is at or before each of its positions, and contains it
pub least_position-le : (s : Scalar) (all : List Plist) (k : ℕ) → value_at all k ≡ scalar s → least_position s all ≤ k
least_position-le s [] k h = absurd (cc)
least_position-le s (v ∷ vs) zero h = rw (h, is_scalar-same s) (omega arith)
least_position-le s (v ∷ vs) (suc k) h =
    elim (is_scalar s v) as (λ t. cond t 0 (suc (least_position s vs)) ≤ suc k) [ true ↦ omega (arith, least_position-le s vs k h) | false ↦ omega (arith, least_position-le s vs k h) ]

pub least_position-holds : (s : Scalar) (all : List Plist) (k : ℕ) → value_at all k ≡ scalar s → value_at all (least_position s all) ≡ scalar s
least_position-holds s [] k h = absurd (cc)
least_position-holds s (v ∷ vs) zero h = rw (h, is_scalar-same s) refl
least_position-holds s (v ∷ vs) (suc k) h =
    cond_both (is_scalar s v) 0 (suc (least_position s vs)) (λ n. value_at (v ∷ vs) n ≡ scalar s) (λ e. is_scalar-true s v e) (λ _. least_position-holds s vs k h)

pub first_position-le : (all : List Plist) (k : ℕ) (v : Plist) → value_at all k ≡ v → first_position all k v ≤ k
first_position-le all k (scalar s) h = least_position-le s all k h
first_position-le all k _ h = omega arith

pub first_position-holds : (all : List Plist) (k : ℕ) (v : Plist) → value_at all k ≡ v → value_at all (first_position all k v) ≡ v
first_position-holds all k (scalar s) h = least_position-holds s all k h
first_position-holds all k _ h = h

-- the first position is its own first position
pub first_position-first : (all : List Plist) (k : ℕ) (v : Plist) → first_position all (first_position all k v) v ≡ first_position all k v
first_position-first all k (scalar s) = refl
first_position-first all k _ = refl

-- none of the positions from k on is below k
pub count_below-none : (all rest : List Plist) (k n : ℕ) → n ≤ k → count_below n (kept_from all k rest) ≡ 0
count_below-none all [] k n h = refl
count_below-none all (v ∷ rest) k n h =
    let others = count_below-none all rest (suc k) n (omega arith) in
    elim (eqb (first_position all k v) k) as (λ t. count_below n (cond t ((k, v) ∷ kept_from all (suc k) rest) (kept_from all (suc k) rest)) ≡ 0) [
      | true ↦ rw (le-ltb k n h) others
      | false ↦ others
    ]

-- the kept positions have n and its value as the entry at the number of n
abbrev pub IsEntry : ℕ → Plist → List (ℕ × Plist) → Type 0
IsEntry n v kept = (count_below n kept < length kept) × ((d : ℕ × Plist) → get_or kept (count_below n kept) d ≡ (n, v))

IsEntry-cons : (n k : ℕ) (v u : Plist) (others : List (ℕ × Plist)) → k < n → IsEntry n v others → IsEntry n v ((k, u) ∷ others)
IsEntry-cons n k v u others h entry = rw (lt-ltb k n h) (omega (arith, entry.0), entry.1)

kept_from-entry : (all rest : List Plist) (k j n : ℕ) → j < length rest → k + j ≡ n → first_position all n (value_at rest j) ≡ n → IsEntry n (value_at rest j) (kept_from all k rest)
kept_from-entry all [] k j n h at first = absurd (omega arith)
kept_from-entry all (v ∷ rest) k zero n h at first =
    let e : k ≡ n = omega arith in
    let own : eqb (first_position all k v) k ≡ true = eq-eqb _ _ (rw e first) in
    let none = count_below-none all rest (suc k) n (omega arith) in
    rw (own, le-ltb k n (omega arith), none) (omega arith, λ d. rw e refl)
kept_from-entry all (v ∷ rest) k (suc j) n h at first =
    let others = kept_from-entry all rest (suc k) j n (omega arith) (omega arith) first in
    elim (eqb (first_position all k v) k) as (λ t. IsEntry n (value_at rest j) (cond t ((k, v) ∷ kept_from all (suc k) rest) (kept_from all (suc k) rest))) [
      | true ↦ IsEntry-cons n k (value_at rest j) v (kept_from all (suc k) rest) (omega arith) others
      | false ↦ others
    ]

-- the entry at the number of a position is its first position, with the same value
pub number-entry : (all : List Plist) (k : ℕ) (v : Plist) → value_at all k ≡ v → k < length all → IsEntry (first_position all k v) v (kept_positions all)
number-entry all k v is h =
    let first = first_position all k v in
    let holds = first_position-holds all k v is in
    let own : first_position all first (value_at all first) ≡ first = rw holds (first_position-first all k v) in
    rw holds at (kept_from-entry all all 0 first first (omega (arith, first_position-le all k v is)) (omega (arith, first_position-le all k v is)) own)

-- the top object has number 0
pub number-top : (all : List Plist) → number_among all (kept_positions all) 0 ≡ 0
number-top all = count_below-none all all 0 _ (first_position-le all 0 (value_at all 0) refl)
