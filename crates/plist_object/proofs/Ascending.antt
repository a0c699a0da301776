-- Two strictly ascending lists with the same members are equal.
use Rattle.std.proofs.Common.{◌≡◌, ℕ, zero, suc, ◌<◌, List, [], ◌∷◌, length, get_or, inl, inr, ⊎_elim, refl, sym, subst, arith}
use Rattle.std.specs.Prelude.{◌⊎◌}
use Rattle.std.specs.declared.cmp.Ordering.{Ordering}
use Rattle.std.specs.declared.cmp.Ordering.TheVariants.{Less}
use Rattle.std.specs.Cmp.{IsTotalOrder}
use Rattle.std.specs.List.{AllByRecursion, Contains}
use Rattle.std.specs.List.Sorted.{IsStrictlySortedBy, IsPermutation}
use Rattle.std.proofs.lemmas.Cmp.{tied_itself}
use Rattle.std.proofs.lemmas.List.Sorted.{Contains-permutation, IsPermutation-sym}

-- x is a member of the list
abbrev pub Among : {X : Type 0} → X → List X → Type 0
Among x [] = ⊥
Among x (y ∷ ys) = (x ≡ y) ⊎ Among x ys

pub Among-all : {X : Type 0} (P : X → Type 0) (x : X) (xs : List X) → AllByRecursion P xs → Among x xs → P x
Among-all P x [] all among = absurd among
Among-all P x (y ∷ ys) all among =
    ⊎_elim (λ (same : x ≡ y). subst P (sym same) all.0) (λ (later : Among x ys). Among-all P x ys all.1 later) among

pub Contains-among : {X : Type 0} (x : X) (xs : List X) → Among x xs → Contains xs x
Contains-among x [] among = absurd among
Contains-among x (y ∷ ys) among =
    ⊎_elim
    (λ (same : x ≡ y). (0, omega arith, sym same))
    (λ (later : Among x ys). let at = Contains-among x ys later in (suc at.0, omega arith, at.2))
    among

among_at : {X : Type 0} (x : X) (xs : List X) (k : ℕ) → k < length xs → get_or xs k x ≡ x → Among x xs
among_at x [] k below is = absurd (omega arith)
among_at x (y ∷ ys) zero below is = inl (sym is)
among_at x (y ∷ ys) (suc k) below is = inr (among_at x ys k (omega arith) is)

pub Among-contains : {X : Type 0} (x : X) (xs : List X) → Contains xs x → Among x xs
Among-contains x xs at = among_at x xs at.0 at.1 at.2

pub Among-permutation : {X : Type 0} (x : X) (xs ys : List X) → IsPermutation xs ys → Among x xs → Among x ys
Among-permutation x xs ys moved among =
    Among-contains x ys (Contains-permutation xs ys x moved (Contains-among x xs among))

pub same_ascending : {K : Type 0} {R : K → K → Ordering} → IsTotalOrder R → (xs ys : List K) → IsStrictlySortedBy R xs → IsStrictlySortedBy R ys → ((z : K) → Among z xs → Among z ys) → ((z : K) → Among z ys → Among z xs) → xs ≡ ys
unfolding IsStrictlySortedBy
same_ascending o [] [] a b to from = refl
same_ascending o [] (y ∷ ys) a b to from = absurd (from y (inl refl))
same_ascending o (x ∷ xs) [] a b to from = absurd (to x (inl refl))
same_ascending {R = R} o (x ∷ xs) (y ∷ ys) a b to from =
    let first : x ≡ y =
    ⊎_elim
    (λ (same : x ≡ y). same)
    (λ (behind : Among x ys).
    ⊎_elim
    (λ (same : y ≡ x). sym same)
    (λ (after : Among y xs).
    let below : R x y ≡ Less = Among-all (λ z. R x z ≡ Less) y xs a.0 after in
    let above : R y x ≡ Less = Among-all (λ z. R y z ≡ Less) x ys b.0 behind in
    let turned = o.antisymm x y in
    absurd (cc))
    (from y (inl refl)))
    (to x (inl refl)) in
    let itself = tied_itself o x in
    let rest : xs ≡ ys =
    same_ascending o xs ys a.1 b.1
    (λ z among.
    ⊎_elim
    (λ (same : z ≡ y). let below : R x z ≡ Less = Among-all (λ z. R x z ≡ Less) z xs a.0 among in absurd (cc))
    (λ (later : Among z ys). later)
    (to z (inr among)))
    (λ z among.
    ⊎_elim
    (λ (same : z ≡ x). let below : R y z ≡ Less = Among-all (λ z. R y z ≡ Less) z ys b.0 among in absurd (cc))
    (λ (later : Among z xs). later)
    (from z (inr among))) in
    cc

-- two strictly ascending permutations of one list are equal
pub same_order : {K : Type 0} {R : K → K → Ordering} → IsTotalOrder R → (zs xs ys : List K) → IsPermutation zs xs → IsPermutation zs ys → IsStrictlySortedBy R xs → IsStrictlySortedBy R ys → xs ≡ ys
same_order o zs xs ys to_xs to_ys a b =
    same_ascending o xs ys a b
    (λ z among. Among-permutation z zs ys to_ys (Among-permutation z xs zs (IsPermutation-sym zs xs to_xs) among))
    (λ z among. Among-permutation z zs xs to_xs (Among-permutation z ys zs (IsPermutation-sym zs ys to_ys) among))
