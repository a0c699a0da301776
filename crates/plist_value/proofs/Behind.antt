-- Two strings that share their first units.
use Rattle.std.proofs.Common.{◌≡◌, ◌≢◌, ℕ, zero, suc, ◌≤◌, ◌<◌, List, [], ◌∷◌, length, slice_index, take, refl, nat_cmp, nat_eq, min, arith}
use Rattle.std.specs.Cmp.Lexicographic.{pointwise, slice_cmp}
use Rattle.std.proofs.lemmas.Bool.Decides.{nat_tests}

-- they have the order of the first units that differ
pub slice_cmp-differ : (n : ℕ) (xs ys : List ℕ) → n < length xs → n < length ys → take n ys ≡ take n xs → slice_index xs n ≢ slice_index ys n → slice_cmp nat_cmp xs ys ≡ nat_cmp (slice_index xs n) (slice_index ys n)
slice_cmp-differ zero (x ∷ xs) (y ∷ ys) h k same differ = grind (arith, nat_tests)
slice_cmp-differ (suc n) (x ∷ xs) (y ∷ ys) h k same differ =
    let first : y ≡ x = cc in
    let others : take n ys ≡ take n xs = cc in
    let rest = slice_cmp-differ n xs ys (omega arith) (omega arith) others differ in
    grind (arith, nat_tests)
slice_cmp-differ _ _ _ h k same differ = absurd (omega arith)

-- and that of their lengths if one begins with the other
pub slice_cmp-lengths : (n : ℕ) (xs ys : List ℕ) → n ≡ min (length xs) (length ys) → take n ys ≡ take n xs → slice_cmp nat_cmp xs ys ≡ nat_cmp (length xs) (length ys)
slice_cmp-lengths zero [] [] is same = refl
slice_cmp-lengths zero [] (y ∷ ys) is same = grind (arith, nat_tests)
slice_cmp-lengths zero (x ∷ xs) [] is same = grind (arith, nat_tests)
slice_cmp-lengths (suc n) (x ∷ xs) (y ∷ ys) is same =
    let first : y ≡ x = cc in
    let others : take n ys ≡ take n xs = cc in
    let rest = slice_cmp-lengths n xs ys (omega arith) others in
    grind (arith, nat_tests)
slice_cmp-lengths _ _ _ is same = absurd (omega arith)

-- strings of one length are the same if they share all units
pub pointwise-alike : (n : ℕ) (xs ys : List ℕ) → n ≤ length xs → length xs ≡ length ys → take n ys ≡ take n xs → (n < length xs → slice_index xs n ≢ slice_index ys n) → nat_eq n (length xs) ≡ pointwise nat_eq xs ys
pointwise-alike zero [] [] h long same differ = refl
pointwise-alike zero (x ∷ xs) (y ∷ ys) h long same differ =
    let first = differ (omega arith) in
    grind (arith, nat_tests)
pointwise-alike (suc n) (x ∷ xs) (y ∷ ys) h long same differ =
    let first : y ≡ x = cc in
    let others : take n ys ≡ take n xs = cc in
    let rest = pointwise-alike n xs ys (omega arith) (omega arith) others (λ within. differ (omega arith)) in
    grind (arith, nat_tests)
pointwise-alike _ _ _ h long same differ = absurd (omega arith)
