-- Sorted strings ascend if and only if no two are equal.
use Rattle.std.proofs.Common.{◌≡◌, ℕ, ◌<◌, List, [], ◌∷◌, length, get_or, map, false, sym, ap, ◌∙◌, subst, arith, ◌+◌, ◌-◌, ◌≤◌, true, ⊎_elim}
use Rattle.std.specs.Prelude.{Bool, IsTrue, ◌↔◌}
use Rattle.std.specs.declared.cmp.Ordering.TheVariants.{Less}
use Rattle.std.specs.Ordering.{eq_by_cmp, nat_cmp, is_lt, on}
use Rattle.std.specs.Cmp.Lexicographic.{slice_cmp}
use Rattle.std.specs.List.{IsDistinct}
use Rattle.std.specs.List.Sorted.{IsStrictlySortedBy, IsPermutation, IsSorted}
use Rattle.std.proofs.lemmas.Cmp.{nat_list_cmp_total, eq_by_cmp_equiv}
use Rattle.std.proofs.lemmas.Bool.{cases_lt}
use Rattle.std.proofs.lemmas.List.{get_or-map, length-map}
use Rattle.std.proofs.lemmas.List.Sorted.{IsPermutation-map}
use Rattle.std.proofs.lemmas.Map.Keys.{IsDistinct-IsPermutation, Less-from_sorted, sorted_from_all_adjacent, IsDistinct-from_sorted, apart_from_distinct}
use Rattle.plist_value.proofs.Keys.{turned}

abbrev pub same_key : List ℕ → List ℕ → Bool
same_key = eq_by_cmp (slice_cmp nat_cmp)

-- each of the first n is below the next
abbrev pub AscendTo : ℕ → List (List ℕ) → Type 0
AscendTo n keys =
    (k : ℕ) → k + 1 < n → slice_cmp nat_cmp (get_or keys k []) (get_or keys (k + 1) []) ≡ Less

-- one more string that is below the next
pub ascend_next : {A : Type 0} (g : A → List ℕ) (xs : List A) (i : ℕ) (d e : A) → 1 ≤ i → i < length xs → slice_cmp nat_cmp (g (get_or xs (i - 1) d)) (g (get_or xs i e)) ≡ Less → AscendTo i (map g xs) → AscendTo (i + 1) (map g xs)
ascend_next g xs i d e some within less below k h =
    let keys = map g xs in
    let lower : get_or keys (i - 1) [] ≡ g (get_or xs (i - 1) d) = get_or-map g xs (i - 1) d [] (omega arith) in
    let upper : get_or keys i [] ≡ g (get_or xs i e) = get_or-map g xs i e [] within in
    let last : slice_cmp nat_cmp (get_or keys (i - 1) []) (get_or keys i []) ≡ Less = ap (λ us. slice_cmp nat_cmp us (get_or keys i [])) lower ∙ ap (λ us. slice_cmp nat_cmp (g (get_or xs (i - 1) d)) us) upper ∙ less in
    ⊎_elim
    (λ (before : k + 1 < i). below k before)
    (λ (here : i ≤ k + 1).
    let at : i ≡ k + 1 = omega arith in
    let under : i - 1 ≡ k = omega arith in
    subst (λ (n : ℕ). slice_cmp nat_cmp (get_or keys n []) (get_or keys (k + 1) []) ≡ Less) under (subst (λ (n : ℕ). slice_cmp nat_cmp (get_or keys (i - 1) []) (get_or keys n []) ≡ Less) at last))
    (cases_lt (k + 1) i)

pub ascend_more : {A : Type 0} (g : A → List ℕ) (xs : List A) (i : ℕ) (x y : A) (answer : Bool) → 1 ≤ i → i < length xs → x ≡ get_or xs (i - 1) x → y ≡ get_or xs i y → (IsTrue answer ↔ (slice_cmp nat_cmp (g x) (g y) ≡ Less)) → answer ≡ true → AscendTo i (map g xs) → AscendTo (i + 1) (map g xs)
ascend_more {A} g xs i x y answer some within first second says is below =
    let less = subst (λ (z : A). slice_cmp nat_cmp (g z) (g (get_or xs i y)) ≡ Less) first (subst (λ (z : A). slice_cmp nat_cmp (g x) (g z) ≡ Less) second (says.0 is)) in
    ascend_next g xs i x y some within less below

pub not_ascending : {A : Type 0} (g : A → List ℕ) (xs : List A) (i : ℕ) (x y : A) (answer : Bool) → 1 ≤ i → i < length xs → x ≡ get_or xs (i - 1) x → y ≡ get_or xs i y → (IsTrue answer ↔ (slice_cmp nat_cmp (g x) (g y) ≡ Less)) → answer ≡ false → IsStrictlySortedBy (slice_cmp nat_cmp) (map g xs) → ⊥
not_ascending g xs i x y answer some within first second says is sorted =
    let less = Less-from_sorted (slice_cmp nat_cmp) (map g xs) (i - 1) i [] sorted (omega arith) (omega (arith, length-map xs g)) in
    let lower : get_or (map g xs) (i - 1) [] ≡ g x = get_or-map g xs (i - 1) x [] (omega arith) ∙ ap g (sym first) in
    let upper : get_or (map g xs) i [] ≡ g y = get_or-map g xs i y [] within ∙ ap g (sym second) in
    let told = says.1 (sym (ap (λ us. slice_cmp nat_cmp us (g y)) lower) ∙ sym (ap (λ us. slice_cmp nat_cmp (get_or (map g xs) (i - 1) []) us) upper) ∙ less) in
    cc

pub sorted_from_ascent : (keys : List (List ℕ)) → AscendTo (length keys) keys → IsStrictlySortedBy (slice_cmp nat_cmp) keys
sorted_from_ascent keys up = sorted_from_all_adjacent nat_list_cmp_total keys [] up

less_from : (a b : List ℕ) → is_lt (slice_cmp nat_cmp b a) ≡ false → same_key a b ≡ false → slice_cmp nat_cmp a b ≡ Less
less_from a b order apart =
    turned (slice_cmp nat_cmp a b) (slice_cmp nat_cmp b a) (nat_list_cmp_total.antisymm a b) order apart

strict_from : {A : Type 0} (g : A → List ℕ) (xs : List A) (d : A) → IsSorted (on g (slice_cmp nat_cmp)) xs → IsDistinct same_key (map g xs) → IsStrictlySortedBy (slice_cmp nat_cmp) (map g xs)
strict_from g xs d order distinct =
    let keys = map g xs in
    let long = length-map xs g in
    sorted_from_ascent keys (λ k h.
    let lower : get_or keys k [] ≡ g (get_or xs k d) = get_or-map g xs k d [] (omega arith) in
    let upper : get_or keys (k + 1) [] ≡ g (get_or xs (k + 1) d) = get_or-map g xs (k + 1) d [] (omega arith) in
    less_from (get_or keys k []) (get_or keys (k + 1) [])
    (ap (λ us. is_lt (slice_cmp nat_cmp us (get_or keys k []))) upper ∙ ap (λ us. is_lt (slice_cmp nat_cmp (g (get_or xs (k + 1) d)) us)) lower ∙ order k d (omega arith) (omega arith))
    (apart_from_distinct same_key keys k (k + 1) [] distinct (omega arith) h))

-- sorted strings ascend if no two are equal
pub ascent_from_distinct : {A : Type 0} (g : A → List ℕ) (xs : List A) → IsSorted (on g (slice_cmp nat_cmp)) xs → IsDistinct same_key (map g xs) → IsStrictlySortedBy (slice_cmp nat_cmp) (map g xs)
unfolding IsStrictlySortedBy
ascent_from_distinct g [] order distinct = tt
ascent_from_distinct g (x ∷ xs) order distinct = strict_from g (x ∷ xs) x order distinct

pub distinct_from_ascent : (keys : List (List ℕ)) → IsStrictlySortedBy (slice_cmp nat_cmp) keys → IsDistinct same_key keys
distinct_from_ascent keys sorted = IsDistinct-from_sorted (slice_cmp nat_cmp) keys sorted

-- permuted strings are still distinct
pub distinct_moved : {A : Type 0} (g : A → List ℕ) (xs ys : List A) → IsPermutation xs ys → IsDistinct same_key (map g xs) → IsDistinct same_key (map g ys)
distinct_moved g xs ys moved distinct =
    IsDistinct-IsPermutation same_key (eq_by_cmp_equiv nat_list_cmp_total).symm (map g xs) (map g ys) (IsPermutation-map g xs ys moved) distinct

-- sorted strings of which no two are equal ascend
pub strict_from_distinct : (keys : List (List ℕ)) → IsSorted (slice_cmp nat_cmp) keys → IsDistinct same_key keys → IsStrictlySortedBy (slice_cmp nat_cmp) keys
strict_from_distinct keys order distinct =
    sorted_from_ascent keys (λ k h. less_from (get_or keys k []) (get_or keys (k + 1) []) (order k [] (omega arith) h) (apart_from_distinct same_key keys k (k + 1) [] distinct (omega arith) h))
