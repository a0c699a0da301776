-- The references of a dictionary in the order of its keys.
use Rattle.std.proofs.Common.{◌≡◌, ℕ, zero, suc, ◌+◌, ◌<◌, ◌≤◌, List, [], ◌∷◌, ◌++◌, length, get_or, map, slice_index, take, false, refl, sym, ap, subst, ◌∙◌, arith, append_assoc}
use Rattle.std.specs.Prelude.{All}
use Rattle.std.specs.Ordering.{is_lt, eq_by_cmp, nat_cmp}
use Rattle.std.specs.Cmp.Lexicographic.{slice_cmp}
use Rattle.std.specs.List.{AllByRecursion, IsDistinct, range_with_len, zip}
use Rattle.std.specs.List.Sorted.{IsPermutation, IsSorted, IsStrictlySortedBy}
use Rattle.std.proofs.lemmas.Cmp.{eq_by_cmp_equiv}
use Rattle.std.proofs.lemmas.List.{get_or-map, length-map, take_more, take_all}
use Rattle.std.proofs.lemmas.List.FromFn.{get_or-range_with_len, length-range_with_len, map-range_with_len_more}
use Rattle.std.proofs.lemmas.List.Elements.{All-from_recursion}
use Rattle.std.proofs.lemmas.List.Sorted.{All-permutation, IsPermutation-map, IsPermutation-sym, IsPermutation-trans}
use Rattle.std.proofs.lemmas.Map.Keys.{sorted_from_all_adjacent, IsDistinct-from_sorted, IsDistinct-IsPermutation, apart_from_distinct}
use Rattle.std.proofs.lemmas.Slice.Zip.{get_or-zip, length-zip}
use Rattle.plist_value.specs.Plist.{Pairs, no_pairs, pair}
use Rattle.plist_object.proofs.Ascending.{same_order}
use Rattle.plist_object.specs.Places.{what_holds, HoldsText}
use Rattle.plist_object.specs.Spelled.{SpellPairs}
use Rattle.plist_keys.specs.Order.{IsInOrder, NameTexts, pair_of, strings_at}
use Rattle.plist_object.specs.Places.{units_in}
use Rattle.plist_write.specs.Spelling.{IsTableOf, SpellTable, sorted_references}
use Rattle.plist_object.proofs.Uniqueness.{key_of, by_key, by_key_total, rows_ascend}
use Rattle.plist_value.proofs.Keys.{turned}

-- the pairs at the first k positions
range_pairs : (keys values : List ℕ) → length keys ≡ length values → (k : ℕ) → k ≤ length keys → map (pair_of keys values) (range_with_len 0 k) ≡ take k (zip keys values)
range_pairs keys values as_many zero h = refl
range_pairs keys values as_many (suc k) h =
    let all = zip keys values in
    let one : k + 1 ≡ suc k = omega arith in
    let within : k < length all = rw (length-zip keys values) (omega arith) in
    let here : pair_of keys values k ≡ get_or all k (0, 0) = sym (get_or-zip keys values k (0, 0) (omega arith) (omega arith)) in
    subst (λ (n : ℕ). map (pair_of keys values) (range_with_len 0 n) ≡ take n all) one (map-range_with_len_more (pair_of keys values) 0 k k (omega arith) ∙ ap (λ ps. ps ++ pair_of keys values k ∷ []) (range_pairs keys values as_many k (omega arith)) ∙ ap (λ p. take k all ++ p ∷ []) here ∙ sym (take_more all k (0, 0) within))

pairs_moved : (f keys values indices : List ℕ) → length keys ≡ length values → IsInOrder f keys indices → IsPermutation (zip keys values) (map (pair_of keys values) indices)
pairs_moved f keys values indices as_many order =
    let long : length (zip keys values) ≤ length keys = rw (length-zip keys values) (omega arith) in
    let all = range_pairs keys values as_many (length keys) (omega arith) ∙ take_all (length keys) (zip keys values) long in
    subst (λ (ps : List (ℕ × ℕ)). IsPermutation ps (map (pair_of keys values) indices)) all (IsPermutation-map (pair_of keys values) (range_with_len 0 (length keys)) indices order.moved)

-- pairs with sorted and distinct keys ascend strictly by their keys
strictly : (f : List ℕ) (pairs : List (ℕ × ℕ)) → IsSorted (slice_cmp nat_cmp) (map (key_of f) pairs) → IsDistinct (eq_by_cmp (by_key f)) pairs → IsStrictlySortedBy (by_key f) pairs
unfolding by_key
strictly f pairs sorted distinct =
    let d : ℕ × ℕ = (0, 0) in
    let long = length-map pairs (key_of f) in
    sorted_from_all_adjacent (by_key_total f) pairs d (λ k h.
    let p = get_or pairs k d in
    let q = get_or pairs (k + 1) d in
    let lower = get_or-map (key_of f) pairs k d [] (omega arith) in
    let upper = get_or-map (key_of f) pairs (k + 1) d [] h in
    let order : is_lt (by_key f q p) ≡ false = sym (ap (λ us. is_lt (slice_cmp nat_cmp us (get_or (map (key_of f) pairs) k []))) upper ∙ ap (λ us. is_lt (slice_cmp nat_cmp (key_of f q) us)) lower) ∙ sorted k [] (omega arith) (omega (arith, long)) in
    turned (by_key f p q) (by_key f q p) ((by_key_total f).antisymm p q) order (apart_from_distinct (eq_by_cmp (by_key f)) pairs k (k + 1) d distinct (omega arith) h))

keys_read : (f keys values indices : List ℕ) → map (key_of f) (map (pair_of keys values) indices) ≡ strings_at f keys indices
unfolding key_of
keys_read f keys values [] = refl
keys_read f keys values (index ∷ indices) =
    ap (λ ts. units_in (what_holds f (slice_index keys index)) ∷ ts) (keys_read f keys values indices)

-- the pairs at the sorted positions are the rows that encode the dictionary
rows_are : (f keys values indices : List ℕ) (rows : List (ℕ × ℕ)) (ps : Pairs) → length keys ≡ length values → IsInOrder f keys indices → SpellTable f keys values rows ps → map (pair_of keys values) indices ≡ rows
rows_are f keys values indices rows ps as_many order table =
    let pairs = map (pair_of keys values) indices in
    let moved = pairs_moved f keys values indices as_many order in
    let ascend = rows_ascend f rows ps table.spell table.valid in
    let between = IsPermutation-trans rows (zip keys values) pairs (IsPermutation-sym (zip keys values) rows table.moved) moved in
    let distinct = IsDistinct-IsPermutation (eq_by_cmp (by_key f)) (eq_by_cmp_equiv (by_key_total f)).symm rows pairs between (IsDistinct-from_sorted (by_key f) rows ascend) in
    let sorted = subst (λ (ts : List (List ℕ)). IsSorted (slice_cmp nat_cmp) ts) (sym (keys_read f keys values indices)) order.sorted in
    same_order (by_key_total f) (zip keys values) pairs rows moved table.moved (strictly f pairs sorted distinct) ascend

all_texts : (f : List ℕ) (rows : List (ℕ × ℕ)) (ps : Pairs) → SpellPairs f rows ps → AllByRecursion (λ row. HoldsText f row.0) rows
all_texts f [] ps h = tt
all_texts f (row ∷ rows) no_pairs h = absurd (let none : row ∷ rows ≡ [] = h in cc)
all_texts f (row ∷ rows) (pair key v ps) h = ((key, h.0), all_texts f rows ps h.2)

text_at : (f keys values : List ℕ) (k i : ℕ) → IsTableOf f keys values → k < length keys → i ≡ get_or keys k 0 → HoldsText f i
text_at f keys values k i table h is =
    let P : ℕ × ℕ → Type 0 = λ row. HoldsText f row.0 in
    let all = All-from_recursion P table.rows (all_texts f table.rows table.pairs table.spell.spell) in
    let there = All-permutation P table.rows (zip keys values) (IsPermutation-sym (zip keys values) table.rows table.spell.moved) all in
    let long = length-zip keys values in
    let within : k < length (zip keys values) = rw long (omega (arith, table.as_many)) in
    let row = there k (0, 0) within in
    let at = get_or-zip keys values k (0, 0) h (omega (arith, table.as_many)) in
    subst (λ (n : ℕ). HoldsText f n) (ap (λ (p : ℕ × ℕ). p.0) at ∙ sym is) row

-- the keys of a dictionary are strings
pub names_texts : (f keys values : List ℕ) → IsTableOf f keys values → NameTexts f keys
names_texts f keys values table k h = text_at f keys values k (get_or keys k 0) table h refl

firsts : (keys values indices : List ℕ) → map (λ (p : ℕ × ℕ). p.0) (map (pair_of keys values) indices) ≡ map (slice_index keys) indices
firsts keys values [] = refl
firsts keys values (index ∷ indices) = ap (λ xs. slice_index keys index ∷ xs) (firsts keys values indices)

seconds : (keys values indices : List ℕ) → map (λ (p : ℕ × ℕ). p.1) (map (pair_of keys values) indices) ≡ map (slice_index values) indices
seconds keys values [] = refl
seconds keys values (index ∷ indices) = ap (λ xs. slice_index values index ∷ xs) (seconds keys values indices)

-- the positions of the keys are in range
pub places_within : (f keys indices : List ℕ) (n : ℕ) → length keys ≡ n → IsInOrder f keys indices → All (λ index. index < n) indices
places_within f keys indices n long order =
    let all : All (λ index. index < n) (range_with_len 0 (length keys)) = λ k d h. (let within : k < length keys = omega (arith, h, length-range_with_len 0 (length keys)) in omega (arith, within, get_or-range_with_len 0 (length keys) k d within)) in
    All-permutation (λ index. index < n) (range_with_len 0 (length keys)) indices order.moved all

-- the keys and then the values at the sorted positions are the rows that encode the dictionary
pub sorted_references-indices : (f keys values indices : List ℕ) (rows : List (ℕ × ℕ)) (ps : Pairs) (old mid new : List ℕ) → length keys ≡ length values → IsInOrder f keys indices → SpellTable f keys values rows ps → mid ≡ old ++ map (slice_index keys) indices → new ≡ mid ++ map (slice_index values) indices → new ≡ old ++ sorted_references rows
sorted_references-indices f keys values indices rows ps old mid new as_many order spell first second =
    let of_keys = map (slice_index keys) indices in
    let of_values = map (slice_index values) indices in
    let are = rows_are f keys values indices rows ps as_many order spell in
    let keys_are : map (λ (p : ℕ × ℕ). p.0) rows ≡ of_keys = ap (map (λ (p : ℕ × ℕ). p.0)) (sym are) ∙ firsts keys values indices in
    let values_are : map (λ (p : ℕ × ℕ). p.1) rows ≡ of_values = ap (map (λ (p : ℕ × ℕ). p.1)) (sym are) ∙ seconds keys values indices in
    second ∙ ap (λ xs. xs ++ of_values) first ∙ append_assoc old of_keys of_values ∙ ap (λ xs. old ++ (xs ++ of_values)) (sym keys_are) ∙ ap (λ xs. old ++ (map (λ (p : ℕ × ℕ). p.0) rows ++ xs)) (sym values_are)
