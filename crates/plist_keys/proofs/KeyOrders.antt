-- Rows of keys that are sorted by their numbers are in the order of their strings.
use Rattle.std.proofs.Common.{◌≡◌, ℕ, ◌+◌, ◌<◌, List, [], ◌∷◌, ◌++◌, length, get_or, map, slice_index, refl, sym, ap, ◌∙◌, subst, arith, inl, inr}
use Rattle.std.specs.Prelude.{All, true, false}
use Rattle.std.specs.declared.cmp.Ordering.TheVariants.{Less, Equal}
use Rattle.std.specs.Ordering.{nat_cmp, ordering_then, is_lt}
use Rattle.std.specs.Cmp.{nat_cmp_is, IsTotalOrder}
use Rattle.std.specs.Cmp.Lexicographic.{slice_cmp}
use Rattle.std.specs.List.{AllByRecursion, range_with_len}
use Rattle.std.specs.List.Sorted.{IsNonDecreasingBy, IsPermutation, IsSorted}
use Rattle.std.proofs.lemmas.Bool.{cases_lt, true≢false, false_from_ne_true}
use Rattle.std.proofs.lemmas.Cmp.{nat_cmp_total, nat_list_cmp_total, on_total, then_total}
use Rattle.std.proofs.lemmas.List.{get_or_append_left, get_or-map, get_or_push, length-map, length_push, map-append}
use Rattle.std.proofs.lemmas.List.FromFn.{get_or-range_with_len, length-range_with_len, map-range_with_len_more}
use Rattle.std.proofs.lemmas.List.Elements.{All-push, recursion_from_All}
use Rattle.std.proofs.lemmas.List.Sorted.{All-permutation, IsPermutation-map, IsPermutation-refl, IsPermutation-trans}
use Rattle.plist_value.specs.Plist.{text}
use Rattle.plist_value.specs.Texts.{units_of}
use Rattle.plist_value.specs.declared.text_ref.TextRef.{TextRef}
use Rattle.plist_keys.specs.declared.order.Row.{Row}
use Rattle.plist_keys.specs.declared.ranks.Ranks.{Ranks}
use Rattle.plist_keys.specs.KeyOrder.{AreRows, AreTexts, HoldsString, IsRankOf, TellsOrder, by_number, sort_key, index_of, string_at, row_units}
use Rattle.plist_object.specs.Objects.{holds_scalar}
use Rattle.plist_keys.specs.Order.{IsInOrder, strings_at}
use Rattle.plist_object.specs.Places.{units_in}
use Rattle.plist_object.specs.Places.{Holds, what_holds}
use Rattle.plist_keys.specs.Ranks.{AreRanks, texts_of}
use Rattle.plist_keys.proofs.Ranked.{below_from_ranks, irreflexive, less_from_lt}

-- the row's prefix is the rank of its string, which is among the strings so far
abbrev pub IsRankedRow : Ranks → List TextRef → Row → Type 0
IsRankedRow ranks texts row = (row.index < length texts) × (row.run ≡ 0) × IsRankOf ranks row.prefix (row_units texts row)

ranks_tell : (f : List ℕ) (ranks : Ranks) (texts : List TextRef) (row other : Row) → AreRanks f ranks → IsRankedRow ranks texts row → IsRankedRow ranks texts other → TellsOrder texts row other
ranks_tell f ranks texts row other are is is_other below =
    let first = is.1 in
    let second = is_other.1 in
    let less : row.prefix < other.prefix = omega (arith, first, second, below) in
    sym (ap (λ us. slice_cmp nat_cmp us (get_or (texts_of ranks) other.prefix [])) is.2.1 ∙ ap (λ us. slice_cmp nat_cmp (row_units texts row) us) is_other.2.1)
    ∙ below_from_ranks (texts_of ranks) row.prefix other.prefix are.ascending is_other.2.0 less

-- rows in the order of the file
from_file : (texts : List TextRef) (n : ℕ) (rows : List Row) → length texts ≡ n → map index_of rows ≡ range_with_len 0 n → All (λ row. All (TellsOrder texts row) rows) rows → AreRows texts rows
from_file texts n rows long are tell = record {
  moved = subst (λ (ps : List ℕ). IsPermutation (range_with_len 0 (length texts)) ps) (ap (range_with_len 0) long ∙ sym are) (IsPermutation-refl (range_with_len 0 (length texts)));
  tell = tell;
}

pub AreRows-ranked : (f : List ℕ) (n : ℕ) (ranks : Ranks) (texts : List TextRef) (rows : List Row) → AreRanks f ranks → length texts ≡ n → map index_of rows ≡ range_with_len 0 n → All (IsRankedRow ranks texts) rows → AreRows texts rows
AreRows-ranked f n ranks texts rows are long indices ranked =
    from_file texts n rows long indices (λ i d h j e g. ranks_tell f ranks texts (get_or rows i d) (get_or rows j e) are (ranked i d h) (ranked j e g))

-- no number tells anything of rows that are not numbered
pub unnumbered-tell : (texts : List TextRef) (rows : List Row) → All (λ row. sort_key row ≡ 0) rows → All (λ row. All (TellsOrder texts row) rows) rows
unnumbered-tell texts rows none i d h j e g below =
    absurd (let first = none i d h in let second = none j e g in omega (arith, first, second, below))

pub unnumbered-sorted : (rows : List Row) → All (λ row. sort_key row ≡ 0) rows → IsNonDecreasingBy sort_key rows
unnumbered-sorted rows none i j d low high =
    let first = none i d (omega (arith, low, high)) in let second = none j d high in omega (arith, first, second)

-- rows that were sorted and numbered
pub AreRows-sorted : (texts : List TextRef) (n : ℕ) (rows sorted : List Row) → length texts ≡ n → map index_of rows ≡ range_with_len 0 n → IsPermutation (map index_of rows) (map index_of sorted) → All (λ row. All (TellsOrder texts row) sorted) sorted → AreRows texts sorted
AreRows-sorted texts n rows sorted long indices moved tell = record {
  moved = subst (λ (ps : List ℕ). IsPermutation ps (map index_of sorted)) (indices ∙ ap (range_with_len 0) (sym long)) moved;
  tell = tell;
}

-- the strings after one is pushed
string_before : (texts : List TextRef) (last : TextRef) (index : ℕ) → index < length texts → string_at (texts ++ last ∷ []) index ≡ string_at texts index
string_before texts last index within =
    ap (λ (uss : List (List ℕ)). get_or uss index []) (map-append units_of texts (last ∷ [])) ∙ get_or_append_left (map units_of texts) (units_of last ∷ []) [] index (omega (arith, within, length-map texts units_of))

string_last : (texts : List TextRef) (last : TextRef) (index : ℕ) → length texts ≡ index → string_at (texts ++ last ∷ []) index ≡ units_of last
string_last texts last index long =
    ap (λ (uss : List (List ℕ)). get_or uss index []) (map-append units_of texts (last ∷ [])) ∙ get_or_push (map units_of texts) (units_of last) [] index (length-map texts units_of ∙ long)

pub strings-push : (f keys : List ℕ) (texts pushed : List TextRef) (last : TextRef) (k : ℕ) → pushed ≡ texts ++ last ∷ [] → length texts ≡ k → Holds f (slice_index keys k) (holds_scalar (text (units_of last))) → ((j : ℕ) → j < k → HoldsString f keys texts j) → (j : ℕ) → j < k + 1 → HoldsString f keys pushed j
strings-push f keys texts pushed last k is long holds before j within =
    let at : string_at pushed j ≡ string_at (texts ++ last ∷ []) j = ap (λ (ts : List TextRef). string_at ts j) is in
    elim (cases_lt j k) [
      | inl under ↦ subst (λ (us : List ℕ). Holds f (slice_index keys j) (holds_scalar (text us))) (sym (at ∙ string_before texts last j (omega (arith, long, under)))) (before j under)
      | inr over ↦ (
          let here : k ≡ j = omega (arith, within, over) in
          subst (λ (us : List ℕ). Holds f (slice_index keys j) (holds_scalar (text us))) (sym (at ∙ string_last texts last j (long ∙ here))) (subst (λ (n : ℕ). Holds f (slice_index keys n) (holds_scalar (text (units_of last)))) here holds))
    ]

-- the rows of ranked keys after one is pushed
pub ranked-push : (ranks : Ranks) (texts pushed : List TextRef) (last : TextRef) (rows rows_pushed : List Row) (row : Row) (k : ℕ) → pushed ≡ texts ++ last ∷ [] → length texts ≡ k → rows_pushed ≡ rows ++ row ∷ [] → row.index ≡ k → row.run ≡ 0 → IsRankOf ranks row.prefix (units_of last) → All (IsRankedRow ranks texts) rows → All (IsRankedRow ranks pushed) rows_pushed
ranked-push ranks texts pushed last rows rows_pushed row k is long rows_is at run rank before =
    let all = texts ++ last ∷ [] in
    let more = length_push texts last in
    let kept : All (IsRankedRow ranks all) rows = λ i d h. (
    let was = before i d h in
    (omega (arith, more, was.0), was.1, (was.2.0, was.2.1 ∙ sym (string_before texts last (get_or rows i d).index was.0)))) in
    let new : IsRankedRow ranks all row = (omega (arith, more, long, at), run, (rank.0, rank.1 ∙ sym (string_last texts last row.index (long ∙ sym at)))) in
    subst (λ (ts : List TextRef). All (IsRankedRow ranks ts) rows_pushed) (sym is) (subst (λ (rs : List Row). All (IsRankedRow ranks all) rs) (sym rows_is) (All-push (IsRankedRow ranks all) rows row kept new))

map_self : (xs : List ℕ) → map (λ x. x) xs ≡ xs
map_self [] = refl
map_self (x ∷ xs) = ap (λ ys. x ∷ ys) (map_self xs)

range-more : (k : ℕ) → range_with_len 0 (k + 1) ≡ range_with_len 0 k ++ k ∷ []
range-more k =
    sym (map_self (range_with_len 0 (k + 1))) ∙ map-range_with_len_more (λ n. n) 0 k k (omega arith) ∙ ap (λ ns. ns ++ k ∷ []) (map_self (range_with_len 0 k))

-- the positions after a row is pushed
pub indices-push : (rows pushed : List Row) (row : Row) (k : ℕ) → pushed ≡ rows ++ row ∷ [] → row.index ≡ k → map index_of rows ≡ range_with_len 0 k → map index_of pushed ≡ range_with_len 0 (k + 1)
indices-push rows pushed row k is at so_far =
    ap (map index_of) is ∙ map-append index_of rows (row ∷ []) ∙ ap (λ ps. ps ++ index_of row ∷ []) so_far ∙ ap (λ p. range_with_len 0 k ++ p ∷ []) at ∙ sym (range-more k)

-- permuted numbers still tell the order
pub moved_tell : (texts : List TextRef) (rows sorted : List Row) → IsPermutation rows sorted → All (λ row. All (TellsOrder texts row) rows) rows → All (λ row. All (TellsOrder texts row) sorted) sorted
moved_tell texts rows sorted moved tell =
    let to_each : All (λ row. All (TellsOrder texts row) sorted) rows = λ k d h. All-permutation (TellsOrder texts (get_or rows k d)) rows sorted moved (tell k d h) in
    All-permutation (λ row. All (TellsOrder texts row) sorted) rows sorted moved to_each

-- permuted rows are still the rows of the strings
pub moved_rows : (texts : List TextRef) (rows sorted : List Row) → IsPermutation rows sorted → AreRows texts rows → AreRows texts sorted
moved_rows texts rows sorted moved are = record {
  moved = IsPermutation-trans (range_with_len 0 (length texts)) (map index_of rows) (map index_of sorted) are.moved (IsPermutation-map index_of rows sorted moved);
  tell = moved_tell texts rows sorted moved are.tell;
}

pub by_number_total : (texts : List TextRef) → IsTotalOrder (by_number texts)
by_number_total texts = then_total (on_total sort_key nat_cmp_total) (on_total (row_units texts) nat_list_cmp_total)

-- a row with a lower string comes first
lower_first : (texts : List TextRef) (row other : Row) → TellsOrder texts other row → slice_cmp nat_cmp (row_units texts row) (row_units texts other) ≡ Less → is_lt (by_number texts row other) ≡ true
lower_first texts row other tells less =
    let p = slice_cmp nat_cmp (row_units texts row) (row_units texts other) in
    elim (cases_lt (sort_key row) (sort_key other)) [
      | inl below ↦ ap (λ first. is_lt (ordering_then first p)) (sym (nat_cmp_is (sort_key row) (sort_key other) Less below))
      | inr above ↦ elim (cases_lt (sort_key other) (sort_key row)) [
        | inl before ↦ absurd (irreflexive (row_units texts row) (nat_list_cmp_total.trans (row_units texts row) (row_units texts other) (row_units texts row) less (tells before)))
        | inr after ↦ (
            let same : sort_key row ≡ sort_key other = omega arith in
            ap (λ first. is_lt (ordering_then first p)) (sym (nat_cmp_is (sort_key row) (sort_key other) Equal same)) ∙ ap is_lt less)
      ]
    ]

in_order : (texts : List TextRef) (rows : List Row) → AreRows texts rows → IsSorted (by_number texts) rows → (k : ℕ) (e : Row) → k + 1 < length rows → is_lt (slice_cmp nat_cmp (row_units texts (get_or rows (k + 1) e)) (row_units texts (get_or rows k e))) ≡ false
in_order texts rows are sorted k e h =
    let row = get_or rows k e in
    let next = get_or rows (k + 1) e in
    false_from_ne_true (is_lt (slice_cmp nat_cmp (row_units texts next) (row_units texts row))) (λ lower.
    true≢false (sym (lower_first texts next row (are.tell k e (omega arith) (k + 1) e h) (less_from_lt (slice_cmp nat_cmp (row_units texts next) (row_units texts row)) lower)) ∙ sorted k e (omega arith) h))

texts_in_order : (texts : List TextRef) (rows : List Row) → AreRows texts rows → IsSorted (by_number texts) rows → IsSorted (slice_cmp nat_cmp) (map (row_units texts) rows)
texts_in_order texts [] are sorted k d low high = absurd (omega arith)
texts_in_order texts (first ∷ rows) are sorted k d low high =
    let all = first ∷ rows in
    let long = length-map all (row_units texts) in
    let within : k + 1 < length all = omega (arith, long, high) in
    let lower = get_or-map (row_units texts) all k first d (omega arith) in
    let upper = get_or-map (row_units texts) all (k + 1) first d within in
    ap (λ us. is_lt (slice_cmp nat_cmp us (get_or (map (row_units texts) all) k d))) upper ∙ ap (λ us. is_lt (slice_cmp nat_cmp (row_units texts (get_or all (k + 1) first)) us)) lower ∙ in_order texts all are sorted k first within

-- the strings of the rows are the strings at their positions
strings_of : (f keys : List ℕ) (texts : List TextRef) (rows : List Row) → AllByRecursion (HoldsString f keys texts) (map index_of rows) → strings_at f keys (map index_of rows) ≡ map (row_units texts) rows
strings_of f keys texts [] held = refl
strings_of f keys texts (row ∷ rows) held =
    let one : units_in (what_holds f (slice_index keys row.index)) ≡ row_units texts row = ap units_in held.0.reads in
    let others = strings_of f keys texts rows held.1 in
    ap (λ us. us ∷ strings_at f keys (map index_of rows)) one ∙ ap (λ ts. row_units texts row ∷ ts) others

pub strings-rows : (f keys : List ℕ) (texts : List TextRef) (rows : List Row) → AreTexts f keys texts → AreRows texts rows → strings_at f keys (map index_of rows) ≡ map (row_units texts) rows
strings-rows f keys texts rows strings are =
    let n = length texts in
    let listed : All (HoldsString f keys texts) (range_with_len 0 n) = λ k d h. (
    let within : k < n = omega (arith, h, length-range_with_len 0 n) in
    let none : 0 + k ≡ k = omega arith in
    subst (HoldsString f keys texts) (sym (get_or-range_with_len 0 n k d within ∙ none)) (strings.held k (omega (arith, within, strings.long)))) in
    strings_of f keys texts rows (recursion_from_All (HoldsString f keys texts) (map index_of rows) (All-permutation (HoldsString f keys texts) (range_with_len 0 n) (map index_of rows) are.moved listed))

-- the positions of rows that are sorted by their numbers are in the order of the strings
pub IsInOrder-rows : (f keys : List ℕ) (texts : List TextRef) (rows sorted : List Row) → AreTexts f keys texts → AreRows texts rows → IsPermutation rows sorted → IsSorted (by_number texts) sorted → IsInOrder f keys (map index_of sorted)
IsInOrder-rows f keys texts rows sorted strings are moved order =
    let now = moved_rows texts rows sorted moved are in
    record {
      moved = subst (λ (n : ℕ). IsPermutation (range_with_len 0 n) (map index_of sorted)) strings.long now.moved;
      sorted = subst (λ (ts : List (List ℕ)). IsSorted (slice_cmp nat_cmp) ts) (sym (strings-rows f keys texts sorted strings now)) (texts_in_order texts sorted now order);
    }
