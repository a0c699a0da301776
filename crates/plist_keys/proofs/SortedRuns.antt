-- Runs of rows with equal numbers, each sorted by the sort prefixes of its strings.
use Rattle.std.proofs.Common.{◌≡◌, ℕ, zero, suc, ◌+◌, ◌-◌, ◌*◌, ◌^◌, ◌<◌, ◌≤◌, List, [], ◌∷◌, ◌++◌, length, get_or, map, take, drop, refl, sym, ap, ◌∙◌, subst, arith, inl, inr}
use Rattle.std.specs.Prelude.{All}
use Rattle.std.specs.declared.cmp.Ordering.TheVariants.{Less}
use Rattle.std.specs.Ordering.{nat_cmp}
use Rattle.std.specs.Cmp.Lexicographic.{slice_cmp}
use Rattle.std.specs.List.Sorted.{IsNonDecreasingBy, IsPermutation, IsSorted}
use Rattle.std.proofs.lemmas.Bool.{cases_lt}
use Rattle.std.proofs.Math.ListN.{get_or-append}
use Rattle.std.proofs.Math.Seq.{drop-append_seam, get_or-append_right, take-append_seam}
use Rattle.std.proofs.lemmas.List.{append_assoc, drop-drop, get_or-drop, get_or-map, get_or-take, get_or_default, length-append, length-drop, length-map, length-take, length-take-le, map-append, take-take, take-append-drop}
use Rattle.std.proofs.lemmas.List.Elements.{All-append, All-drop, All-map, All-take}
use Rattle.std.proofs.lemmas.List.Sorted.{All-permutation, IsNonDecreasingBy-from_sort, IsPermutation-append_left, IsPermutation-append_right, IsPermutation-map, IsPermutation-trans}
use Rattle.plist_value.specs.declared.text_ref.TextRef.{TextRef}
use Rattle.plist_keys.specs.declared.order.Row.{Row}
use Rattle.plist_keys.specs.KeyOrder.{TellsOrder, sort_key, index_of, row_units}
use Rattle.plist_keys.specs.declared.prefixes.Width.{Width}
use Rattle.plist_keys.specs.Prefixes.{in_run, IsRunSorted}
use Rattle.plist_keys.proofs.KeyOrders.{moved_tell}
use Rattle.plist_keys.proofs.PrefixSteps.{lower_by_head, prefix_below}

-- what the first string shares with the others, it shares with all
pub shared_all : (texts : List TextRef) (rows : List Row) (count : ℕ) (first : List ℕ) (d : Row) → first ≡ row_units texts (get_or rows 0 d) → ((k : ℕ) (e : Row) → k + 1 < length rows → take count (row_units texts (get_or (take (length rows - 1) (drop 1 rows)) k e)) ≡ take count first) → All (λ row. take count (row_units texts row) ≡ take count first) rows
shared_all texts [] count first d is others k e h = absurd (omega (arith, h))
shared_all texts (row ∷ rows) count first d is others zero e h = ap (take count) (sym is)
shared_all texts (row ∷ rows) count first d is others (suc k) e h =
    ap (λ (r : Row). take count (row_units texts r)) (sym (get_or-take (length (row ∷ rows) - 1) rows k e (omega (arith, h)))) ∙ others k e (omega (arith, h))

-- fewer units that one more string shares
pub shared_more : (texts : List TextRef) (rows : List Row) (i count fewer : ℕ) (first next : List ℕ) (d : Row) → ((k : ℕ) (e : Row) → k < i → take count (row_units texts (get_or rows k e)) ≡ take count first) → fewer ≤ count → i < length rows → next ≡ row_units texts (get_or rows i d) → take fewer next ≡ take fewer first → (k : ℕ) (e : Row) → k < i + 1 → take fewer (row_units texts (get_or rows k e)) ≡ take fewer first
shared_more texts rows i count fewer first next d before less within is shares k e h =
    elim (cases_lt k i) [
      | inl under ↦ sym (take-take fewer count (row_units texts (get_or rows k e)) less) ∙ ap (take fewer) (before k e under) ∙ take-take fewer count first less
      | inr over ↦ (
          let here : i ≡ k = omega (arith, h, over) in
          let same : get_or rows k e ≡ get_or rows i d = ap (λ (n : ℕ). get_or rows n e) (sym here) ∙ get_or_default rows i e d within in
          ap (λ (r : Row). take fewer (row_units texts r)) same ∙ ap (take fewer) (sym is) ∙ shares)
    ]

abbrev IsLess : List TextRef → Row → Row → Type 0
IsLess texts row other = slice_cmp nat_cmp (row_units texts row) (row_units texts other) ≡ Less

-- The runs before index `start` were sorted.
pub record AreRunsSorted (texts : List TextRef) (start : ℕ) (old now : List Row) : Type 0 where
  pub done : List Row
  pub is : now ≡ done ++ drop start old
  pub long : length done ≡ start
  pub moved : IsPermutation (map index_of old) (map index_of now)
  pub sorted : IsNonDecreasingBy sort_key done
  pub below : All (λ row. sort_key row < 2 ^ 64 * start) done
  pub tell : All (λ row. All (TellsOrder texts row) done) done
  pub apart : All (λ row. All (IsLess texts row) (drop start old)) done

places_in_run : (texts : List TextRef) (start front : ℕ) (width : Width) (rows : List Row) → map index_of (map (in_run texts start front width) rows) ≡ map index_of rows
places_in_run texts start front width [] = refl
places_in_run texts start front width (row ∷ rows) = ap (λ (ps : List ℕ). index_of row ∷ ps) (places_in_run texts start front width rows)

-- numbers that never fall, followed by others that are no lower
fall_append : (xs ys : List Row) (most : ℕ) → IsNonDecreasingBy sort_key xs → IsNonDecreasingBy sort_key ys → All (λ row. sort_key row < most) xs → All (λ row. most ≤ sort_key row) ys → IsNonDecreasingBy sort_key (xs ++ ys)
fall_append xs ys most first second below above i j d low high =
    let n = length xs in
    let long = length-append xs ys in
    elim (cases_lt j n) [
      | inl early ↦ rw (get_or-append xs ys d i (omega (arith, low, early)), get_or-append xs ys d j early) (first i j d low early)
      | inr late ↦ (
          let after : sort_key (get_or (xs ++ ys) j d) ≡ sort_key (get_or ys (j - n) d) = ap sort_key (get_or-append_right xs ys j d late) in
          elim (cases_lt i n) [
            | inl early ↦ (
                let before : sort_key (get_or (xs ++ ys) i d) ≡ sort_key (get_or xs i d) = ap sort_key (get_or-append xs ys d i early) in
                omega (arith, below i d early, above (j - n) d (omega (arith, long, late, high)), before, after))
            | inr later ↦ (
                let before : sort_key (get_or (xs ++ ys) i d) ≡ sort_key (get_or ys (i - n) d) = ap sort_key (get_or-append_right xs ys i d later) in
                omega (arith, second (i - n) (j - n) d (omega (arith, low)) (omega (arith, long, late, high)), before, after))
          ])
    ]

-- a number of the run that begins at index `start`
number_within : (texts : List TextRef) (start front : ℕ) (width : Width) (row : Row) → sort_key (in_run texts start front width row) < 2 ^ 64 * (start + 1)
number_within texts start front width row =
    let below = prefix_below width (drop front (row_units texts row)) in omega (arith, below)

-- rows of one run that are sorted by their sort prefixes
pub sorted_by_prefix : (texts : List TextRef) (start front : ℕ) (width : Width) (old new : List Row) → IsPermutation (map (in_run texts start front width) old) new → IsSorted (λ row other. nat_cmp row.prefix other.prefix) new → IsNonDecreasingBy sort_key new
sorted_by_prefix texts start front width old new moved sorted i j d low high =
    let here : All (λ row. row.run ≡ start) new = All-permutation (λ (row : Row). row.run ≡ start) (map (in_run texts start front width) old) new moved (All-map (λ (row : Row). row.run ≡ start) (in_run texts start front width) old (λ j e g. refl)) in
    let prefixes = IsNonDecreasingBy-from_sort (λ (row : Row). row.prefix) new sorted i j d low high in
    omega (arith, here i d (omega (arith, low, high)), here j d high, prefixes)

-- rows that share their first units, numbered in one run
numbered_tell : (texts : List TextRef) (start front : ℕ) (width : Width) (first : List ℕ) (rows : List Row) → All (λ row. take front (row_units texts row) ≡ take front first) rows → All (λ row. All (TellsOrder texts row) (map (in_run texts start front width) rows)) (map (in_run texts start front width) rows)
numbered_tell texts start front width first rows shared i d h j e g =
    let now = map (in_run texts start front width) rows in
    let long = length-map rows (in_run texts start front width) in
    let at : (k : ℕ) (b : Row) → k < length now → get_or now k b ≡ in_run texts start front width (get_or rows k b) = λ k b within. get_or-map (in_run texts start front width) rows k b b (omega (arith, long, within)) in
    subst (λ (row : Row). TellsOrder texts row (get_or now j e)) (sym (at i d h)) (subst (λ (other : Row). TellsOrder texts (in_run texts start front width (get_or rows i d)) other) (sym (at j e g)) (λ below. lower_by_head width front first (row_units texts (get_or rows i d)) (row_units texts (get_or rows j e)) (slice_cmp nat_cmp (row_units texts (get_or rows i d)) (row_units texts (get_or rows j e))) (shared i d (omega (arith, long, h))) (shared j e (omega (arith, long, g))) refl (omega (arith, below))))

-- one more run is sorted
module _ (texts : List TextRef) (start end : ℕ) (old now next : List Row) (some : start < end) (within : end ≤ length old) (rises : end < length now → (d : Row) → sort_key (get_or now (end - 1) d) < sort_key (get_or now end d)) (tells : All (λ row. All (TellsOrder texts row) old) old) (sorted : IsNonDecreasingBy sort_key old) (so_far : AreRunsSorted texts start old now) (run : IsRunSorted texts start (take (end - start) (drop start now)) next) (as_many : length next ≡ length (take (end - start) (drop start now))) where
  abbrev part : List Row
  part = take (end - start) (drop start old)

  abbrev numbered : List Row
  numbered = map (in_run texts start run.front run.width) part

  rest_is : drop start now ≡ drop start old
  rest_is =
      let seam = ap (drop start) so_far.is in
      let at : drop start (so_far.done ++ drop start old) ≡ drop start old = subst (λ (n : ℕ). drop n (so_far.done ++ drop start old) ≡ drop start old) so_far.long (drop-append_seam so_far.done (drop start old)) in
      seam ∙ at

  part_is : take (end - start) (drop start now) ≡ part
  part_is = ap (take (end - start)) rest_is

  front_is : take start now ≡ so_far.done
  front_is =
      ap (take start) so_far.is ∙ subst (λ (n : ℕ). take n (so_far.done ++ drop start old) ≡ so_far.done) so_far.long (take-append_seam so_far.done (drop start old))

  behind_is : drop (end - start) (drop start old) ≡ drop end old
  behind_is = let e : start + (end - start) ≡ end = omega (arith, some) in drop-drop (end - start) start old ∙ ap (λ (n : ℕ). drop n old) e

  behind_now : drop (end - start) (drop start now) ≡ drop end old
  behind_now = ap (drop (end - start)) rest_is ∙ behind_is

  moved_run : IsPermutation numbered next
  moved_run = subst (λ (rows : List Row). IsPermutation (map (in_run texts start run.front run.width) rows) next) part_is run.moved

  shared_run : All (λ row. take run.front (row_units texts row) ≡ take run.front run.first) part
  shared_run = subst (λ (rows : List Row). All (λ row. take run.front (row_units texts row) ≡ take run.front run.first) rows) part_is run.shared

  abbrev done_now : List Row
  done_now = so_far.done ++ next

  is_now : take start now ++ (next ++ drop (end - start) (drop start now)) ≡ done_now ++ drop end old
  is_now =
      ap (λ (rows : List Row). rows ++ (next ++ drop (end - start) (drop start now))) front_is ∙ ap (λ (rows : List Row). so_far.done ++ (next ++ rows)) behind_now ∙ sym (append_assoc so_far.done next (drop end old))

  below_now : All (λ row. sort_key row < 2 ^ 64 * end) done_now
  below_now =
      let in_part : All (λ row. sort_key (in_run texts start run.front run.width row) < 2 ^ 64 * end) part = λ k d h. (let is = number_within texts start run.front run.width (get_or part k d) in omega (arith, is, some)) in
      All-append (λ (row : Row). sort_key row < 2 ^ 64 * end) so_far.done next (λ k d h. (let was = so_far.below k d h in omega (arith, was, some))) (All-permutation (λ (row : Row). sort_key row < 2 ^ 64 * end) numbered next moved_run (All-map (λ (row : Row). sort_key row < 2 ^ 64 * end) (in_run texts start run.front run.width) part in_part))

  above_next : All (λ row. 2 ^ 64 * start ≤ sort_key row) next
  above_next =
      All-permutation (λ (row : Row). 2 ^ 64 * start ≤ sort_key row) numbered next moved_run (All-map (λ (row : Row). 2 ^ 64 * start ≤ sort_key row) (in_run texts start run.front run.width) part (λ k d h. omega arith))

  less_next : (row : Row) → All (IsLess texts row) (drop start old) → All (IsLess texts row) next
  less_next row less =
      All-permutation (IsLess texts row) numbered next moved_run (All-map (IsLess texts row) (in_run texts start run.front run.width) part (All-take (IsLess texts row) (end - start) (drop start old) less))

  tell_now : All (λ row. All (TellsOrder texts row) done_now) done_now
  tell_now =
      let next_tell = moved_tell texts numbered next moved_run (numbered_tell texts start run.front run.width run.first part shared_run) in
      All-append (λ row. All (TellsOrder texts row) done_now) so_far.done next
      (λ i d h. All-append (TellsOrder texts (get_or so_far.done i d)) so_far.done next (so_far.tell i d h) (λ j e g below. less_next (get_or so_far.done i d) (so_far.apart i d h) j e g))
      (λ i d h. All-append (TellsOrder texts (get_or next i d)) so_far.done next (λ j e g below. absurd (let low = so_far.below j e g in let high = above_next i d h in omega (arith, low, high, below))) (next_tell i d h))

  part_apart : All (λ row. All (IsLess texts row) (drop end old)) part
  part_apart i d h j e g =
      let most : length part ≤ end - start = (let e = length-take (end - start) (drop start old) in omega (arith, e)) in
      let last = length-drop end old in
      let first_is : get_or part i d ≡ get_or old (start + i) d = get_or-take (end - start) (drop start old) i d (omega (arith, most, h)) ∙ get_or-drop start old i d in
      let other_is : get_or (drop end old) j e ≡ get_or old (end + j) e = get_or-drop end old j e in
      let far : end + j < length old = omega (arith, last, g, within) in
      let low = sorted (start + i) (end - 1) d (omega (arith, most, h)) (omega (arith, some, within)) in
      let high = sorted end (end + j) d (omega arith) far in
      let at : (k : ℕ) → start ≤ k → get_or now k d ≡ get_or old k d = λ k from.
      let e : start + (k - start) ≡ k = omega (arith, from) in
      ap (λ (n : ℕ). get_or now n d) (sym e) ∙ sym (get_or-drop start now (k - start) d) ∙ ap (λ (rows : List Row). get_or rows (k - start) d) rest_is ∙ get_or-drop start old (k - start) d ∙ ap (λ (n : ℕ). get_or old n d) e in
      let as_long : length old ≤ length now = (
      let a = ap length rest_is in let b = length-drop start now in let c = length-drop start old in omega (arith, a, b, c, within, some)) in
      let rise = rises (omega (arith, as_long, far)) d in
      let lower = ap (λ (row : Row). sort_key row) (at (end - 1) (omega (arith, some))) in
      let upper = ap (λ (row : Row). sort_key row) (at end (omega (arith, some))) in
      let same = ap (λ (row : Row). sort_key row) (get_or_default old (end + j) d e far) in
      subst (λ (row : Row). IsLess texts row (get_or (drop end old) j e)) (sym first_is) (subst (IsLess texts (get_or old (start + i) d)) (sym other_is) (tells (start + i) d (omega (arith, most, h, within)) (end + j) e far (omega (arith, low, high, rise, lower, upper, same))))

  apart_now : All (λ row. All (IsLess texts row) (drop end old)) done_now
  apart_now =
      All-append (λ row. All (IsLess texts row) (drop end old)) so_far.done next
      (λ i d h. subst (λ (rows : List Row). All (IsLess texts (get_or so_far.done i d)) rows) behind_is (All-drop (IsLess texts (get_or so_far.done i d)) (end - start) (drop start old) (so_far.apart i d h)))
      (All-permutation (λ row. All (IsLess texts row) (drop end old)) numbered next moved_run (All-map (λ row. All (IsLess texts row) (drop end old)) (in_run texts start run.front run.width) part part_apart))

  moved_now : IsPermutation (map index_of old) (map index_of (done_now ++ drop end old))
  moved_now =
      let rest = drop end old in
      let now_is : now ≡ so_far.done ++ (part ++ rest) = so_far.is ∙ ap (λ (rows : List Row). so_far.done ++ rows) (sym (ap (λ (rows : List Row). part ++ rows) (sym behind_is) ∙ take-append-drop (end - start) (drop start old))) in
      let one : IsPermutation (map index_of part) (map index_of next) = subst (λ (ps : List ℕ). IsPermutation ps (map index_of next)) (places_in_run texts start run.front run.width part) (IsPermutation-map index_of numbered next moved_run) in
      let all = IsPermutation-append_right (map index_of so_far.done) (map index_of part ++ map index_of rest) (map index_of next ++ map index_of rest) (IsPermutation-append_left (map index_of rest) (map index_of part) (map index_of next) one) in
      let before : map index_of now ≡ map index_of so_far.done ++ (map index_of part ++ map index_of rest) = ap (map index_of) now_is ∙ map-append index_of so_far.done (part ++ rest) ∙ ap (λ (ps : List ℕ). map index_of so_far.done ++ ps) (map-append index_of part rest) in
      let after : map index_of (done_now ++ rest) ≡ map index_of so_far.done ++ (map index_of next ++ map index_of rest) = ap (map index_of) (append_assoc so_far.done next rest) ∙ map-append index_of so_far.done (next ++ rest) ∙ ap (λ (ps : List ℕ). map index_of so_far.done ++ ps) (map-append index_of next rest) in
      IsPermutation-trans (map index_of old) (map index_of now) (map index_of (done_now ++ rest)) so_far.moved (subst (λ (ps : List ℕ). IsPermutation (map index_of now) ps) (sym after) (subst (λ (ps : List ℕ). IsPermutation ps (map index_of so_far.done ++ (map index_of next ++ map index_of rest))) (sym before) all))

  long_now : length done_now ≡ end
  long_now =
      let a = length-append so_far.done next in
      let b = so_far.long in
      let c : length (take (end - start) (drop start now)) ≡ length part = ap length part_is in
      let d = length-drop start old in
      let e = length-take-le (end - start) (drop start old) (omega (arith, d, within, some)) in
      omega (arith, a, b, c, e, as_many, some)

  pub run_sorted : AreRunsSorted texts end old (take start now ++ (next ++ drop (end - start) (drop start now)))
  run_sorted = record {
    done = done_now;
    is = is_now;
    long = long_now;
    moved = subst (λ (rows : List Row). IsPermutation (map index_of old) (map index_of rows)) (sym is_now) moved_now;
    sorted = fall_append so_far.done next (2 ^ 64 * start) so_far.sorted run.sorted so_far.below above_next;
    below = below_now;
    tell = tell_now;
    apart = apart_now;
  }

pub long_sorted : (texts : List TextRef) (start : ℕ) (old now : List Row) → start ≤ length old → AreRunsSorted texts start old now → length now ≡ length old
long_sorted texts start old now within are =
    let a = ap length are.is in
    let b = length-append are.done (drop start old) in
    let c = length-drop start old in
    let d = are.long in
    omega (arith, a, b, c, d, within)
