-- From each index of a list to each item.
use Rattle.std.proofs.Common.{List, [], ◌∷◌, ◌++◌, ◌≡◌, ℕ, zero, suc, ◌-◌, ◌<◌, ◌≤◌, length, Bool, Ok, Err, Result, refl, sym, ap, subst, ◌∙◌, arith}
use Rattle.std.specs.List.{AllByRecursion}
use Rattle.std.specs.Prelude.{◌↔◌, ◌≢◌, slice_index, EachIndex, IsOk, IsTrue}
use Rattle.std.specs.declared.cmp.Ordering.TheVariants.{Less}
use Rattle.std.specs.Ordering.{nat_cmp}
use Rattle.std.specs.Cmp.Lexicographic.{slice_cmp}
use Rattle.std.specs.List.Sorted.{IsStrictlySortedBy}
use Rattle.std.proofs.lemmas.Bool.{true≢false}
use Rattle.std.proofs.lemmas.Cmp.{nat_list_cmp_total}
use Rattle.plist_value.specs.Plist.{Scalar}
use Rattle.plist_value.specs.declared.scalar_ref.ScalarRef.{ScalarRef}
use Rattle.plist_object.specs.declared.object.Object.{Object}
use Rattle.plist_object.specs.declared.object.Object.TheVariants as shown
use Rattle.plist_object.specs.declared.object.ObjectFault.{ObjectFault}
use Rattle.plist_object.specs.Views.{held_of}
use Rattle.plist_object.specs.Layout.{trailer_of}
use Rattle.plist_object.specs.Objects.{Content, holds_scalar, holds_list, holds_table, ◌>>=◌}
use Rattle.plist_object.specs.Places.{Holds, object_at, place_of, what_holds, span_of, HoldsText}
use Rattle.plist_object.proofs.Readable.{Holds-reads}
use Rattle.plist_canon.specs.Rules.{HoldTexts, IsWellRead, HasAscendingKeys, Adjoins}
use Rattle.plist_keys.specs.Ascending.{AscendInTurn}
use Rattle.plist_keys.proofs.KeysInTurn.{same_text}
use Rattle.plist_canon.specs.Checking.{RefersWell, IsEndBefore, Follows}

pub every_append : {X : Type 0} (P : X → Type 0) (xs ys : List X) → AllByRecursion P xs → AllByRecursion P ys → AllByRecursion P (xs ++ ys)
every_append P [] ys each others = others
every_append P (x ∷ xs) ys each others = (each.0, every_append P xs ys each.1 others)

-- What is validated of one object.

pub all_from_each : (P : ℕ → Type 0) (xs : List ℕ) → EachIndex xs (λ k. P (slice_index xs k)) → AllByRecursion P xs
all_from_each P [] each = tt
all_from_each P (x ∷ xs) each = (each 0 (omega arith), all_from_each P xs (λ k below. each (suc k) (omega arith)))

pub each_from_all : (P : ℕ → Type 0) (xs : List ℕ) → AllByRecursion P xs → EachIndex xs (λ k. P (slice_index xs k))
each_from_all P [] all k below = absurd (omega arith)
each_from_all P (x ∷ xs) all zero below = all.0
each_from_all P (x ∷ xs) all (suc k) below = each_from_all P xs all.1 k (omega arith)

pub all_rest : (P : ℕ → Type 0) (xs ys : List ℕ) → AllByRecursion P (xs ++ ys) → AllByRecursion P ys
all_rest P [] ys all = all
all_rest P (x ∷ xs) ys all = all_rest P xs ys all.1

span_reads : (m : Result (Content × List ℕ) ObjectFault) (g : Content × List ℕ → ℕ × ℕ) → IsOk m → IsOk (m >>= λ read. Ok (g read))
span_reads (Ok read) g ok = refl
span_reads (Err fault) g ok = ok

pub Holds-span : (f : List ℕ) (i : ℕ) (held : Content) → Holds f i held → IsOk (span_of f i)
unfolding span_of
Holds-span f i held holds = span_reads (object_at f i) _ (Holds-reads f i held holds)

-- an object that can be decoded begins at its offset
abbrev ok_pair : ℕ × ℕ → Result (ℕ × ℕ) ObjectFault
ok_pair p = Ok p

started : (offset table : ℕ) (m : Result (Content × List ℕ) ObjectFault) → IsOk m → (end : ℕ) × ((m >>= λ read. ok_pair (offset, table - length read.1)) ≡ ok_pair (offset, end))
started offset table (Ok read) ok = (table - length read.1, refl)
started offset table (Err fault) ok = absurd (true≢false (sym ok))

pub span-starts : (f : List ℕ) (i : ℕ) → IsOk (object_at f i) → (end : ℕ) × (span_of f i ≡ Ok (place_of f i, end))
unfolding span_of
span-starts f i ok = started (place_of f i) (trailer_of f).table (object_at f i) ok

-- the strings that the references point to
pub texts_of : (f keys : List ℕ) → AllByRecursion (HoldsText f) keys → (texts : List (List ℕ)) × HoldTexts f keys texts
texts_of f [] all = ([], refl)
texts_of f (i ∷ keys) all =
    let rest = texts_of f keys all.1 in
    (all.0.0 ∷ rest.0, (all.0.1, rest.1))

-- strings that ascend pairwise are below all later ones
above_all : (units : List ℕ) (next : List ℕ) (texts : List (List ℕ)) → slice_cmp nat_cmp units next ≡ Less → AllByRecursion (λ later. slice_cmp nat_cmp next later ≡ Less) texts → AllByRecursion (λ later. slice_cmp nat_cmp units later ≡ Less) texts
above_all units next [] below all = tt
above_all units next (later ∷ texts) below all =
    (nat_list_cmp_total.trans units next later below all.0, above_all units next texts below all.1)

pub sorted_from_turns : (f keys : List ℕ) (texts : List (List ℕ)) → HoldTexts f keys texts → AscendInTurn f keys → IsStrictlySortedBy (slice_cmp nat_cmp) texts
unfolding IsStrictlySortedBy
sorted_from_turns f keys [] hold ascend = tt
sorted_from_turns f [] (units ∷ texts) hold ascend = absurd hold
sorted_from_turns f (i ∷ keys) (units ∷ []) hold ascend = (tt, tt)
sorted_from_turns f (i ∷ []) (units ∷ next ∷ texts) hold ascend = absurd hold.1
sorted_from_turns f (i ∷ j ∷ keys) (units ∷ next ∷ texts) hold ascend =
    let rest = sorted_from_turns f (j ∷ keys) (next ∷ texts) hold.1 (λ k below. ascend (suc k) (omega arith)) in
    let here = ascend 0 (omega arith) in
    let first : here.first ≡ units = same_text f i here.first units here.holds_first hold.0 in
    let second : here.second ≡ next = same_text f j here.second next here.holds_second hold.1.0 in
    let below : slice_cmp nat_cmp units next ≡ Less = rw (← first, ← second) here.below in
    ((below, above_all units next texts below rest.0), rest)

pub turns_from_sorted : (f keys : List ℕ) (texts : List (List ℕ)) → HoldTexts f keys texts → IsStrictlySortedBy (slice_cmp nat_cmp) texts → AscendInTurn f keys
unfolding IsStrictlySortedBy
turns_from_sorted f [] texts hold sorted k below = absurd (omega arith)
turns_from_sorted f (i ∷ keys) [] hold sorted k below = absurd (let none : i ∷ keys ≡ [] = hold in cc)
turns_from_sorted f (i ∷ []) (units ∷ texts) hold sorted k below = absurd (omega arith)
turns_from_sorted f (i ∷ j ∷ keys) (units ∷ []) hold sorted k below = absurd (let none : j ∷ keys ≡ [] = hold.1 in cc)
turns_from_sorted f (i ∷ j ∷ keys) (units ∷ next ∷ texts) hold sorted zero below = record {
  first = units;
  second = next;
  holds_first = hold.0;
  holds_second = hold.1.0;
  below = sorted.0.0;
}
turns_from_sorted f (i ∷ j ∷ keys) (units ∷ next ∷ texts) hold sorted (suc k) below =
    turns_from_sorted f (j ∷ keys) (next ∷ texts) hold.1 sorted.1 k (omega arith)

-- the keys of a dictionary ascend if the strings that its references point to do
pub HasAscendingKeys-turns : (f : List ℕ) (i : ℕ) (keys values : List ℕ) → Holds f i (holds_table keys values) → AscendInTurn f keys → HasAscendingKeys f i
HasAscendingKeys-turns f i keys values holds ascend others more texts reads hold =
    let e : holds_table keys values ≡ holds_table others more = (let a = holds.reads in cc) in
    let same : others ≡ keys = cc in
    sorted_from_turns f keys texts (subst (λ (refs : List ℕ). HoldTexts f refs texts) same hold) ascend

-- an object that begins elsewhere breaks rule 3
pub not-Adjoins : (f : List ℕ) (i offset start end : ℕ) → IsEndBefore f i offset → span_of f i ≡ Ok (start, end) → start ≢ offset → ¬ Adjoins f i
not-Adjoins f zero offset start end before span other adjoins =
    other (adjoins.first start end refl span ∙ sym before)
not-Adjoins f (suc i) offset start end before span other adjoins =
    other (adjoins.next i before.0 offset start end refl before.1 span)

pub same_span : (f : List ℕ) (i a b c d : ℕ) → span_of f i ≡ Ok (a, b) → span_of f i ≡ Ok (c, d) → (a ≡ c) × (b ≡ d)
same_span f i a b c d first second =
    let e : (a, b) ≡ (c, d) = (let e2 : ok_pair (a, b) ≡ ok_pair (c, d) = sym first ∙ second in cc) in
    (ap (λ (p : ℕ × ℕ). p.0) e, ap (λ (p : ℕ × ℕ). p.1) e)

pub span-offset : (f : List ℕ) (i start end : ℕ) → IsOk (object_at f i) → span_of f i ≡ Ok (start, end) → place_of f i ≡ start
span-offset f i start end reads span =
    let starts = span-starts f i reads in
    (same_span f i (place_of f i) starts.0 start end starts.1 span).0

pub Adjoins-follows : (f : List ℕ) (i : ℕ) → Follows f i → ((start end : ℕ) → suc i ≡ (trailer_of f).count → span_of f i ≡ Ok (start, end) → end ≡ (trailer_of f).table) → Adjoins f i
Adjoins-follows f zero follows last = record {
  first = λ start end at span. (same_span f zero start end follows.offset follows.end span follows.span).0 ∙ follows.before;
  next = λ before start middle begin end at first span. absurd (omega arith);
  last = last;
}
Adjoins-follows f (suc i) follows last = record {
  first = λ start end at span. absurd (omega arith);
  next = λ before start middle begin end at first span.
      let is : before ≡ i = omega arith in
      let first_here : span_of f i ≡ Ok (start, middle) = subst (λ (k : ℕ). span_of f k ≡ Ok (start, middle)) is first in
      let here = (same_span f (suc i) begin end follows.offset follows.end span follows.span).0 in
      let there = (same_span f i start middle follows.before.0 follows.offset first_here follows.before.1).1 in
      here ∙ sym there;
  last = last;
}

-- an object that obeys rule 0 has valid references
pub IsWellRead-refers : (f : List ℕ) (i : ℕ) (held : Content) → what_holds f i ≡ Ok held → IsWellRead f i → RefersWell f held
IsWellRead-refers f i held reads read =
    let here = read.holds.reads in
    let same : read.held ≡ held = cc in
    subst (λ (h : Content). RefersWell f h) same (record { numbers = read.numbers; texts = read.texts })

pub unread : (f : List ℕ) (i : ℕ) (fault : ObjectFault) → what_holds f i ≡ Err fault → ¬ IsWellRead f i
unread f i fault fails read =
    let here = read.holds.reads in
    let e : Err fault ≡ Ok read.held = sym fails ∙ here in
    absurd cc

pub unspanned : (f : List ℕ) (i : ℕ) (fault : ObjectFault) → span_of f i ≡ Err fault → ¬ IsWellRead f i
unspanned f i fault fails read =
    true≢false (sym (subst (λ (span : Result (ℕ × ℕ) ObjectFault). IsOk span) fails (Holds-span f i read.held read.holds)))

pub RefersWell-list : (f refs : List ℕ) → EachIndex refs (λ k. slice_index refs k < (trailer_of f).count) ↔ RefersWell f (holds_list refs)
RefersWell-list f refs = (
  λ each. record { numbers = all_from_each (λ i. i < (trailer_of f).count) refs each; texts = tt },
  λ refers. each_from_all (λ i. i < (trailer_of f).count) refs refers.numbers,
)

pub RefersWell-table : (f keys values : List ℕ) → EachIndex keys (λ k. slice_index keys k < (trailer_of f).count) → EachIndex values (λ k. slice_index values k < (trailer_of f).count) → EachIndex keys (λ k. HoldsText f (slice_index keys k)) → RefersWell f (holds_table keys values)
RefersWell-table f keys values below_keys below_values named = record {
  numbers = every_append (λ i. i < (trailer_of f).count) keys values (all_from_each (λ i. i < (trailer_of f).count) keys below_keys) (all_from_each (λ i. i < (trailer_of f).count) values below_values);
  texts = all_from_each (HoldsText f) keys named;
}

pub values_below : (f keys values : List ℕ) → RefersWell f (holds_table keys values) → EachIndex values (λ k. slice_index values k < (trailer_of f).count)
values_below f keys values refers =
    each_from_all (λ i. i < (trailer_of f).count) values (all_rest (λ i. i < (trailer_of f).count) keys values refers.numbers)

pub keys_named : (f keys values : List ℕ) → RefersWell f (holds_table keys values) → EachIndex keys (λ k. HoldsText f (slice_index keys k))
keys_named f keys values refers = each_from_all (HoldsText f) keys refers.texts

pub no_scalar : (object : Object) → ((x : ScalarRef) → object ≢ shown.Scalar x) → (s : Scalar) → held_of object ≢ holds_scalar s
no_scalar (shown.Scalar x) other s e = other x refl
no_scalar _ other s e = absurd cc

-- rule 3 is broken if the last object does not end at the offset table
pub last-apart : (f : List ℕ) (n end : ℕ) → n ≡ (trailer_of f).count → 1 ≤ n → IsEndBefore f n end → end ≢ (trailer_of f).table → (n - 1 < (trailer_of f).count) × (¬ Adjoins f (n - 1))
last-apart f zero end all some before other = absurd (omega arith)
last-apart f (suc m) end all some before other =
    let is : m ≡ suc m - 1 = omega arith in
    (omega arith, subst (λ (k : ℕ). ¬ Adjoins f k) is (λ adjoins. other (adjoins.last before.0 end all before.1)))

pub all-adjoin : (f : List ℕ) (n end : ℕ) → n ≡ (trailer_of f).count → IsEndBefore f n end → end ≡ (trailer_of f).table → ((i : ℕ) → i < n → Follows f i) → (i : ℕ) → i < (trailer_of f).count → Adjoins f i
all-adjoin f n end all before is follows i below =
    Adjoins-follows f i (follows i (omega arith)) (λ start last at span.
    let here : n ≡ suc i = omega arith in
    let ends : IsEndBefore f (suc i) end = subst (λ (k : ℕ). IsEndBefore f k end) here before in
    (same_span f i start last ends.0 end span ends.1).1 ∙ is)

-- the keys of a dictionary ascend pairwise if and only if rule 5 holds of it
pub ascend-both : (f : List ℕ) (i : ℕ) (keys values : List ℕ) (b : Bool) → Holds f i (holds_table keys values) → EachIndex keys (λ k. HoldsText f (slice_index keys k)) → IsTrue b ↔ AscendInTurn f keys → IsTrue b ↔ HasAscendingKeys f i
ascend-both f i keys values b holds named told = (
  λ yes. HasAscendingKeys-turns f i keys values holds (told.0 yes),
  λ has.
      let texts = texts_of f keys (all_from_each (HoldsText f) keys named) in
      told.1 (turns_from_sorted f keys texts.0 texts.1 (has keys values texts.0 holds.reads texts.1)),
)
