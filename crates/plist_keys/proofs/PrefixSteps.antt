-- The lower of two strings never has the larger sort prefix.
use Rattle.std.proofs.Common.{◌≡◌, ℕ, zero, suc, ◌+◌, ◌*◌, ◌^◌, ◌<◌, ◌≤◌, List, [], ◌∷◌, ◌++◌, sym, ap, ◌∙◌, subst, arith, inl, inr, refl, lt-ltb, le-ltb, ◌-◌, length, get_or, set, map, take, drop}
use Rattle.std.proofs.Math.Nat.{pow-zero, pow-suc, mul-le-mul_right, mul-le-mul_left, one-le-pow}
use Rattle.std.specs.declared.cmp.Ordering.{Ordering}
use Rattle.std.specs.declared.cmp.Ordering.TheVariants.{Less, Greater, Equal}
use Rattle.std.specs.Ordering.{nat_cmp, ordering_then, ordering_reverse}
use Rattle.std.specs.Cmp.Lexicographic.{slice_cmp}
use Rattle.std.proofs.lemmas.Bool.{cases_lt}
use Rattle.std.proofs.lemmas.Cmp.{ranked, by_ranked, nat_cmp_total, tied_itself, nat_list_cmp_total}
use Rattle.std.proofs.lemmas.List.{take-append-drop}
use Rattle.std.proofs.lemmas.Map.Lookups.{exact_bytes}
use Rattle.plist_value.specs.declared.text_ref.TextRef.{TextRef}
use Rattle.plist_keys.specs.declared.order.Row.{Row}
use Rattle.plist_keys.specs.KeyOrder.{row_units}
use Rattle.plist_keys.specs.declared.prefixes.Width.{Width}
use Rattle.plist_keys.specs.declared.prefixes.Width.TheVariants.{Bits8, Bits16}
use Rattle.plist_keys.specs.Prefixes.{behind, digit_of, digits_of, in_run, prefix_of}

digits_none : (most k : ℕ) → digits_of most k [] ≡ 0
digits_none most zero = refl
digits_none most (suc k) = let e = digits_none most k in omega (arith, e)

digits_small : (most k unit : ℕ) (units : List ℕ) → unit ≤ most → digits_of most (suc k) (unit ∷ units) ≡ unit * (most + 1) ^ k + digits_of most k units
digits_small most k unit units h = rw (le-ltb most unit h) refl

digits_cut : (most k unit : ℕ) (units : List ℕ) → most < unit → digits_of most (suc k) (unit ∷ units) ≡ most * (most + 1) ^ k + digits_of most k (unit ∷ units)
digits_cut most k unit units h = rw (lt-ltb most unit h) refl

-- one more digit
pow_more : (most k : ℕ) → (most + 1) ^ suc k ≡ most * (most + 1) ^ k + (most + 1) ^ k
pow_more most k = pow-suc (most + 1) k ∙ times ((most + 1) ^ k) where
  times : (p : ℕ) → p * (most + 1) ≡ most * p + p
  times p = grind arith

pub digits_below : (most k : ℕ) (units : List ℕ) → digits_of most k units < (most + 1) ^ k
digits_below most zero units = rw (pow-zero (most + 1)) (omega arith)
digits_below most (suc k) [] =
    let e = digits_below most k [] in
    let none = digits_none most (suc k) in
    let some = digits_none most k in
    let p = pow_more most k in
    omega (arith, e, none, some, p)
digits_below most (suc k) (unit ∷ units) =
    let p = pow_more most k in
    elim (cases_lt most unit) [
      | inl wide ↦ (
          let below = digits_below most k (unit ∷ units) in
          let cut = digits_cut most k unit units wide in
          omega (arith, below, cut, p))
      | inr small ↦ (
          let below = digits_below most k units in
          let is = digits_small most k unit units small in
          let m : unit * (most + 1) ^ k ≤ most * (most + 1) ^ k = mul-le-mul_right ((most + 1) ^ k) small in
          omega (arith, below, is, m, p))
    ]

-- the number of a string that begins with a unit that is cut is the largest
digits_highest : (most k unit : ℕ) (units : List ℕ) → most < unit → digits_of most k (unit ∷ units) + 1 ≡ (most + 1) ^ k
digits_highest most zero unit units wide = rw (pow-zero (most + 1)) refl
digits_highest most (suc k) unit units wide =
    let e = digits_highest most k unit units wide in
    let p = pow_more most k in
    let first = digits_cut most k unit units wide in
    omega (arith, e, p, first)

-- strings that differ in the first unit
first_below : (most k a b : ℕ) (us vs : List ℕ) → a < b → digits_of most (suc k) (a ∷ us) ≤ digits_of most (suc k) (b ∷ vs)
first_below most k a b us vs below =
    elim (cases_lt most b) [
      | inl wide ↦ (
          let under = digits_below most (suc k) (a ∷ us) in
          let highest = digits_highest most (suc k) b vs wide in
          omega (arith, under, highest))
      | inr small ↦ (
          let under = digits_below most k us in
          let first = digits_small most k a us (omega arith) in
          let second = digits_small most k b vs small in
          let m : (a + 1) * (most + 1) ^ k ≤ b * (most + 1) ^ k = mul-le-mul_right ((most + 1) ^ k) (omega arith) in
          omega (arith, under, first, m, second))
    ]

-- strings with the same first unit
rest_below : (most k a : ℕ) (us vs : List ℕ) → digits_of most k us ≤ digits_of most k vs → digits_of most (suc k) (a ∷ us) ≤ digits_of most (suc k) (a ∷ vs)
rest_below most k a us vs below =
    elim (cases_lt most a) [
      | inl wide ↦ (
          let first = digits_highest most (suc k) a us wide in
          let second = digits_highest most (suc k) a vs wide in
          omega (arith, first, second))
      | inr small ↦ (
          let first = digits_small most k a us small in
          let second = digits_small most k a vs small in
          omega (arith, below, first, second))
    ]

-- the lower of two strings never has the larger number
monotone : (most k : ℕ) (us vs : List ℕ) → slice_cmp nat_cmp us vs ≡ Less → digits_of most k us ≤ digits_of most k vs
monotone most zero us vs less = omega arith
monotone most (suc k) [] vs less = let e = digits_none most (suc k) in omega (arith, e)
monotone most (suc k) (a ∷ us) [] less = absurd cc
monotone most (suc k) (a ∷ us) (b ∷ vs) less =
    by_ranked (a < b) (a ≡ b) (b < a) (nat_cmp a b) (ranked a b (nat_cmp a b) refl)
    (λ _ below. first_below most k a b us vs below)
    (λ tied same.
    let rest : slice_cmp nat_cmp us vs ≡ Less = sym (ap (λ o. ordering_then o (slice_cmp nat_cmp us vs)) tied) ∙ less in
    subst (λ (n : ℕ). digits_of most (suc k) (a ∷ us) ≤ digits_of most (suc k) (n ∷ vs)) same (rest_below most k a us vs (monotone most k us vs rest)))
    (λ above _. absurd (let wrong : Greater ≡ Less = sym (ap (λ o. ordering_then o (slice_cmp nat_cmp us vs)) above) ∙ less in cc))

pub prefix_below : (width : Width) (units : List ℕ) → prefix_of width units < 2 ^ 64
prefix_below Bits8 units = let below = digits_below 255 8 units in omega (arith, below)
prefix_below Bits16 units = let below = digits_below 65535 4 units in omega (arith, below)

prefix_monotone : (width : Width) (us vs : List ℕ) → slice_cmp nat_cmp us vs ≡ Less → prefix_of width us ≤ prefix_of width vs
prefix_monotone Bits8 us vs less = monotone 255 8 us vs less
prefix_monotone Bits16 us vs less = monotone 65535 4 us vs less

-- strings with a common prefix compare like the units after it
pub compared_behind : (front us vs : List ℕ) → slice_cmp nat_cmp (front ++ us) (front ++ vs) ≡ slice_cmp nat_cmp us vs
compared_behind [] us vs = refl
compared_behind (unit ∷ front) us vs =
    ap (λ o. ordering_then o (slice_cmp nat_cmp (front ++ us) (front ++ vs))) (tied_itself nat_cmp_total unit) ∙ compared_behind front us vs

-- How sort prefixes are read, and that keys sorted by them are sorted by their strings.

-- if the keys up to i were changed and now the next is, the keys up to i + 1 were changed
pub changed_more : (f : Row → Row) (i : ℕ) (before now : List Row) (next d : Row) → i < length before → now ≡ map f (take i before) ++ drop i before → next ≡ f (get_or now i d) → set now i next ≡ map f (take (i + 1) before) ++ drop (i + 1) before
changed_more f i [] now next d within is next_is = absurd (omega arith)
changed_more f zero (key ∷ before) now next d within is next_is =
    let at : next ≡ f key = next_is ∙ ap (λ (ks : List Row). f (get_or ks 0 d)) is in
    ap (λ (ks : List Row). set ks 0 next) is ∙ ap (λ (k : Row). k ∷ before) at
changed_more f (suc i) (key ∷ before) now next d within is next_is =
    let rest = map f (take i before) ++ drop i before in
    let at : next ≡ f (get_or rest i d) = next_is ∙ ap (λ (ks : List Row). f (get_or ks (suc i) d)) is in
    let more : set rest i next ≡ map f (take (i + 1) before) ++ drop (i + 1) before = changed_more f i before rest next d (omega arith) refl at in
    let one : suc i + 1 ≡ suc (i + 1) = omega arith in
    ap (λ (ks : List Row). set ks (suc i) next) is ∙ ap (λ (ks : List Row). f key ∷ ks) more ∙ ap (λ (n : ℕ). map f (take n (key ∷ before)) ++ drop n (key ∷ before)) (sym one)

-- the row with its new number
pub in_run_is : (texts : List TextRef) (start front : ℕ) (width : Width) (row : Row) (prefix : ℕ) → prefix ≡ prefix_of width (drop front (row_units texts row)) → record { prefix = prefix; run = start; index = row.index } ≡ in_run texts start front width row
in_run_is texts start front width row prefix is =
    ap (λ (n : ℕ). record { prefix = n; run = start; index = row.index }) is

step_of : (m a b c p h i whole : ℕ) → b ≡ c → i ≡ h → a * (p * m) + (c * p + h) ≡ whole → (m * a + b) * p + i ≡ whole
step_of m a b c p h i whole same other sum =
    let e : (m * a + b) * p ≡ a * (p * m) + b * p = grind arith in
    let f : b * p ≡ c * p = ap (λ n. n * p) same in
    omega (arith, e, f, other, sum)

-- one more digit of a sort prefix
pub digits_step : (most left next digits digit head : ℕ) (units rest : List ℕ) → left ≡ suc next → digit ≡ digit_of most units → rest ≡ behind most units → digits * (most + 1) ^ left + digits_of most left units ≡ head → ((most + 1) * digits + digit) * (most + 1) ^ next + digits_of most next rest ≡ head
digits_step most left next digits digit head units rest one is behind_is whole =
    let p : (most + 1) ^ suc next ≡ (most + 1) ^ next * (most + 1) = pow-suc (most + 1) next in
    let all : digits * (most + 1) ^ suc next + digits_of most (suc next) units ≡ head = subst (λ (n : ℕ). digits * (most + 1) ^ n + digits_of most n units ≡ head) one whole in
    let first : digits * ((most + 1) ^ next * (most + 1)) + (digit_of most units * (most + 1) ^ next + digits_of most next (behind most units)) ≡ head = ap (λ (n : ℕ). digits * n + digits_of most (suc next) units) (sym p) ∙ all in
    step_of (most + 1) digits digit (digit_of most units) ((most + 1) ^ next) (digits_of most next (behind most units)) (digits_of most next rest) head is (ap (digits_of most next) behind_is) first

-- the byte at an index, and the units after it
pub octet_here : (octets : List ℕ) (index : ℕ) (d : ℕ) → index < length octets → get_or octets index d ≤ 255 → (get_or octets index d ≡ digit_of 255 (drop index octets)) × (drop (index + 1) octets ≡ behind 255 (drop index octets))
octet_here [] index d within small = absurd (omega arith)
octet_here (octet ∷ octets) zero d within small = (rw (le-ltb 255 octet small) refl, rw (le-ltb 255 octet small) refl)
octet_here (octet ∷ octets) (suc index) d within small =
    let rest = octet_here octets index d (omega arith) small in
    let one : suc index + 1 ≡ suc (index + 1) = omega arith in
    (rest.0, ap (λ (n : ℕ). drop n (octet ∷ octets)) one ∙ rest.1)

-- with one more digit the sort prefix still fits
pub digits_fit : (most left next digits digit head : ℕ) (units : List ℕ) → left ≡ suc next → digit ≡ digit_of most units → digits * (most + 1) ^ left + digits_of most left units ≡ head → (most + 1) * digits + digit ≤ head
digits_fit most left next digits digit head units one is whole =
    let one_at_least = one-le-pow next (most + 1) (omega arith) in
    let step = digits_step most left next digits digit head units (behind most units) one is refl whole in
    let m : ((most + 1) * digits + digit) * 1 ≤ ((most + 1) * digits + digit) * (most + 1) ^ next = mul-le-mul_left ((most + 1) * digits + digit) one_at_least in
    omega (arith, step, m)

-- one more byte of a sort prefix that is read from bytes
pub octets_step : (front i head octet : ℕ) (octets : List ℕ) → i < 8 → front + 8 ≤ length octets → get_or octets (front + i) 0 ≤ 255 → octet ≡ get_or octets (front + i) 0 → head * 256 ^ (8 - i) + digits_of 255 (8 - i) (drop (front + i) octets) ≡ digits_of 255 8 (drop front octets) → (256 * head + octet) * 256 ^ (8 - (i + 1)) + digits_of 255 (8 - (i + 1)) (drop (front + (i + 1)) octets) ≡ digits_of 255 8 (drop front octets)
octets_step front i head octet octets more within small is whole =
    let here = octet_here octets (front + i) 0 (omega arith) small in
    let next : front + (i + 1) ≡ front + i + 1 = omega arith in
    digits_step 255 (8 - i) (8 - (i + 1)) head octet (digits_of 255 8 (drop front octets)) (drop (front + i) octets) (drop (front + (i + 1)) octets) (omega arith) (is ∙ here.0) (ap (λ (n : ℕ). drop n octets) next ∙ here.1) whole

pub octets_fit : (front i head octet : ℕ) (octets : List ℕ) → i < 8 → front + 8 ≤ length octets → get_or octets (front + i) 0 ≤ 255 → octet ≡ get_or octets (front + i) 0 → head * 256 ^ (8 - i) + digits_of 255 (8 - i) (drop (front + i) octets) ≡ digits_of 255 8 (drop front octets) → 256 * head + octet < 256 ^ 8
octets_fit front i head octet octets more within small is whole =
    let here = octet_here octets (front + i) 0 (omega arith) small in
    let most = digits_fit 255 (8 - i) (8 - (i + 1)) head octet (digits_of 255 8 (drop front octets)) (drop (front + i) octets) (omega arith) (is ∙ here.0) whole in
    let below = digits_below 255 8 (drop front octets) in
    omega (arith, most, below)

-- strings with a common prefix compare like the units after it
compared : (front : ℕ) (first us vs : List ℕ) → take front us ≡ take front first → take front vs ≡ take front first → slice_cmp nat_cmp us vs ≡ slice_cmp nat_cmp (drop front us) (drop front vs)
compared front first us vs shared_us shared_vs =
    let whole_us : us ≡ take front first ++ drop front us = sym (take-append-drop front us) ∙ ap (λ (ws : List ℕ). ws ++ drop front us) shared_us in
    let whole_vs : vs ≡ take front first ++ drop front vs = sym (take-append-drop front vs) ∙ ap (λ (ws : List ℕ). ws ++ drop front vs) shared_vs in
    ap (λ (ws : List ℕ). slice_cmp nat_cmp ws vs) whole_us ∙ ap (λ (ws : List ℕ). slice_cmp nat_cmp (take front first ++ drop front us) ws) whole_vs ∙ compared_behind (take front first) (drop front us) (drop front vs)

-- the lower of two strings with a common prefix never has the larger sort prefix
no_higher_head : (width : Width) (front : ℕ) (first us vs : List ℕ) → take front us ≡ take front first → take front vs ≡ take front first → slice_cmp nat_cmp us vs ≡ Less → prefix_of width (drop front us) ≤ prefix_of width (drop front vs)
no_higher_head width front first us vs shared_us shared_vs less =
    prefix_monotone width (drop front us) (drop front vs) (sym (compared front first us vs shared_us shared_vs) ∙ less)

-- the string with the smaller sort prefix is the lower
pub lower_by_head : (width : Width) (front : ℕ) (first us vs : List ℕ) (o : Ordering) → take front us ≡ take front first → take front vs ≡ take front first → slice_cmp nat_cmp us vs ≡ o → prefix_of width (drop front us) < prefix_of width (drop front vs) → o ≡ Less
lower_by_head width front first us vs Less shared_us shared_vs order below = refl
lower_by_head width front first us vs Equal shared_us shared_vs order below =
    absurd (let same = exact_bytes us vs order in let heads : prefix_of width (drop front us) ≡ prefix_of width (drop front vs) = ap (λ (ws : List ℕ). prefix_of width (drop front ws)) same in omega (arith, below, heads))
lower_by_head width front first us vs Greater shared_us shared_vs order below =
    absurd (let less : slice_cmp nat_cmp vs us ≡ Less = nat_list_cmp_total.antisymm vs us ∙ ap ordering_reverse order in let most = no_higher_head width front first vs us shared_vs shared_us less in omega (arith, below, most))
