-- The sort positions of strings.
use Rattle.std.proofs.Common.{◌≡◌, ℕ, zero, suc, ◌+◌, ◌-◌, add-one, ◌<◌, List, [], ◌∷◌, ◌++◌, length, get_or, sym, ap, subst, ◌∙◌, arith, inl, inr, refl, Some, None}
use Rattle.std.specs.Prelude.{slice_set, map, All, replicate, take, ◌==◌, Bool, true, false}
use Rattle.std.specs.declared.cmp.Ordering.{Ordering}
use Rattle.std.specs.declared.cmp.Ordering.TheVariants.{Less, Equal, Greater}
use Rattle.std.specs.Ordering.{nat_cmp, ordering_then, ordering_reverse, is_lt}
use Rattle.std.specs.Cmp.Lexicographic.{slice_cmp}
use Rattle.std.specs.List.Sorted.{IsSorted, IsStrictlySortedBy}
use Rattle.std.proofs.lemmas.Bool.{cases_lt, cases_eq, true≢false}
use Rattle.std.proofs.lemmas.Cmp.{nat_list_cmp_total, tied_itself}
use Rattle.std.proofs.lemmas.List.{get_or-map, map-append, get_or_append_left, get_or_push, length_push, get_or-set_same, get_or-set_other, get_or-replicate, get_or_past, get_or_default, length-replicate}
use Rattle.std.proofs.lemmas.Map.Keys.{Less-from_sorted, sorted_from_all_adjacent}
use Rattle.std.proofs.lemmas.Option.{slice_get_within, get_or_from_slice_get}
use Rattle.std.proofs.lemmas.Map.Lookups.{exact_bytes}
use Rattle.plist_value.specs.Texts.{units_of}
use Rattle.plist_value.specs.declared.text_ref.TextRef.{TextRef}
use Rattle.plist_object.specs.Layout.{trailer_of}
use Rattle.plist_keys.specs.declared.ranks.Ranks.{Ranks}
use Rattle.plist_keys.specs.declared.keys.Key.{Key}
use Rattle.plist_keys.specs.Ranks.{HoldsUnits, HoldsKey, AreRanks, in_order, rank_in, rank_of, text_of_rank, texts_of}

pub irreflexive : (units : List ℕ) → slice_cmp nat_cmp units units ≡ Less → ⊥
irreflexive units below = absurd (let tied = tied_itself nat_list_cmp_total units in let e : Less ≡ Equal = sym below ∙ tied in cc)

-- of ascending strings the one with the lower position is lower
pub below_from_ranks : (texts : List (List ℕ)) (first second : ℕ) → IsStrictlySortedBy (slice_cmp nat_cmp) texts → second < length texts → first < second → slice_cmp nat_cmp (get_or texts first []) (get_or texts second []) ≡ Less
below_from_ranks texts first second ascending within below =
    Less-from_sorted (slice_cmp nat_cmp) texts first second [] ascending below within

pub ranks_from_below : (texts : List (List ℕ)) (first second : ℕ) → IsStrictlySortedBy (slice_cmp nat_cmp) texts → first < length texts → slice_cmp nat_cmp (get_or texts first []) (get_or texts second []) ≡ Less → first < second
ranks_from_below texts first second ascending within less =
    let one = get_or texts first [] in
    let other = get_or texts second [] in
    elim (cases_lt first second) [
      | inl below ↦ below
      | inr above ↦ elim (cases_lt second first) [
        | inl before ↦ (
            let more : slice_cmp nat_cmp other one ≡ Less = Less-from_sorted (slice_cmp nat_cmp) texts second first [] ascending before within in
            absurd (irreflexive one (nat_list_cmp_total.trans one other one less more)))
        | inr after ↦ (
            let is : second ≡ first = omega arith in
            let level : slice_cmp nat_cmp one one ≡ Less = subst (λ (n : ℕ). slice_cmp nat_cmp one (get_or texts n []) ≡ Less) is less in
            absurd (irreflexive one level))
      ]
    ]

-- an object with a sort position contains the string at that position
pub ranked_holds : (f : List ℕ) (ranks : Ranks) (i rank : ℕ) (t : TextRef) → AreRanks f ranks → rank_of ranks i ≡ Some rank → text_of_rank ranks rank ≡ Some t → HoldsUnits f i (units_of t)
ranked_holds f ranks i rank t sound is found =
    let items = ranks.texts.items in
    let within : rank < length items = slice_get_within items rank t found in
    let at : get_or (texts_of ranks) rank [] ≡ units_of t = get_or-map units_of items rank t [] within ∙ ap units_of (get_or_from_slice_get items rank t t found) in
    subst (λ (units : List ℕ). HoldsUnits f i units) at (sound.held i rank is)

-- the sort positions of the strings so far, of which the last has the greatest
pub record RankedTo (f numbers : List ℕ) (texts : List (List ℕ)) (rank : ℕ) (last : List ℕ) : Type 0 where
  pub ascending : IsStrictlySortedBy (slice_cmp nat_cmp) texts
  pub long : length texts ≡ rank + 1
  pub ends : get_or texts rank [] ≡ last
  pub within : (i r : ℕ) → rank_in (get_or numbers i 0) ≡ Some r → r < length texts
  pub held : (i r : ℕ) → rank_in (get_or numbers i 0) ≡ Some r → HoldsUnits f i (get_or texts r [])

pub sorted_push : (texts : List (List ℕ)) (next : List ℕ) (rank : ℕ) → IsStrictlySortedBy (slice_cmp nat_cmp) texts → length texts ≡ rank + 1 → slice_cmp nat_cmp (get_or texts rank []) next ≡ Less → IsStrictlySortedBy (slice_cmp nat_cmp) (texts ++ next ∷ [])
sorted_push texts next rank sorted long below =
    let all = texts ++ next ∷ [] in
    sorted_from_all_adjacent nat_list_cmp_total all [] (λ k less.
    let longer : length all ≡ length texts + 1 = length_push texts next in
    let here : get_or all k [] ≡ get_or texts k [] = get_or_append_left texts (next ∷ []) [] k (omega arith) in
    elim (cases_lt k rank) [
      | inl earlier ↦ (
          let there : get_or all (k + 1) [] ≡ get_or texts (k + 1) [] = get_or_append_left texts (next ∷ []) [] (k + 1) (omega arith) in
          rw (here, there) (Less-from_sorted (slice_cmp nat_cmp) texts k (k + 1) [] sorted (omega arith) (omega arith)))
      | inr late ↦ (
          let is : rank ≡ k = omega arith in
          let there : get_or all (k + 1) [] ≡ next = get_or_push texts next [] (k + 1) (omega arith) in
          rw (here, there) (subst (λ (n : ℕ). slice_cmp nat_cmp (get_or texts n []) next ≡ Less) is below))
    ])

-- setting one number leaves the others unchanged
numbered : (P : ℕ → ℕ → Type 0) (numbers : List ℕ) (object rank number i r : ℕ) → number ≡ suc rank → object < length numbers → (rank_in (get_or numbers i 0) ≡ Some r → P i r) → P object rank → rank_in (get_or (slice_set numbers object number) i 0) ≡ Some r → P i r
numbered P numbers object rank number i r more within old new is =
    let set = slice_set numbers object number in
    elim (cases_eq i object) [
      | inl same ↦ (
          let at : get_or set object 0 ≡ suc rank = get_or-set_same numbers object number 0 within ∙ more in
          let found : Some rank ≡ Some r = sym (ap rank_in at) ∙ subst (λ (n : ℕ). rank_in (get_or set n 0) ≡ Some r) same is in
          let equal : rank ≡ r = cc in
          subst (λ (n : ℕ). P n r) (sym same) (subst (λ (n : ℕ). P object n) equal new))
      | inr other ↦ old (sym (ap rank_in (get_or-set_other numbers object i number 0 other)) ∙ is)
    ]

pub ranked_same : (f numbers : List ℕ) (texts : List (List ℕ)) (rank number object : ℕ) (last : List ℕ) → number ≡ suc rank → RankedTo f numbers texts rank last → object < length numbers → HoldsUnits f object last → RankedTo f (slice_set numbers object number) texts rank last
ranked_same f numbers texts rank number object last more ranked within holds = record {
  ascending = ranked.ascending;
  long = ranked.long;
  ends = ranked.ends;
  within = λ i r. numbered (λ _ n. n < length texts) numbers object rank number i r more within (ranked.within i r) (omega (arith, ranked.long));
  held = λ i r. numbered (λ j n. HoldsUnits f j (get_or texts n [])) numbers object rank number i r more within (ranked.held i r) (rw ranked.ends holds);
}

pub ranked_next : (f numbers : List ℕ) (before : List (List ℕ)) (rank number object : ℕ) (last next : List ℕ) → number ≡ suc (rank + 1) → RankedTo f numbers before rank last → object < length numbers → slice_cmp nat_cmp last next ≡ Less → HoldsUnits f object next → RankedTo f (slice_set numbers object number) (before ++ next ∷ []) (rank + 1) next
ranked_next f numbers before rank number object last next more ranked within below holds =
    let texts = before ++ next ∷ [] in
    let longer : length texts ≡ length before + 1 = length_push before next in
    let ends : get_or texts (rank + 1) [] ≡ next = get_or_push before next [] (rank + 1) ranked.long in
    record {
      ascending = sorted_push before next rank ranked.ascending ranked.long (rw ranked.ends below);
      long = omega (arith, longer, ranked.long);
      ends = ends;
      within = λ i r. numbered (λ _ n. n < length texts) numbers object (rank + 1) number i r more within (λ is. omega (arith, longer, ranked.within i r is)) (omega (arith, longer, ranked.long));
      held = λ i r. numbered (λ j n. HoldsUnits f j (get_or texts n [])) numbers object (rank + 1) number i r more within
          (λ is. rw (get_or_append_left before (next ∷ []) [] r (ranked.within i r is)) (ranked.held i r is))
          (rw ends holds);
    }

not_above : (o p : Ordering) → o ≡ ordering_reverse p → is_lt p ≡ false → (o ≡ Less → ⊥) → o ≡ Equal
not_above o Less is order apart = absurd cc
not_above o Equal is order apart = is
not_above o Greater is order apart = absurd (apart is)

first_order : (o p : Ordering) → is_lt (ordering_then o p) ≡ false → is_lt o ≡ false
first_order Less p order = order
first_order _ p order = refl

-- sorted strings are equal if the first is not below the second
pub equal_texts : (last next : List ℕ) (rest : Ordering) → is_lt (ordering_then (slice_cmp nat_cmp next last) rest) ≡ false → (slice_cmp nat_cmp last next ≡ Less → ⊥) → last ≡ next
equal_texts last next rest order apart =
    exact_bytes last next (not_above (slice_cmp nat_cmp last next) (slice_cmp nat_cmp next last) (nat_list_cmp_total.antisymm last next) (first_order (slice_cmp nat_cmp next last) rest order) apart)

pub less_from_lt : (o : Ordering) → is_lt o ≡ true → o ≡ Less
less_from_lt Less is = refl
less_from_lt _ is = absurd (true≢false (sym is))

pub not_below : (keys : List Key) (i : ℕ) (before : TextRef) (d : Key) → IsSorted in_order keys → i < length keys → ((e : Key) → before ≡ (get_or keys (i - 1) e).text) → (slice_cmp nat_cmp (units_of before) (units_of (get_or keys i d).text) ≡ Less → ⊥) → units_of before ≡ units_of (get_or keys i d).text
not_below keys zero before d sorted within at apart = ap units_of (at d)
not_below keys (suc i) before d sorted within at apart =
    let one_less : suc i - 1 ≡ i = omega arith in
    let last = get_or keys i d in
    let next = get_or keys (suc i) d in
    let is : before ≡ last.text = subst (λ (n : ℕ). before ≡ (get_or keys n d).text) one_less (at d) in
    let order : is_lt (in_order (get_or keys (i + 1) d) last) ≡ false = sorted i d (omega arith) (omega arith) in
    let here : is_lt (in_order next last) ≡ false = subst (λ (n : ℕ). is_lt (in_order (get_or keys n d) last) ≡ false) (add-one i) order in
    let other : slice_cmp nat_cmp (units_of last.text) (units_of next.text) ≡ Less → ⊥ = subst (λ (t : TextRef). slice_cmp nat_cmp (units_of t) (units_of next.text) ≡ Less → ⊥) is apart in
    ap units_of is ∙ equal_texts (units_of last.text) (units_of next.text) (nat_cmp next.object last.object) here other

pub object_within : (f numbers : List ℕ) (long : ℕ) (keys : List Key) (i : ℕ) (key : Key) → key ≡ get_or keys i key → long ≡ length numbers → length numbers ≡ (trailer_of f).count → All (HoldsKey f) keys → i < length keys → key.object < long
object_within f numbers long keys i key same all counted held within =
    let holds = subst (HoldsKey f) (sym same) (held i key within) in
    let listed = holds.0.listed in
    omega (arith, counted, all)

pub ranked_above : (f numbers : List ℕ) (texts after : List TextRef) (keys : List Key) (i rank now number : ℕ) (before : TextRef) (key : Key) (above : Bool) → key ≡ get_or keys i key → length numbers ≡ (trailer_of f).count → All (HoldsKey f) keys → i < length keys → RankedTo f numbers (map units_of texts) rank (units_of before) → above ≡ is_lt (slice_cmp nat_cmp (units_of before) (units_of key.text)) → above ≡ true → now ≡ rank + 1 → number ≡ suc now → after ≡ texts ++ key.text ∷ [] → RankedTo f (slice_set numbers key.object number) (map units_of after) now (units_of key.text)
ranked_above f numbers texts after keys i rank now number before key above same counted held within ranked test answer is more pushed =
    let holds = subst (HoldsKey f) (sym same) (held i key within) in
    let listed = holds.0.listed in
    let below = less_from_lt (slice_cmp nat_cmp (units_of before) (units_of key.text)) (sym test ∙ answer) in
    let all : map units_of after ≡ map units_of texts ++ units_of key.text ∷ [] = ap (λ (ts : List TextRef). map units_of ts) pushed ∙ map-append units_of texts (key.text ∷ []) in
    let next = ranked_next f numbers (map units_of texts) rank number key.object (units_of before) (units_of key.text) (more ∙ ap suc is) ranked (omega arith) below holds in
    let there = subst (λ (n : ℕ). RankedTo f (slice_set numbers key.object number) (map units_of texts ++ units_of key.text ∷ []) n (units_of key.text)) (sym is) next in
    subst (λ (l : List (List ℕ)). RankedTo f (slice_set numbers key.object number) l now (units_of key.text)) (sym all) there

pub ranked_level : (f numbers : List ℕ) (texts after : List TextRef) (keys : List Key) (i rank now number : ℕ) (before : TextRef) (key : Key) (above : Bool) → key ≡ get_or keys i key → length numbers ≡ (trailer_of f).count → All (HoldsKey f) keys → IsSorted in_order keys → ((e : Key) → before ≡ (get_or keys (i - 1) e).text) → i < length keys → RankedTo f numbers (map units_of texts) rank (units_of before) → above ≡ is_lt (slice_cmp nat_cmp (units_of before) (units_of key.text)) → above ≡ false → now ≡ rank → number ≡ suc now → after ≡ texts → RankedTo f (slice_set numbers key.object number) (map units_of after) now (units_of key.text)
ranked_level f numbers texts after keys i rank now number before key above same counted held sorted at within ranked test answer is more kept =
    let holds = subst (HoldsKey f) (sym same) (held i key within) in
    let listed = holds.0.listed in
    let first = subst (λ (k : Key). (slice_cmp nat_cmp (units_of before) (units_of k.text) ≡ Less → ⊥) → units_of before ≡ units_of k.text) (sym same) (not_below keys i before key sorted within at) in
    let level = first (λ less. true≢false (sym (ap is_lt less) ∙ sym test ∙ answer)) in
    let here : RankedTo f numbers (map units_of texts) rank (units_of key.text) = subst (λ (units : List ℕ). RankedTo f numbers (map units_of texts) rank units) level ranked in
    let there = subst (λ (n : ℕ). RankedTo f (slice_set numbers key.object number) (map units_of texts) n (units_of key.text)) (sym is) (ranked_same f numbers (map units_of texts) rank number key.object (units_of key.text) (more ∙ ap suc is) here (omega arith) holds) in
    subst (λ (ts : List TextRef). RankedTo f (slice_set numbers key.object number) (map units_of ts) now (units_of key.text)) (sym kept) there

pub at_last : (keys : List Key) (i : ℕ) (key e : Key) → key ≡ get_or keys i key → i < length keys → key.text ≡ (get_or keys (i + 1 - 1) e).text
at_last keys i key e same within =
    let is : i ≡ i + 1 - 1 = omega arith in
    ap (λ (k : Key). k.text) (same ∙ get_or_default keys i key e within) ∙ ap (λ (n : ℕ). (get_or keys n e).text) is

abbrev pub no_rank : ℕ
no_rank = 0

none_made : (n i : ℕ) → get_or (replicate n no_rank) i no_rank ≡ no_rank
none_made n i =
    elim (cases_lt i n) [
      | inl within ↦ get_or-replicate n i no_rank no_rank within
      | inr past ↦ get_or_past (replicate n no_rank) i no_rank (omega (arith, length-replicate n no_rank))
    ]

take_none : (n : ℕ) (old : List ℕ) → old ≡ [] → take n old ≡ []
take_none zero [] empty = refl
take_none (suc n) [] empty = refl
take_none n (o ∷ old) empty = absurd cc

pub all_none : (numbers old : List ℕ) (n k : ℕ) → numbers ≡ take n old ++ replicate k no_rank → old ≡ [] → (i : ℕ) → get_or numbers i no_rank ≡ no_rank
all_none numbers old n k is empty i =
    let made : numbers ≡ [] ++ replicate k no_rank = is ∙ ap (λ (front : List ℕ). front ++ replicate k no_rank) (take_none n old empty) in
    ap (λ (all : List ℕ). get_or all i no_rank) made ∙ none_made k i

pub some_key : (n : ℕ) → false ≡ (n == 0) → 0 < n
some_key zero test = absurd (true≢false (sym test))
some_key (suc n) test = omega arith

ranked_one : (f numbers units : List ℕ) → ((i : ℕ) → get_or numbers i 0 ≡ 0) → RankedTo f numbers (units ∷ []) 0 units
unfolding IsStrictlySortedBy
ranked_one f numbers units none = record {
  ascending = (tt, tt);
  long = refl;
  ends = refl;
  within = λ i r is. absurd (let e : None ≡ Some r = sym (ap rank_in (none i)) ∙ is in cc);
  held = λ i r is. absurd (let e : None ≡ Some r = sym (ap rank_in (none i)) ∙ is in cc);
}

pub ranked_first : (f numbers : List ℕ) (before texts : List TextRef) (first : TextRef) → texts ≡ before ++ first ∷ [] → before ≡ [] → ((i : ℕ) → get_or numbers i 0 ≡ 0) → RankedTo f numbers (map units_of texts) 0 (units_of first)
ranked_first f numbers before texts first pushed empty none =
    let is : texts ≡ first ∷ [] = pushed ∙ ap (λ (ts : List TextRef). ts ++ first ∷ []) empty in
    subst (λ (ts : List TextRef). RankedTo f numbers (map units_of ts) 0 (units_of first)) (sym is) (ranked_one f numbers (units_of first) none)

pub no_ranks : (f : List ℕ) (ranks : Ranks) → ranks.of_objects.items ≡ [] → ranks.texts.items ≡ [] → AreRanks f ranks
unfolding IsStrictlySortedBy
no_ranks f ranks none no_texts = record {
  ascending = subst (λ (ts : List TextRef). IsStrictlySortedBy (slice_cmp nat_cmp) (map units_of ts)) (sym no_texts) tt;
  within = λ i r is. absurd (let e : None ≡ Some r = ap (λ (numbers : List ℕ). rank_in (get_or numbers i 0)) (sym none) ∙ is in cc);
  held = λ i r is. absurd (let e : None ≡ Some r = ap (λ (numbers : List ℕ). rank_in (get_or numbers i 0)) (sym none) ∙ is in cc);
}
