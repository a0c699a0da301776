-- A dictionary, from its keys and its values separately.
use Rattle.std.proofs.Common.{◌≡◌, ℕ, zero, suc, ◌+◌, ◌<◌, ◌≤◌, List, [], ◌∷◌, length, get_or, slice_index, true, false, refl, sym, ap, ◌∙◌, subst, ⊎_elim, inl, inr, arith, Ordering}
use Rattle.std.specs.Prelude.{◌⊎◌}
use Rattle.std.specs.Ordering.{is_eq, nat_cmp}
use Rattle.std.specs.Cmp.{Equal-is}
use Rattle.std.specs.Cmp.Lexicographic.{slice_cmp}
use Rattle.std.specs.List.{AllByRecursion, IsDistinct, zip}
use Rattle.std.proofs.lemmas.List.Elements.{All-from_recursion, recursion_from_All}
use Rattle.std.proofs.lemmas.List.Sorted.{IsPermutation-sym, All-permutation}
use Rattle.std.proofs.lemmas.Map.Lookups.{exact_bytes}
use Rattle.plist_value.specs.Plist.{text, Plist, Pairs, no_pairs, pair, AreItems, ArePairs}
use Rattle.plist_value.specs.Limits.{nodes_of_items, depth_of_items, payload_of_items, nodes_of_pairs, depth_of_pairs, payload_of_pairs}
use Rattle.plist_value.specs.View.{items_of}
use Rattle.plist_value.specs.declared.budget.Budget.{Budget}
use Rattle.plist_value.proofs.Items.{some_depth}
use Rattle.plist_object.specs.Objects.{holds_scalar}
use Rattle.plist_object.specs.Places.{Holds}
use Rattle.plist_object.specs.Spelled.{SpellItems, SpellPairs}
use Rattle.plist_object.proofs.Uniqueness.{same_items}
use Rattle.plist_keys.proofs.Ascents.{same_key}
use Rattle.plist_binary.specs.declared.fault.BinaryFault.{BinaryFault}
use Rattle.plist_binary.specs.Readings.{ReadsItems, RefusesItems, texts, RefusesKeys, PairsSpelled, RefusesPairs}
use Rattle.plist_binary.proofs.Inserting.{IsRow, by_key-held, gather, rows_distinct, same_row, same_spelled}
use Rattle.plist_binary.proofs.ItemSteps.{Spends-none, Affords-rest}

pub length-texts : (f keys : List ℕ) (us : List (List ℕ)) → SpellItems f keys (texts us) → length keys ≡ length us
length-texts f [] [] spell = refl
length-texts f (k ∷ keys) [] spell = absurd (let none : k ∷ keys ≡ [] = spell in cc)
length-texts f [] (u ∷ us) spell = absurd spell
length-texts f (k ∷ keys) (u ∷ us) spell = omega (arith, length-texts f keys us spell.1)

pub length-items : (f refs : List ℕ) (vs : List Plist) → SpellItems f refs (items_of vs) → length refs ≡ length vs
length-items f [] [] spell = refl
length-items f (k ∷ refs) [] spell = absurd (let none : k ∷ refs ≡ [] = spell in cc)
length-items f [] (v ∷ vs) spell = absurd spell
length-items f (k ∷ refs) (v ∷ vs) spell = omega (arith, length-items f refs vs spell.1)

-- the row points to a key and to a value
pub record GivesPair (f : List ℕ) (levels : ℕ) (row : ℕ × ℕ) : Type 0 where
  pub units : List ℕ
  pub value : Plist
  pub is : IsRow f levels row units value

rows_give : (f : List ℕ) (levels : ℕ) (rows : List (ℕ × ℕ)) (ps : Pairs) → SpellPairs f rows ps → ArePairs ps → depth_of_pairs ps ≤ levels → AllByRecursion (GivesPair f levels) rows
rows_give f levels [] ps spell valid deep = tt
rows_give f levels (row ∷ rows) no_pairs spell valid deep =
    absurd (let none : row ∷ rows ≡ [] = spell in cc)
rows_give f levels (row ∷ rows) (pair key v ps) spell valid deep = (
  record {
    units = key;
    value = v;
    is = record { key = spell.0; value = spell.1; units = valid.0; valid = valid.1; deep = omega arith };
  },
  rows_give f levels rows ps spell.2 valid.3 (omega arith),
)

-- the keys and the values of pairs, in the order of the file
pub record Parts (f keys values : List ℕ) (levels : ℕ) : Type 0 where
  pub us : List (List ℕ)
  pub vs : List Plist
  pub spell_keys : SpellItems f keys (texts us)
  pub spell_values : SpellItems f values (items_of vs)
  pub valid_keys : AreItems (texts us)
  pub valid_values : AreItems (items_of vs)
  pub deep_keys : depth_of_items (texts us) ≤ levels
  pub deep_values : depth_of_items (items_of vs) ≤ levels
  pub distinct : IsDistinct same_key us

keys_differ : (f : List ℕ) (row : ℕ × ℕ) (u : List ℕ) (keys values : List ℕ) (us : List (List ℕ)) → length keys ≡ length values → Holds f row.0 (holds_scalar (text u)) → SpellItems f keys (texts us) → AllByRecursion (λ r. same_row f row r ≡ false) (zip keys values) → AllByRecursion (λ w. same_key u w ≡ false) us
keys_differ f row u keys values [] long holds spell apart = tt
keys_differ f row u [] values (w ∷ us) long holds spell apart = absurd spell
keys_differ f row u (k ∷ keys) [] (w ∷ us) long holds spell apart = absurd (omega arith)
keys_differ f row u (k ∷ keys) (i ∷ values) (w ∷ us) long holds spell apart = (
  subst (λ (o : Ordering). is_eq o ≡ false) (by_key-held f row (k, i) u w holds spell.0) apart.0,
  keys_differ f row u keys values us (omega arith) holds spell.1 apart.1,
)

parts : (f keys values : List ℕ) (levels : ℕ) → length keys ≡ length values → AllByRecursion (GivesPair f levels) (zip keys values) → IsDistinct (same_row f) (zip keys values) → Parts f keys values levels
unfolding IsDistinct
parts f [] [] levels long give distinct = record {
  us = [];
  vs = [];
  spell_keys = refl;
  spell_values = refl;
  valid_keys = tt;
  valid_values = tt;
  deep_keys = omega arith;
  deep_values = omega arith;
  distinct = tt;
}
parts f (k ∷ keys) (i ∷ values) levels long give distinct =
    let rest = parts f keys values levels (omega arith) give.1 distinct.1 in
    let first = give.0 in
    let is = first.is in
    record {
      us = first.units ∷ rest.us;
      vs = first.value ∷ rest.vs;
      spell_keys = (is.key, rest.spell_keys);
      spell_values = (is.value, rest.spell_values);
      valid_keys = (is.units, rest.valid_keys);
      valid_values = (is.valid, rest.valid_values);
      deep_keys = omega (arith, rest.deep_keys, is.deep, some_depth first.value);
      deep_values = omega (arith, rest.deep_values, is.deep);
      distinct = (keys_differ f (k, i) first.units keys values rest.us (omega arith) is.key rest.spell_keys distinct.0, rest.distinct);
    }
parts f _ _ levels long give distinct = absurd (omega arith)

pub unsort : (f keys values : List ℕ) (levels : ℕ) (ps : Pairs) → length keys ≡ length values → PairsSpelled f (zip keys values) ps → depth_of_pairs ps ≤ levels → Parts f keys values levels
unsort f keys values levels ps long spelled deep =
    let all = zip keys values in
    let give = All-from_recursion (GivesPair f levels) spelled.rows (rows_give f levels spelled.rows ps spelled.spell spelled.valid deep) in
    let give_all = All-permutation (GivesPair f levels) spelled.rows all (IsPermutation-sym all spelled.rows spelled.moved) give in
    parts f keys values levels long (recursion_from_All (GivesPair f levels) all give_all) (rows_distinct f all ps spelled)

-- the size of pairs, by their keys and values
pub sums : {f keys values : List ℕ} {levels : ℕ} (ps : Pairs) → length keys ≡ length values → PairsSpelled f (zip keys values) ps → (apart : Parts f keys values levels) → (nodes_of_pairs ps ≡ nodes_of_items (texts apart.us) + nodes_of_items (items_of apart.vs)) × (payload_of_pairs ps ≡ payload_of_items (texts apart.us) + payload_of_items (items_of apart.vs))
sums {f} {keys} {values} ps long spelled apart =
    let both = gather f keys values apart.us apart.vs long (length-texts f keys apart.us apart.spell_keys) (length-items f values apart.vs apart.spell_values) apart.spell_keys apart.spell_values apart.valid_keys apart.valid_values apart.distinct in
    let same = same_spelled f (zip keys values) ps both.pairs spelled both.spelled in
    (ap nodes_of_pairs same ∙ both.nodes_sum, ap payload_of_pairs same ∙ both.payload_sum)

pub RefusesPairs-keys : (f keys values : List ℕ) (levels : ℕ) (left : Budget) (fault : BinaryFault) → length keys ≡ length values → RefusesKeys f keys levels left fault → RefusesPairs f keys values levels left fault
RefusesPairs-keys f keys values levels left fault long refused = record {
  stands = refused.stands;
  none = λ unless ps spelled deep affords.
      let apart = unsort f keys values levels ps long spelled deep in
      let sum = sums ps long spelled apart in
      refused.none unless apart.us apart.valid_keys apart.spell_keys apart.distinct apart.deep_keys (Affords-rest (Spends-none left) affords (omega (arith, sum.0)) (omega (arith, sum.1)));
}

-- the values are refused, after keys that were read
pub RefusesPairs-values : (f keys values : List ℕ) (levels : ℕ) (before left : Budget) (us : List (List ℕ)) (fault : BinaryFault) → length keys ≡ length values → ReadsItems f keys levels before (texts us) left → RefusesItems f values levels left fault → RefusesPairs f keys values levels before fault
RefusesPairs-values f keys values levels before left us fault long read refused =
    record {
      stands = refused.stands;
      none = λ unless ps spelled deep affords.
          let apart = unsort f keys values levels ps long spelled deep in
          let sum = sums ps long spelled apart in
          let same = same_items f keys (texts apart.us) (texts us) apart.valid_keys read.valid apart.spell_keys read.spell in
          let nodes_same = ap nodes_of_items same in
          let payload_same = ap payload_of_items same in
          refused.none unless (items_of apart.vs) apart.valid_values apart.spell_values apart.deep_values (Affords-rest read.spent affords (omega (arith, sum.0, nodes_same)) (omega (arith, sum.1, payload_same)));
    }

-- two of the keys are equal
pub record Twice (us : List (List ℕ)) : Type 0 where
  pub first : ℕ
  pub second : ℕ
  pub apart : first < second
  pub within : second < length us
  pub same : get_or us first [] ≡ get_or us second []

occurs : (u : List ℕ) (us : List (List ℕ)) → AllByRecursion (λ w. same_key u w ≡ false) us ⊎ ((k : ℕ) × ((k < length us) × (get_or us k [] ≡ u)))
occurs u [] = inl tt
occurs u (w ∷ us) =
    elim (same_key u w) as (λ b. same_key u w ≡ b → AllByRecursion (λ w. same_key u w ≡ false) (w ∷ us) ⊎ ((k : ℕ) × ((k < length (w ∷ us)) × (get_or (w ∷ us) k [] ≡ u)))) [
      | true ↦ λ is. inr (zero, (omega arith, sym (exact_bytes u w ((Equal-is (slice_cmp nat_cmp u w)).0 is))))
      | false ↦ λ is.
          ⊎_elim
          (λ (none : AllByRecursion (λ w. same_key u w ≡ false) us). inl (is, none))
          (λ (found : (k : ℕ) × ((k < length us) × (get_or us k [] ≡ u))). inr (suc found.0, (omega (arith, found.1.0), found.1.1)))
          (occurs u us)
    ] refl

twice_or_distinct : (us : List (List ℕ)) → IsDistinct same_key us ⊎ Twice us
unfolding IsDistinct
twice_or_distinct [] = inl tt
twice_or_distinct (u ∷ us) =
    ⊎_elim
    (λ (none : AllByRecursion (λ w. same_key u w ≡ false) us).
    ⊎_elim
    (λ (distinct : IsDistinct same_key us). inl (none, distinct))
    (λ (found : Twice us). inr record {
      first = suc found.first;
      second = suc found.second;
      apart = omega (arith, found.apart);
      within = omega (arith, found.within);
      same = found.same;
    })
    (twice_or_distinct us))
    (λ (found : (k : ℕ) × ((k < length us) × (get_or us k [] ≡ u))). inr record {
      first = zero;
      second = suc found.0;
      apart = omega arith;
      within = omega (arith, found.1.0);
      same = sym found.1.1;
    })
    (occurs u us)

pub twice : (us : List (List ℕ)) → (IsDistinct same_key us → ⊥) → Twice us
twice us not_distinct =
    ⊎_elim (λ (distinct : IsDistinct same_key us). absurd (not_distinct distinct)) (λ (found : Twice us). found) (twice_or_distinct us)

pub key_held : (f keys : List ℕ) (us : List (List ℕ)) (k : ℕ) → k < length us → SpellItems f keys (texts us) → Holds f (slice_index keys k) (holds_scalar (text (get_or us k [])))
key_held f keys [] k within spell = absurd (omega arith)
key_held f [] (u ∷ us) k within spell = absurd spell
key_held f (i ∷ keys) (u ∷ us) zero within spell = spell.0
key_held f (i ∷ keys) (u ∷ us) (suc k) within spell = key_held f keys us k (omega arith) spell.1
