-- Pairs that are inserted one by one, in the order of the file.
use Rattle.std.proofs.Common.{◌≡◌, ℕ, ◌+◌, ◌*◌, ◌<◌, ◌≤◌, max, Bool, true, false, List, [], ◌∷◌, length, get_or, take, Ordering, Less, Equal, Greater, nat_cmp, refl, sym, ap, ◌∙◌, subst, arith}
use Rattle.std.specs.Prelude.{◌&&◌}
use Rattle.std.specs.Ordering.{eq_by_cmp, is_eq, match_ordering, ordering_reverse}
use Rattle.std.specs.Cmp.Lexicographic.{slice_cmp}
use Rattle.std.specs.List.{All, AllByRecursion, IsDistinct, zip}
use Rattle.std.specs.List.Sorted.{IsPermutation}
use Rattle.std.proofs.lemmas.Cmp.{nat_list_cmp_total, eq_by_cmp_equiv}
use Rattle.std.proofs.lemmas.List.{get_or-take, get_or_default, length-take}
use Rattle.std.proofs.lemmas.List.Elements.{All-from_recursion, recursion_from_All}
use Rattle.std.proofs.lemmas.List.Sorted.{IsPermutation-refl, IsPermutation-sym, IsPermutation-cons, IsPermutation-swap, IsPermutation-trans, All-permutation}
use Rattle.std.proofs.lemmas.Map.Keys.{IsDistinct-IsPermutation, IsDistinct-from_sorted, apart_from_distinct}
use Rattle.plist_value.specs.Plist.{text, Plist, table, Pairs, no_pairs, pair, AreUnits, IsPlist, AreItems, ArePairs, IsKeyBelow}
use Rattle.plist_value.specs.Limits.{nodes, depth, payload, nodes_of_items, depth_of_items, payload_of_items, nodes_of_pairs, depth_of_pairs, payload_of_pairs}
use Rattle.plist_value.specs.View.{items_of}
use Rattle.plist_value.specs.Writable.{is_writable, are_writable_items, are_writable_pairs}
use Rattle.plist_value.proofs.Items.{some_depth}
use Rattle.plist_value.proofs.Pairs.{put_pair}
use Rattle.plist_object.specs.Objects.{holds_scalar, holds_table}
use Rattle.plist_object.specs.Places.{Holds}
use Rattle.plist_object.specs.Spelled.{Spells, SpellItems, SpellPairs}
use Rattle.plist_object.proofs.Uniqueness.{by_key, by_key_total, key_of-held, rows_ascend, same_held, same_pairs, same_rows}
use Rattle.plist_keys.proofs.Ascents.{same_key}
use Rattle.plist_binary.specs.Readings.{PairsSpelled, texts}

-- the row points to this key and to this value, which is at most `levels` deep
pub record IsRow (f : List ℕ) (levels : ℕ) (row : ℕ × ℕ) (u : List ℕ) (v : Plist) : Type 0 where
  pub key : Holds f row.0 (holds_scalar (text u))
  pub value : Spells f row.1 v
  pub units : AreUnits u
  pub valid : IsPlist v
  pub deep : depth v ≤ levels

-- whether the keys of two rows are equal
abbrev pub same_row : List ℕ → (ℕ × ℕ) → (ℕ × ℕ) → Bool
same_row f = eq_by_cmp (by_key f)

-- the rows have other keys than this one
abbrev pub AreApart : List ℕ → (ℕ × ℕ) → List (ℕ × ℕ) → Type 0
AreApart f row rows = All (λ r. same_row f row r ≡ false) rows

pub by_key-held : (f : List ℕ) (r s : ℕ × ℕ) (u w : List ℕ) → Holds f r.0 (holds_scalar (text u)) → Holds f s.0 (holds_scalar (text w)) → by_key f r s ≡ slice_cmp nat_cmp u w
unfolding by_key
by_key-held f r s u w first second = rw (key_of-held f r u first, key_of-held f s w second) refl

-- what is below a key and below the pairs is below both together
below_put : (low key : List ℕ) (v : Plist) (ps : Pairs) → slice_cmp nat_cmp low key ≡ Less → IsKeyBelow low ps → IsKeyBelow low (put_pair key v ps)
below_put low key v no_pairs less below = less
below_put low key v (pair next w ps) less below =
    elim (slice_cmp nat_cmp key next) as (λ o. IsKeyBelow low (match_ordering o (pair key v (pair next w ps)) (pair next v ps) (pair next w (put_pair key v ps)))) [
      | Less ↦ less
      | Equal ↦ below
      | Greater ↦ below
    ]

and_swap : (a b c : Bool) → (a && (b && c)) ≡ (b && (a && c))
and_swap true b c = refl
and_swap false true c = refl
and_swap false false c = refl

-- the rows give the second pairs, which are the first ones and one more
pub record Put (f : List ℕ) (all : List (ℕ × ℕ)) (key : List ℕ) (v : Plist) (ps qs : Pairs) : Type 0 where
  pub spelled : PairsSpelled f all qs
  pub nodes_sum : nodes_of_pairs qs ≡ 1 + nodes v + nodes_of_pairs ps
  pub payload_sum : payload_of_pairs qs ≡ 2 * length key + payload v + payload_of_pairs ps
  pub deep : depth_of_pairs qs ≤ max (depth v) (depth_of_pairs ps)
  pub writable : are_writable_pairs qs ≡ (is_writable v && are_writable_pairs ps)

-- a pair whose key is below all others
put_first : {f : List ℕ} {levels : ℕ} {row : ℕ × ℕ} {rows : List (ℕ × ℕ)} {key : List ℕ} {v : Plist} {ps : Pairs} → IsRow f levels row key v → IsKeyBelow key ps → SpellPairs f rows ps → ArePairs ps → Put f (row ∷ rows) key v ps (pair key v ps)
put_first {row = row} {rows} {v = v} one below spell valid = record {
  spelled = record {
    rows = row ∷ rows;
    moved = IsPermutation-refl (row ∷ rows);
    spell = (one.key, one.value, spell);
    valid = (one.units, one.valid, below, valid);
  };
  nodes_sum = omega arith;
  payload_sum = omega arith;
  deep = omega (arith, some_depth v);
  writable = refl;
}

put_rows : (f : List ℕ) (levels : ℕ) (row : ℕ × ℕ) (rows : List (ℕ × ℕ)) (key : List ℕ) (v : Plist) (ps : Pairs) → IsRow f levels row key v → AllByRecursion (λ r. same_row f row r ≡ false) rows → SpellPairs f rows ps → ArePairs ps → Put f (row ∷ rows) key v ps (put_pair key v ps)
put_rows f levels row rows key v no_pairs one apart spell valid = put_first one tt spell valid
put_rows f levels row [] key v (pair next w ps) one apart spell valid = absurd spell
put_rows f levels row (r ∷ rows) key v (pair next w ps) one apart spell valid =
    elim (slice_cmp nat_cmp key next) as (λ o. slice_cmp nat_cmp key next ≡ o → Put f (row ∷ r ∷ rows) key v (pair next w ps) (match_ordering o (pair key v (pair next w ps)) (pair next v ps) (pair next w (put_pair key v ps)))) [
      | Less ↦ λ is. put_first one is spell valid
      | Equal ↦ λ is.
          let same = by_key-held f row r key next one.key spell.0 ∙ is in
          absurd (let told : is_eq Equal ≡ false = subst (λ (o : Ordering). is_eq o ≡ false) same apart.0 in cc)
      | Greater ↦ λ is.
          let rest = put_rows f levels row rows key v ps one apart.1 spell.2 valid.3 in
          let below = nat_list_cmp_total.antisymm next key ∙ ap ordering_reverse is in
          record {
            spelled = record {
              rows = r ∷ rest.spelled.rows;
              moved = IsPermutation-trans (row ∷ r ∷ rows) (r ∷ row ∷ rows) (r ∷ rest.spelled.rows) (IsPermutation-swap (row ∷ r ∷ rows) (r ∷ row ∷ rows) 0 1 (omega arith) (omega arith) refl) (IsPermutation-cons r (row ∷ rows) rest.spelled.rows rest.spelled.moved);
              spell = (spell.0, spell.1, rest.spelled.spell);
              valid = (valid.0, valid.1, below_put next key v ps below valid.2, rest.spelled.valid);
            };
            nodes_sum = omega (arith, rest.nodes_sum);
            payload_sum = omega (arith, rest.payload_sum);
            deep = omega (arith, rest.deep);
            writable = rw rest.writable (and_swap (is_writable w) (is_writable v) (are_writable_pairs ps));
          }
    ] refl

-- the pairs of a dictionary that refers to these keys and values
pub PairsSpelled-held : (f keys values : List ℕ) (i : ℕ) (ps : Pairs) → Holds f i (holds_table keys values) → ArePairs ps → Spells f i (table ps) → PairsSpelled f (zip keys values) ps
PairsSpelled-held f keys values i ps holds valid spells =
    let held = same_held f i (holds_table keys values) (holds_table spells.0 spells.1.0) holds spells.1.1.1.0 in
    let same : zip spells.0 spells.1.0 ≡ zip keys values = cc in
    record {
      rows = spells.1.1.0;
      moved = subst (λ (rows : List (ℕ × ℕ)). IsPermutation rows spells.1.1.0) same spells.1.1.1.1.0;
      spell = spells.1.1.1.1.1;
      valid = valid;
    }

-- one more row
pub PairsSpelled-put : (f : List ℕ) (levels : ℕ) (row : ℕ × ℕ) (all : List (ℕ × ℕ)) (key : List ℕ) (v : Plist) (ps : Pairs) → IsRow f levels row key v → AreApart f row all → PairsSpelled f all ps → Put f (row ∷ all) key v ps (put_pair key v ps)
PairsSpelled-put f levels row all key v ps one apart spelled =
    let rows = spelled.rows in
    let put = put_rows f levels row rows key v ps one (recursion_from_All (λ r. same_row f row r ≡ false) rows (All-permutation (λ r. same_row f row r ≡ false) all rows spelled.moved apart)) spelled.spell spelled.valid in
    record {
      spelled = record {
        rows = put.spelled.rows;
        moved = IsPermutation-trans (row ∷ all) (row ∷ rows) put.spelled.rows (IsPermutation-cons row all rows spelled.moved) put.spelled.moved;
        spell = put.spelled.spell;
        valid = put.spelled.valid;
      };
      nodes_sum = put.nodes_sum;
      payload_sum = put.payload_sum;
      deep = put.deep;
      writable = put.writable;
    }

-- no two rows of a dictionary have equal keys
pub rows_distinct : (f : List ℕ) (all : List (ℕ × ℕ)) (ps : Pairs) → PairsSpelled f all ps → IsDistinct (same_row f) all
rows_distinct f all ps spelled =
    IsDistinct-IsPermutation (same_row f) (eq_by_cmp_equiv (by_key_total f)).symm spelled.rows all (IsPermutation-sym all spelled.rows spelled.moved) (IsDistinct-from_sorted (by_key f) spelled.rows (rows_ascend f spelled.rows ps spelled.spell spelled.valid))

pub rows_apart : (f : List ℕ) (all : List (ℕ × ℕ)) (k : ℕ) (d : ℕ × ℕ) → k < length all → IsDistinct (same_row f) all → AreApart f (get_or all k d) (take k all)
rows_apart f all k d within distinct i e below =
    let before : i < k = omega (arith, length-take k all) in
    let differ = apart_from_distinct (same_row f) all i k e distinct before within in
    rw (get_or-take k all i e before, get_or_default all k d e within) ((eq_by_cmp_equiv (by_key_total f)).symm (get_or all k e) (get_or all i e) ∙ differ)

-- rows give the pairs of one dictionary
pub same_spelled : (f : List ℕ) (all : List (ℕ × ℕ)) (ps qs : Pairs) → PairsSpelled f all ps → PairsSpelled f all qs → ps ≡ qs
same_spelled f all ps qs first second =
    let rows = same_rows f all first.rows second.rows ps qs first.moved second.moved first.spell second.spell first.valid second.valid in
    same_pairs f first.rows ps qs first.valid second.valid first.spell (subst (λ (l : List (ℕ × ℕ)). SpellPairs f l qs) (sym rows) second.spell)

-- rows of other keys than the first
keys_apart : (f : List ℕ) (row : ℕ × ℕ) (u : List ℕ) (keys values : List ℕ) (us : List (List ℕ)) → Holds f row.0 (holds_scalar (text u)) → SpellItems f keys (texts us) → AllByRecursion (λ w. same_key u w ≡ false) us → AllByRecursion (λ r. same_row f row r ≡ false) (zip keys values)
keys_apart f row u (k ∷ keys) (i ∷ values) (w ∷ us) holds spell apart = (
  subst (λ (o : Ordering). is_eq o ≡ false) (sym (by_key-held f row (k, i) u w holds spell.0)) apart.0,
  keys_apart f row u keys values us holds spell.1 apart.1,
)
keys_apart f row u (k ∷ keys) (i ∷ values) [] holds spell apart = absurd (let none : k ∷ keys ≡ [] = spell in cc)
keys_apart f row u _ _ us holds spell apart = tt

-- the pairs of distinct keys and as many values
pub record Gathered (f : List ℕ) (all : List (ℕ × ℕ)) (us : List (List ℕ)) (vs : List Plist) : Type 0 where
  pub pairs : Pairs
  pub spelled : PairsSpelled f all pairs
  pub nodes_sum : nodes_of_pairs pairs ≡ nodes_of_items (texts us) + nodes_of_items (items_of vs)
  pub payload_sum : payload_of_pairs pairs ≡ payload_of_items (texts us) + payload_of_items (items_of vs)
  pub deep : depth_of_pairs pairs ≤ depth_of_items (items_of vs)
  pub writable : are_writable_pairs pairs ≡ are_writable_items (items_of vs)

pub gather : (f keys values : List ℕ) (us : List (List ℕ)) (vs : List Plist) → length keys ≡ length values → length keys ≡ length us → length values ≡ length vs → SpellItems f keys (texts us) → SpellItems f values (items_of vs) → AreItems (texts us) → AreItems (items_of vs) → IsDistinct same_key us → Gathered f (zip keys values) us vs
unfolding IsDistinct
gather f [] [] [] [] long many all spell_keys spell_values valid_keys valid_values distinct = record {
  pairs = no_pairs;
  spelled = record { rows = []; moved = IsPermutation-refl []; spell = refl; valid = tt };
  nodes_sum = refl;
  payload_sum = refl;
  deep = omega arith;
  writable = refl;
}
gather f (k ∷ keys) (i ∷ values) (u ∷ us) (v ∷ vs) long many all spell_keys spell_values valid_keys valid_values distinct =
    let rest = gather f keys values us vs (omega arith) (omega arith) (omega arith) spell_keys.1 spell_values.1 valid_keys.1 valid_values.1 distinct.1 in
    let one : IsRow f (depth v) (k, i) u v = record {
      key = spell_keys.0;
      value = spell_values.0;
      units = valid_keys.0;
      valid = valid_values.0;
      deep = omega arith;
    } in
    let apart = All-from_recursion (λ r. same_row f (k, i) r ≡ false) (zip keys values) (keys_apart f (k, i) u keys values us spell_keys.0 spell_keys.1 distinct.0) in
    let put = PairsSpelled-put f (depth v) (k, i) (zip keys values) u v rest.pairs one apart rest.spelled in
    record {
      pairs = put_pair u v rest.pairs;
      spelled = put.spelled;
      nodes_sum = omega (arith, put.nodes_sum, rest.nodes_sum);
      payload_sum = omega (arith, put.payload_sum, rest.payload_sum);
      deep = omega (arith, put.deep, rest.deep);
      writable = rw (put.writable, rest.writable) refl;
    }
gather f _ _ _ _ long many all _ _ _ _ _ = absurd (omega arith)
