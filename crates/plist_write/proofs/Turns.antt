-- Items and pairs are written one after another.
use Rattle.std.proofs.Common.{◌≡◌, ℕ, zero, suc, ◌+◌, ◌/◌, ◌<◌, ◌≤◌, List, [], ◌∷◌, ◌++◌, length, map, get_or, take, drop, Result, Ok, Err, refl, sym, ap, subst, ◌∙◌, arith, length-append}
use Rattle.std.specs.List.{concat}
use Rattle.std.proofs.lemmas.List.{append-nil, get_or_append_left, get_or-append-add, length-map, take_more, take_all, take-append-drop}
use Rattle.std.proofs.lemmas.List.Folds.{concat-append}
use Rattle.plist_value.specs.Plist.{text, Plist, Items, no_items, item, Pairs, no_pairs, pair, IsPlist, AreItems, ArePairs}
use Rattle.plist_object.specs.Objects.{holds_scalar}
use Rattle.plist_object.specs.Places.{Holds, HoldsText}
use Rattle.plist_object.specs.Spelled.{Spells, SpellItems, SpellPairs, SpellsWithin}
use Rattle.plist_write.specs.declared.faults.WriteFault.{WriteFault}
use Rattle.plist_write.specs.BufferedSink.{SinkState, Emits}
use Rattle.plist_write.specs.Spelling.{PairsWithin, SpellWithin, TableWithin, sorted_references}
use Rattle.plist_write.proofs.Flat.{flat, spell-flat, valid-flat, deep-flat}
use Rattle.plist_write.proofs.Going.{Emits_rest, Emits_same, Emits_stop}
use Rattle.plist_write.proofs.Within.{value_within}

-- the texts of items, and those of pairs, if `one` gives the text of each
abbrev pub item_texts : (Plist → List ℕ) → Items → List (List ℕ)
item_texts one no_items = []
item_texts one (item v vs) = one v ∷ item_texts one vs

abbrev pub pair_texts : (List ℕ → Plist → List ℕ) → Pairs → List (List ℕ)
pair_texts one no_pairs = []
pair_texts one (pair key v ps) = one key v ∷ pair_texts one ps

-- after the first k texts, one more was written, or could not be written
module _ {T U : Type 0} (texts : List (List ℕ)) (k : ℕ) (p q r : SinkState) (value : T) (some : k < length texts) (before : Emits (concat (take k texts)) p q (Ok value)) where
  one_more : (result : Result U WriteFault) → Emits (get_or texts k []) q r result → Emits (concat (take (k + 1) texts)) p r result
  one_more result emits =
      let one = get_or texts k [] in
      let split = ap concat (take_more texts k [] some) ∙ concat-append (take k texts) (one ∷ []) ∙ ap (λ t. concat (take k texts) ++ t) (append-nil one) in
      Emits_rest (concat (take k texts)) one (concat (take (k + 1) texts)) p q r value result (sym split) before emits

  no_more : {V : Type 0} (fault : WriteFault) → Emits {T = U} (get_or texts k []) q r (Err fault) → Emits {T = V} (concat texts) p r (Err fault)
  no_more fault emits =
      let first = take (k + 1) texts in
      let rest = drop (k + 1) texts in
      Emits_same (concat first ++ concat rest) (concat texts) p r (Err fault) (sym (concat-append first rest) ∙ ap concat (take-append-drop (k + 1) texts)) (Emits_stop (concat first) (concat rest) p r fault (one_more (Err fault) emits))

-- the item at position k
record ItemAt (f : List ℕ) (one : Plist → List ℕ) (object k : ℕ) (vs : Items) : Type 0 where
  pub value : Plist
  pub valid : IsPlist value
  pub spells : Spells f object value
  pub is : one value ≡ get_or (item_texts one vs) k []

item_at : (f : List ℕ) (one : Plist → List ℕ) (refs : List ℕ) (k : ℕ) (vs : Items) → k < length refs → AreItems vs → SpellItems f refs vs → ItemAt f one (get_or refs k 0) k vs
item_at f one [] k vs h valid spell = absurd (omega arith)
item_at f one (i ∷ refs) k no_items h valid spell = absurd (let none : i ∷ refs ≡ [] = spell in cc)
item_at f one (i ∷ refs) zero (item v vs) h valid spell = record { value = v; valid = valid.0; spells = spell.0; is = refl }
item_at f one (i ∷ refs) (suc k) (item v vs) h valid spell =
    let next = item_at f one refs k vs (omega arith) valid.1 spell.1 in
    record { value = next.value; valid = next.valid; spells = next.spells; is = next.is }

length-items : (f : List ℕ) (one : Plist → List ℕ) (refs : List ℕ) (vs : Items) → SpellItems f refs vs → length (item_texts one vs) ≡ length refs
length-items f one [] no_items h = refl
length-items f one (i ∷ refs) no_items h = absurd (let none : i ∷ refs ≡ [] = h in cc)
length-items f one [] (item v vs) h = absurd h
length-items f one (i ∷ refs) (item v vs) h = ap suc (length-items f one refs vs h.1)

-- the items that these references point to
module _ (f : List ℕ) (one : Plist → List ℕ) (refs : List ℕ) (k : ℕ) (vs : Items) (valid : AreItems vs) (spell : SpellItems f refs vs) where
  module _ {T : Type 0} (object : ℕ) (p q r : SinkState) (here : object ≡ get_or refs k 0) (within : k < length refs) (before : Emits {T = Unit {0}} (concat (take k (item_texts one vs))) p q (Ok tt)) where
    item_goes : (result : Result T WriteFault) → ((v : Plist) → IsPlist v → Spells f object v → Emits (one v) q r result) → Emits (get_or (item_texts one vs) k []) q r result
    item_goes result emits =
        let at = item_at f one refs k vs within valid spell in
        Emits_same (one at.value) (get_or (item_texts one vs) k []) q r result at.is (emits at.value at.valid (subst (λ (i : ℕ). Spells f i at.value) (sym here) at.spells))

    pub items_more : (result : Result T WriteFault) → ((v : Plist) → IsPlist v → Spells f object v → Emits (one v) q r result) → Emits (concat (take (k + 1) (item_texts one vs))) p r result
    items_more result emits =
        one_more (item_texts one vs) k p q r tt (omega (arith, within, length-items f one refs vs spell)) before result (item_goes result emits)

    pub items_stop : {V : Type 0} (fault : WriteFault) → ((v : Plist) → IsPlist v → Spells f object v → Emits {T = T} (one v) q r (Err fault)) → Emits {T = V} (concat (item_texts one vs)) p r (Err fault)
    items_stop fault emits =
        no_more (item_texts one vs) k p q r tt (omega (arith, within, length-items f one refs vs spell)) before fault (item_goes (Err fault) emits)

  pub items_done : {T : Type 0} (p q : SinkState) (result : Result T WriteFault) → length refs ≤ k → Emits (concat (take k (item_texts one vs))) p q result → Emits (concat (item_texts one vs)) p q result
  items_done p q result past emits =
      Emits_same (concat (take k (item_texts one vs))) (concat (item_texts one vs)) p q result (ap concat (take_all k (item_texts one vs) (omega (arith, past, length-items f one refs vs spell)))) emits

-- the pair at position k
record PairAt (f : List ℕ) (one : List ℕ → Plist → List ℕ) (name object k : ℕ) (ps : Pairs) : Type 0 where
  pub key : List ℕ
  pub value : Plist
  pub named : Holds f name (holds_scalar (text key))
  pub valid : IsPlist value
  pub spells : Spells f object value
  pub is : one key value ≡ get_or (pair_texts one ps) k []

abbrev keys_in : List (ℕ × ℕ) → List ℕ
keys_in rows = map (λ row. row.0) rows

abbrev values_in : List (ℕ × ℕ) → List ℕ
values_in rows = map (λ row. row.1) rows

pair_at : (f : List ℕ) (one : List ℕ → Plist → List ℕ) (rows : List (ℕ × ℕ)) (k : ℕ) (ps : Pairs) → k < length rows → ArePairs ps → SpellPairs f rows ps → PairAt f one (get_or (keys_in rows) k 0) (get_or (values_in rows) k 0) k ps
pair_at f one [] k ps h valid spell = absurd (omega arith)
pair_at f one (row ∷ rows) k no_pairs h valid spell = absurd (let none : row ∷ rows ≡ [] = spell in cc)
pair_at f one (row ∷ rows) zero (pair key v ps) h valid spell =
    record { key = key; value = v; named = spell.0; valid = valid.1; spells = spell.1; is = refl }
pair_at f one (row ∷ rows) (suc k) (pair key v ps) h valid spell =
    let next = pair_at f one rows k ps (omega arith) valid.3 spell.2 in
    record { key = next.key; value = next.value; named = next.named; valid = next.valid; spells = next.spells; is = next.is }

length-pairs : (f : List ℕ) (one : List ℕ → Plist → List ℕ) (rows : List (ℕ × ℕ)) (ps : Pairs) → SpellPairs f rows ps → length (pair_texts one ps) ≡ length rows
length-pairs f one [] no_pairs h = refl
length-pairs f one (row ∷ rows) no_pairs h = absurd (let none : row ∷ rows ≡ [] = h in cc)
length-pairs f one [] (pair key v ps) h = absurd h
length-pairs f one (row ∷ rows) (pair key v ps) h = ap suc (length-pairs f one rows ps h.2)

-- the pairs that these references point to: references to keys, followed by those to their values
module _ (f : List ℕ) (one : List ℕ → Plist → List ℕ) (refs : List ℕ) (k : ℕ) (rows : List (ℕ × ℕ)) (ps : Pairs) (turn : refs ≡ sorted_references rows) (valid : ArePairs ps) (spell : SpellPairs f rows ps) where
  count : length refs / 2 ≡ length rows
  count =
      let keys : length (keys_in rows) ≡ length rows = length-map rows (λ row. row.0) in
      let values : length (values_in rows) ≡ length rows = length-map rows (λ row. row.1) in
      omega (arith, ap length turn ∙ length-append (keys_in rows) (values_in rows))

  turn_key : k < length rows → get_or refs k 0 ≡ get_or (keys_in rows) k 0
  turn_key h =
      let keys : length (keys_in rows) ≡ length rows = length-map rows (λ row. row.0) in
      ap (λ l. get_or l k 0) turn ∙ get_or_append_left (keys_in rows) (values_in rows) 0 k (omega arith)

  turn_value : get_or refs (length refs / 2 + k) 0 ≡ get_or (values_in rows) k 0
  turn_value =
      let keys : length (keys_in rows) ≡ length rows = length-map rows (λ row. row.0) in
      let far : length refs / 2 + k ≡ length (keys_in rows) + k = omega (arith, count) in
      ap (λ l. get_or l (length refs / 2 + k) 0) turn ∙ ap (λ i. get_or (keys_in rows ++ values_in rows) i 0) far ∙ get_or-append-add (keys_in rows) (values_in rows) k 0

  module _ (name object : ℕ) (key_here : name ≡ get_or refs k 0) (here : object ≡ get_or refs (length refs / 2 + k) 0) (within : k < length refs / 2) where
    turned : PairAt f one name object k ps
    turned =
        let below : k < length rows = omega (arith, within, count) in
        subst (λ (n : ℕ). PairAt f one n object k ps) (sym (key_here ∙ turn_key below)) (subst (λ (n : ℕ). PairAt f one (get_or (keys_in rows) k 0) n k ps) (sym (here ∙ turn_value)) (pair_at f one rows k ps below valid spell))

    pub pair_named : HoldsText f name
    pair_named = let at = turned in (at.key, at.named)

    module _ {T : Type 0} (p q r : SinkState) (before : Emits {T = Unit {0}} (concat (take k (pair_texts one ps))) p q (Ok tt)) where
      pair_goes : (result : Result T WriteFault) → ((key : List ℕ) (v : Plist) → Holds f name (holds_scalar (text key)) → IsPlist v → Spells f object v → Emits (one key v) q r result) → Emits (get_or (pair_texts one ps) k []) q r result
      pair_goes result emits =
          let at = turned in
          Emits_same (one at.key at.value) (get_or (pair_texts one ps) k []) q r result at.is (emits at.key at.value at.named at.valid at.spells)

      pub pairs_more : (result : Result T WriteFault) → ((key : List ℕ) (v : Plist) → Holds f name (holds_scalar (text key)) → IsPlist v → Spells f object v → Emits (one key v) q r result) → Emits (concat (take (k + 1) (pair_texts one ps))) p r result
      pairs_more result emits =
          one_more (pair_texts one ps) k p q r tt (omega (arith, within, count, length-pairs f one rows ps spell)) before result (pair_goes result emits)

      pub pairs_stop : {V : Type 0} (fault : WriteFault) → ((key : List ℕ) (v : Plist) → Holds f name (holds_scalar (text key)) → IsPlist v → Spells f object v → Emits {T = T} (one key v) q r (Err fault)) → Emits {T = V} (concat (pair_texts one ps)) p r (Err fault)
      pairs_stop fault emits =
          no_more (pair_texts one ps) k p q r tt (omega (arith, within, count, length-pairs f one rows ps spell)) before fault (pair_goes (Err fault) emits)

  pub pairs_done : {T : Type 0} (p q : SinkState) (result : Result T WriteFault) → length refs / 2 ≤ k → Emits (concat (take k (pair_texts one ps))) p q result → Emits (concat (pair_texts one ps)) p q result
  pairs_done p q result past emits =
      Emits_same (concat (take k (pair_texts one ps))) (concat (pair_texts one ps)) p q result (ap concat (take_all k (pair_texts one ps) (omega (arith, past, count, length-pairs f one rows ps spell)))) emits

-- each reference points to a key, or to a value
pub turn_within : (f refs : List ℕ) (levels k : ℕ) → PairsWithin f refs levels → k < length refs → SpellsWithin f (get_or refs k 0) levels
turn_within f refs levels k within h =
    let all : SpellWithin f (sorted_references within.rows) levels = record {
      items = flat within.pairs;
      valid = valid-flat within.pairs within.valid;
      spell = spell-flat f within.rows within.pairs within.spell;
      deep = deep-flat within.pairs levels within.deep;
    } in
    value_within f refs levels k (subst (λ (rs : List ℕ). SpellWithin f rs levels) (sym within.turn) all) h

pub pairs_within : (f keys values refs : List ℕ) (levels : ℕ) (within : TableWithin f keys values levels) → refs ≡ sorted_references within.rows → PairsWithin f refs levels
pairs_within f keys values refs levels within turn =
    record { rows = within.rows; pairs = within.pairs; turn = turn; spell = within.spell.spell; valid = within.spell.valid; deep = within.deep }
