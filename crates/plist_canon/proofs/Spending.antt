-- What the walk takes from the limits.
use Rattle.std.proofs.Common.{◌≡◌, ℕ, ◌+◌, ◌-◌, ◌≤◌, min, max, List, [], ◌∷◌, ◌++◌, length, refl, sym, ap, subst, ◌∙◌, arith, Some, None}
use Rattle.std.specs.Prelude.{Option}
use Rattle.plist_value.specs.Plist.{AreOctets, Scalar, Plist, scalar, list, table, Items, no_items, item, Pairs, IsPlist, AreItems, ArePairs}
use Rattle.plist_value.specs.Limits.{Fits, nodes, depth, payload, payload_of_scalar, nodes_of_items, depth_of_items, payload_of_items, nodes_of_pairs, depth_of_pairs, payload_of_pairs}
use Rattle.plist_value.specs.declared.TheConstants.{MAX_NODES, MAX_DEPTH, MAX_PAYLOAD}
use Rattle.plist_canon.specs.declared.weights.TheConstants.{MOST_KEPT}
use Rattle.plist_object.specs.Objects.{IsContent, Content, holds_scalar, holds_list, holds_table}
use Rattle.plist_object.specs.Places.{Holds, HoldsScalar}
use Rattle.plist_object.specs.Spelled.{Spells, SpellItems}
use Rattle.plist_object.proofs.HeldRanges.{Holds-held}
use Rattle.plist_value.specs.declared.budget.Budget.{Budget}
use Rattle.plist_value.specs.Budget.{Spends, IsOver}
use Rattle.plist_canon.specs.Rules.{HasAscendingKeys}
use Rattle.plist_canon.specs.declared.weights.Weight.{Weight}
use Rattle.plist_canon.specs.Weights.{weight_of, payload_of_weight, Weighs}
use Rattle.plist_canon.specs.Preorders.{Group, grouped, groups_of}
use Rattle.plist_canon.specs.Remaining.{Referred, AllReferred, nodes_referred, payload_referred, AreWithinLimits, HasLeft, TakesLeft}
use Rattle.plist_canon.proofs.Entries.{put_texts}
use Rattle.plist_canon.proofs.Visiting.{Weighs-held}
use Rattle.plist_canon.proofs.TableParts.{some_nodes, table_parts}
use Rattle.plist_value.proofs.Items.{some_depth}
use Rattle.plist_write.proofs.Within.{scalar_seen, list_seen, table_seen}

-- what holds of each value that an object may encode, by its content
by_scalar : (f : List ℕ) (i : ℕ) (s : Scalar) (P : Plist → Type 0) → Holds f i (holds_scalar s) → P (scalar s) → (v : Plist) → Spells f i v → P v
by_scalar f i s P holds here v spells = subst P (scalar_seen f i s v holds spells) here

by_list : (f : List ℕ) (i : ℕ) (refs : List ℕ) (P : Plist → Type 0) → Holds f i (holds_list refs) → ((vs : Items) → AreItems vs → SpellItems f refs vs → P (list vs)) → (v : Plist) → IsPlist v → Spells f i v → P v
by_list f i refs P holds here v valid spells =
    let seen = list_seen f refs i v holds valid spells in
    subst P seen.is (here seen.items seen.valid seen.spell)

by_table : (f : List ℕ) (i : ℕ) (keys values : List ℕ) (P : Plist → Type 0) → Holds f i (holds_table keys values) → ((ps : Pairs) → ArePairs ps → Spells f i (table ps) → P (table ps)) → (v : Plist) → IsPlist v → Spells f i v → P v
by_table f i keys values P holds here v valid spells =
    let seen = table_seen f keys values i v holds valid spells in
    subst P seen.is (here seen.pairs seen.spell.valid (subst (λ (v : Plist). Spells f i v) (sym seen.is) spells))

-- the first of the values that are left
record FirstItem (f : List ℕ) (i : ℕ) (refs : List ℕ) (rest : Items) : Type 0 where
  value : Plist
  others : Items
  others_valid : AreItems others
  valid : IsPlist value
  spells : Spells f i value
  later : SpellItems f refs others
  nodes_are : nodes_of_items rest ≡ nodes value + nodes_of_items others
  payload_is : payload_of_items rest ≡ payload value + payload_of_items others
  depth_is : depth_of_items rest ≡ max (depth value) (depth_of_items others)

first_item : (f : List ℕ) (i : ℕ) (refs : List ℕ) (rest : Items) → AreItems rest → SpellItems f (i ∷ refs) rest → FirstItem f i refs rest
first_item f i refs no_items valid spells = absurd (let none : i ∷ refs ≡ [] = spells in cc)
first_item f i refs (item v vs) valid spells =
    record { value = v; others = vs; others_valid = valid.1; valid = valid.0; spells = spells.0; later = spells.1; nodes_are = refl; payload_is = refl; depth_is = refl }

no_items_left : (f : List ℕ) (rest : Items) → SpellItems f [] rest → rest ≡ no_items
no_items_left f no_items spells = refl
no_items_left f (item v vs) spells = absurd spells

-- the only value, of the only reference
record LoneItem (f : List ℕ) (i : ℕ) (items : Items) : Type 0 where
  value : Plist
  valid : IsPlist value
  spells : Spells f i value
  nodes_are : nodes_of_items items ≡ nodes value
  payload_is : payload_of_items items ≡ payload value
  depth_is : depth_of_items items ≡ depth value

lone_item : (f : List ℕ) (i : ℕ) (items : Items) → AreItems items → SpellItems f (i ∷ []) items → LoneItem f i items
lone_item f i no_items valid spells = absurd (let none : i ∷ [] ≡ [] = spells in cc)
lone_item f i (item v no_items) valid spells =
    record { value = v; valid = valid.0; spells = spells.0; nodes_are = omega arith; payload_is = omega arith; depth_is = omega arith }
lone_item f i (item v (item w others)) valid spells = absurd spells.1

-- what a scalar of this weight takes
record ScalarCosts (weight : Weight) (v : Plist) : Type 0 where
  nodes_are : nodes v ≡ 1
  payload_is : payload v ≡ payload_of_weight weight
  depth_is : depth v ≡ 1

scalar_costs : (f : List ℕ) (i : ℕ) (weight : Weight) (s : Scalar) → Weighs f i weight → Holds f i (holds_scalar s) → payload_of_weight weight ≤ MAX_PAYLOAD → (v : Plist) → Spells f i v → ScalarCosts weight v
scalar_costs f i weight s weighs holds most v spells =
    let told : payload_of_weight weight ≡ min (payload_of_scalar s) MOST_KEPT = ap payload_of_weight (Weighs-held f i weight (holds_scalar s) weighs holds) in
    let same : payload_of_scalar s ≡ payload_of_weight weight = omega arith in
    by_scalar f i s (ScalarCosts weight) holds (record { nodes_are = refl; payload_is = same; depth_is = refl }) v spells

held_least : (f : List ℕ) (i : ℕ) (held : Content) → Holds f i held → (v : Plist) → Spells f i v → payload_of_weight (weight_of held) ≤ payload v
held_least f i (holds_scalar s) holds v spells =
    by_scalar f i s (λ v. payload_of_weight (weight_of (holds_scalar s)) ≤ payload v) holds (omega arith) v spells
held_least f i _ holds v spells = omega arith

-- the value of an object takes at least its weight
weight_least : (f : List ℕ) (i : ℕ) (weight : Weight) → Weighs f i weight → (v : Plist) → Spells f i v → payload_of_weight weight ≤ payload v
weight_least f i weight weighs v spells =
    subst (λ (w : Weight). payload_of_weight w ≤ payload v) (sym weighs.is) (held_least f i weighs.held weighs.holds v spells)

-- the values that are left before and after a step of the walk
pub record Step (f : List ℕ) (groups : List Group) (referred : AllReferred f groups) (others : List Group) (spent payload_spent : ℕ) : Type 0 where
  pub later : AllReferred f others
  pub nodes_are : nodes_referred f groups referred ≡ spent + nodes_referred f others later
  pub payload_is : payload_referred f groups referred ≡ payload_spent + payload_referred f others later
  pub within : AreWithinLimits f groups referred → AreWithinLimits f others later
  pub back : AreWithinLimits f others later → AreWithinLimits f groups referred

spent_step : (f : List ℕ) (groups others : List Group) (before after : Budget) (n p : ℕ) → Spends before n p after → (p ≤ MAX_PAYLOAD → (referred : AllReferred f groups) → Step f groups referred others n p) → HasLeft f groups (Some before) → HasLeft f others (Some after)
spent_step f groups others before after n p spends step has_left v valid spells =
    let o = has_left v valid spells in
    let s = step (omega (arith, spends, o.payload_most)) o.referred in
    record {
      referred = s.later;
      nodes_left = omega (arith, spends, o.nodes_left, s.nodes_are);
      payload_left = omega (arith, spends, o.payload_left, s.payload_is);
      payload_most = omega (arith, spends, o.payload_most);
      within = λ fits. s.within (o.within fits);
      deep = λ fits. o.deep (s.back fits);
    }

-- a step that takes nothing
moves : (f : List ℕ) (groups others : List Group) (left : Option Budget) → ((referred : AllReferred f groups) → Step f groups referred others 0 0) → HasLeft f groups left → HasLeft f others left
moves f groups others None step has_left = has_left
moves f groups others (Some left) step has_left =
    spent_step f groups others left left 0 0 (record { nodes_left = omega arith; payload_left = omega arith }) (λ most. step) has_left

module _ (f : List ℕ) (owner levels i : ℕ) (refs : List ℕ) (outer : List Group) (weight : Weight) (weighs : Weighs f i weight) where
  -- the first object is too deep or takes too much
  passes_limit : (before : Budget) → (1 ≤ levels → IsOver before 1 (payload_of_weight weight)) → HasLeft f (grouped owner levels (i ∷ refs) ∷ outer) (Some before) → (v : Plist) → IsPlist v → Spells f 0 v → ¬ Fits v
  passes_limit before over has_left v valid spells fits =
      let o = has_left v valid spells in
      let first = o.referred.0 in
      let n = first_item f i refs first.items first.valid first.spelled in
      let least = weight_least f i weight weighs n.value n.spells in
      let within = (o.within fits.depth_fits).0 in
      over (omega (arith, some_depth n.value, n.depth_is, within)) (omega (arith, some_nodes n.value, o.nodes_left, fits.nodes_fit, n.nodes_are)) (omega (arith, least, o.payload_left, fits.payload_fits, n.payload_is))

  -- the first object is counted
  taken : (others : List Group) (before after : Option Budget) → (1 ≤ levels → payload_of_weight weight ≤ MAX_PAYLOAD → (referred : AllReferred f (grouped owner levels (i ∷ refs) ∷ outer)) → Step f (grouped owner levels (i ∷ refs) ∷ outer) referred others 1 (payload_of_weight weight)) → TakesLeft levels weight before after → HasLeft f (grouped owner levels (i ∷ refs) ∷ outer) before → HasLeft f others after
  taken others None after step takes has_left = subst (λ (left : Option Budget). HasLeft f others left) (sym takes) has_left
  taken others (Some before) None step takes has_left = passes_limit before takes has_left
  taken others (Some before) (Some after) step takes has_left =
      spent_step f (grouped owner levels (i ∷ refs) ∷ outer) others before after 1 (payload_of_weight weight) takes.1 (step takes.0) has_left

  scalar_step : HoldsScalar f i → 1 ≤ levels → payload_of_weight weight ≤ MAX_PAYLOAD → (referred : AllReferred f (grouped owner levels (i ∷ refs) ∷ outer)) → Step f (grouped owner levels (i ∷ refs) ∷ outer) referred (grouped owner levels refs ∷ outer) 1 (payload_of_weight weight)
  scalar_step held some most referred =
      let first = referred.0 in
      let n = first_item f i refs first.items first.valid first.spelled in
      let costs = scalar_costs f i weight held.0 weighs held.1 most n.value n.spells in
      record {
        later = (record { items = n.others; valid = n.others_valid; spelled = n.later }, referred.1);
        nodes_are = omega (arith, costs.nodes_are, n.nodes_are);
        payload_is = omega (arith, costs.payload_is, n.payload_is);
        within = λ w. (omega (arith, costs.depth_is, n.depth_is, w.0), w.1);
        back = λ w. (omega (arith, costs.depth_is, n.depth_is, w.0), w.1);
      }

  -- a reference to a scalar is skipped
  pub HasLeft-passed : (before after : Option Budget) → HoldsScalar f i → TakesLeft levels weight before after → HasLeft f (grouped owner levels (i ∷ refs) ∷ outer) before → HasLeft f (grouped owner levels refs ∷ outer) after
  HasLeft-passed before after held = taken (grouped owner levels refs ∷ outer) before after (scalar_step held)

pub HasLeft-popped : (f : List ℕ) (owner levels : ℕ) (outer : List Group) (left : Option Budget) → HasLeft f (grouped owner levels [] ∷ outer) left → HasLeft f outer left
HasLeft-popped f owner levels outer left = moves f (grouped owner levels [] ∷ outer) outer left (λ referred.
    let first = referred.0 in
    let none = no_items_left f first.items first.spelled in
    record {
      later = referred.1;
      nodes_are = omega (arith, ap nodes_of_items none);
      payload_is = omega (arith, ap payload_of_items none);
      within = λ w. w.1;
      back = λ w. (omega (arith, ap depth_of_items none), w);
    })

-- the first reference, split off
pub HasLeft-parted : (f : List ℕ) (owner levels i : ℕ) (refs : List ℕ) (outer : List Group) (left : Option Budget) → HasLeft f (grouped owner levels (i ∷ refs) ∷ outer) left → HasLeft f (grouped owner levels (i ∷ []) ∷ grouped owner levels refs ∷ outer) left
HasLeft-parted f owner levels i refs outer left = moves f (grouped owner levels (i ∷ refs) ∷ outer) (grouped owner levels (i ∷ []) ∷ grouped owner levels refs ∷ outer) left (λ referred.
    let first = referred.0 in
    let n = first_item f i refs first.items first.valid first.spelled in
    record {
      later = (
        record { items = item n.value no_items; valid = (n.valid, tt); spelled = (n.spells, refl) },
        (record { items = n.others; valid = n.others_valid; spelled = n.later }, referred.1),
      );
      nodes_are = omega (arith, n.nodes_are);
      payload_is = omega (arith, n.payload_is);
      within = λ w. (omega (arith, n.depth_is, w.0), (omega (arith, n.depth_is, w.0), w.1));
      back = λ w. (omega (arith, n.depth_is, w.0, w.1.0), w.1.1);
    })

-- what an array or dictionary takes, and its items
record OpenedList (f refs : List ℕ) (v : Plist) : Type 0 where
  items : Referred f (grouped 0 0 refs)
  nodes_are : nodes v ≡ 1 + nodes_of_items items.items
  payload_is : payload v ≡ payload_of_items items.items
  depth_is : depth v ≡ 1 + depth_of_items items.items

record OpenedTable (f keys values : List ℕ) (v : Plist) : Type 0 where
  texts : Referred f (grouped 0 0 keys)
  items : Referred f (grouped 0 0 values)
  nodes_are : nodes v ≡ 1 + (nodes_of_items texts.items + nodes_of_items items.items)
  payload_is : payload v ≡ payload_of_items texts.items + payload_of_items items.items
  depth_is : depth v ≡ 1 + depth_of_items items.items
  texts_deep : depth_of_items texts.items ≤ depth_of_items items.items

opened_list : (f : List ℕ) (i : ℕ) (refs : List ℕ) → Holds f i (holds_list refs) → (v : Plist) → IsPlist v → Spells f i v → OpenedList f refs v
opened_list f i refs holds = by_list f i refs (OpenedList f refs) holds (λ vs valid spells. record {
  items = record { items = vs; valid = valid; spelled = spells };
  nodes_are = refl;
  payload_is = refl;
  depth_is = refl;
})

opened_table : (f : List ℕ) (i : ℕ) (keys values : List ℕ) → length keys ≡ length values → Holds f i (holds_table keys values) → HasAscendingKeys f i → (v : Plist) → IsPlist v → Spells f i v → OpenedTable f keys values v
opened_table f i keys values even holds ascending = by_table f i keys values (OpenedTable f keys values) holds (λ ps valid spells.
    let t = table_parts f i keys values ps even holds ascending valid spells in
    let p = t.parts in
    let n : nodes_of_pairs ps ≡ nodes_of_items (put_texts p.texts no_items) + nodes_of_items p.items = ap nodes_of_pairs t.same ∙ p.nodes_are in
    let m : payload_of_pairs ps ≡ payload_of_items (put_texts p.texts no_items) + payload_of_items p.items = ap payload_of_pairs t.same ∙ p.payload_is in
    let d : depth_of_pairs ps ≡ depth_of_items p.items = ap depth_of_pairs t.same ∙ p.depth_is in
    record {
      texts = record { items = put_texts p.texts no_items; valid = p.units; spelled = p.spell_keys };
      items = record { items = p.items; valid = p.valid; spelled = p.spell };
      nodes_are = omega arith;
      payload_is = m;
      depth_is = omega arith;
      texts_deep = p.keys_deep;
    })

module _ (f : List ℕ) (owner levels i : ℕ) (outer : List Group) (weight : Weight) (weighs : Weighs f i weight) (ascending : HasAscendingKeys f i) where
  abbrev before_it : List Group
  before_it = grouped owner levels (i ∷ []) ∷ outer

  opening : (held : Content) → Holds f i held → IsContent held → 1 ≤ levels → payload_of_weight weight ≤ MAX_PAYLOAD → (referred : AllReferred f before_it) → Step f before_it referred (groups_of i (levels - 1) held ++ outer) 1 (payload_of_weight weight)
  opening (holds_scalar s) holds valid some most referred =
      let n = lone_item f i referred.0.items referred.0.valid referred.0.spelled in
      let costs = scalar_costs f i weight s weighs holds most n.value n.spells in
      record {
        later = referred.1;
        nodes_are = omega (arith, costs.nodes_are, n.nodes_are);
        payload_is = omega (arith, costs.payload_is, n.payload_is);
        within = λ w. w.1;
        back = λ w. (omega (arith, costs.depth_is, n.depth_is), w);
      }
  opening (holds_list refs) holds valid some most referred =
      let n = lone_item f i referred.0.items referred.0.valid referred.0.spelled in
      let o = opened_list f i refs holds n.value n.valid n.spells in
      let none : payload_of_weight weight ≡ 0 = ap payload_of_weight (Weighs-held f i weight (holds_list refs) weighs holds) in
      record {
        later = (record { items = o.items.items; valid = o.items.valid; spelled = o.items.spelled }, referred.1);
        nodes_are = omega (arith, o.nodes_are, n.nodes_are);
        payload_is = omega (arith, none, o.payload_is, n.payload_is);
        within = λ w. (omega (arith, o.depth_is, n.depth_is, w.0), w.1);
        back = λ w. (omega (arith, some, o.depth_is, n.depth_is, w.0), w.1);
      }
  opening (holds_table keys values) holds valid some most referred =
      let n = lone_item f i referred.0.items referred.0.valid referred.0.spelled in
      let o = opened_table f i keys values valid holds ascending n.value n.valid n.spells in
      let none : payload_of_weight weight ≡ 0 = ap payload_of_weight (Weighs-held f i weight (holds_table keys values) weighs holds) in
      record {
        later = (
          record { items = o.texts.items; valid = o.texts.valid; spelled = o.texts.spelled },
          (record { items = o.items.items; valid = o.items.valid; spelled = o.items.spelled }, referred.1),
        );
        nodes_are = omega (arith, o.nodes_are, n.nodes_are);
        payload_is = omega (arith, none, o.payload_is, n.payload_is);
        within = λ w. (omega (arith, o.texts_deep, o.depth_is, n.depth_is, w.0), (omega (arith, o.depth_is, n.depth_is, w.0), w.1));
        back = λ w. (omega (arith, some, o.depth_is, n.depth_is, w.1.0), w.1.1);
      }

  -- the object is visited for the first time
  pub HasLeft-entered : (octets : AreOctets f) (held : Content) (before after : Option Budget) → Holds f i held → TakesLeft levels weight before after → HasLeft f before_it before → HasLeft f (groups_of i (levels - 1) held ++ outer) after
  HasLeft-entered octets held before after holds =
      taken f owner levels i [] outer weight weighs (groups_of i (levels - 1) held ++ outer) before after (opening held holds (Holds-held f i held octets holds))

-- before the walk
pub HasLeft-start : (f : List ℕ) (whole : Budget) → whole.nodes ≡ MAX_NODES → whole.payload ≡ MAX_PAYLOAD → HasLeft f (grouped 0 MAX_DEPTH (0 ∷ []) ∷ []) (Some whole)
HasLeft-start f whole all_nodes all_payload v valid spells = record {
  referred = (record { items = item v no_items; valid = (valid, tt); spelled = (spells, refl) }, tt);
  nodes_left = omega arith;
  payload_left = omega arith;
  payload_most = omega arith;
  within = λ fits. (omega arith, tt);
  deep = λ w. (let d = w.0 in omega arith);
}

-- after the walk
pub HasLeft-end : (f : List ℕ) (left : Budget) → HasLeft f [] (Some left) → (v : Plist) → IsPlist v → Spells f 0 v → Fits v
HasLeft-end f left has_left v valid spells =
    let o = has_left v valid spells in
    record { nodes_fit = omega (arith, o.nodes_left); depth_fits = o.deep tt; payload_fits = omega (arith, o.payload_left) }
