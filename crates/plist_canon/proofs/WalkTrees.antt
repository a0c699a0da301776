-- A walk is that of a value, whose positions have the entries as their numbers.
use Rattle.std.proofs.Common.{◌≡◌, ℕ, suc, ◌+◌, ◌<◌, List, [], ◌∷◌, ◌++◌, length, map, take, drop, get_or, refl, sym, ap, ap₂, subst, ◌∙◌, arith, length-append, take_at, drop_at}
use Rattle.std.specs.List.{AllByRecursion}
use Rattle.std.proofs.lemmas.List.{map-append, length-map}
use Rattle.plist_value.specs.Plist.{Scalar, text, Plist, scalar, list, table, Items, no_items, item, Pairs, AreOctets, IsPlist, AreItems, ArePairs}
use Rattle.plist_value.specs.Limits.{nodes}
use Rattle.plist_object.specs.Layout.{trailer_of}
use Rattle.plist_object.specs.Objects.{Content, holds_scalar, holds_list, holds_table}
use Rattle.plist_object.specs.Places.{Holds, HoldsText}
use Rattle.plist_object.specs.Spelled.{Spells}
use Rattle.plist_object.specs.References.{references_of}
use Rattle.plist_canon.specs.Rules.{keys_of, HoldTexts, IsWellRead, HasAscendingKeys, Walk, visit, Walks, end, step}
use Rattle.plist_write.specs.Found.{held_at}
use Rattle.plist_write.specs.Sharing.{value_at}
use Rattle.plist_write.specs.Tree.{key_texts, preorder, preorder_items, preorder_values, item_positions, key_positions, value_positions}
use Rattle.plist_write.proofs.Trees.{length-preorder, length-key_positions, OccursAt-all}
use Rattle.plist_write.proofs.Sizes.{item_count}
use Rattle.plist_write.proofs.Spelled.{Spells-tree}
use Rattle.plist_object.proofs.Uniqueness.{same_held}
use Rattle.plist_object.proofs.HeldRanges.{Holds-held}
use Rattle.plist_canon.proofs.Checks.{texts_of}
use Rattle.plist_canon.proofs.Entries.{AreNumbers, PositionsHold, AreNumbers-front, AreNumbers-rest, AreNumbers-own, PositionsHold-append, PositionsHold-at, pairs_of, put_texts, key_texts-pairs_of, preorder-pairs_of, positions-pairs_of, AreItems-put_texts, ArePairs-pairs_of}

-- The walk from object i visits these entries, and they are those of this value: with the entries
-- as numbers, the object of each position contains what is there.
pub record WalkedTree (f : List ℕ) (i : ℕ) (entries : List ℕ) : Type 0 where
  pub value : Plist
  pub valid : IsPlist value
  pub long : length (preorder value) ≡ length entries
  pub top : (number : ℕ → ℕ) (k : ℕ) → AreNumbers number k entries → number k ≡ i
  pub reads : (number : ℕ → ℕ) (k : ℕ) → AreNumbers number k entries → PositionsHold f number k (preorder value)
  pub same_scalar : (s : Scalar) → Holds f i (holds_scalar s) → value ≡ scalar s

-- if a reference points to a scalar, the item in its place is that scalar
abbrev SameScalars : List ℕ → List ℕ → Items → Type 0
SameScalars f refs no_items = refs ≡ []
SameScalars f [] (item v vs) = ⊥
SameScalars f (i ∷ refs) (item v vs) = ((s : Scalar) → Holds f i (holds_scalar s) → v ≡ scalar s) × SameScalars f refs vs

-- like `WalkedTree`, for the walks from several references
record WalkedItems (f refs entries : List ℕ) : Type 0 where
  items : Items
  valid : AreItems items
  long : length (preorder_items items) ≡ length entries
  named : (number : ℕ → ℕ) (k : ℕ) → AreNumbers number k entries → map number (item_positions k items) ≡ refs
  reads : (number : ℕ → ℕ) (k : ℕ) → AreNumbers number k entries → PositionsHold f number k (preorder_items items)
  same_scalars : SameScalars f refs items

no_items-walked : (f : List ℕ) → WalkedItems f [] []
no_items-walked f = record {
  items = no_items;
  valid = tt;
  long = refl;
  named = λ number k h. refl;
  reads = λ number k h. tt;
  same_scalars = refl;
}

item-walked : (f : List ℕ) (i : ℕ) (refs entries others : List ℕ) → WalkedTree f i entries → WalkedItems f refs others → WalkedItems f (i ∷ refs) (entries ++ others)
item-walked f i refs entries others x xs =
    let long = x.long in
    record {
      items = item x.value xs.items;
      valid = (x.valid, xs.valid);
      long = omega (arith, length-preorder x.value, x.long, xs.long, length-append (preorder x.value) (preorder_items xs.items), length-append entries others);
      named = λ number k h.
          let first = x.top number k (AreNumbers-front number k entries others h) in
          let later = xs.named number (k + nodes x.value) (AreNumbers-rest number k (k + nodes x.value) entries others (omega (arith, length-preorder x.value)) h) in
          rw (first, later) refl;
      reads = λ number k h.
          let first = x.reads number k (AreNumbers-front number k entries others h) in
          let later = xs.reads number (k + length (preorder x.value)) (AreNumbers-rest number k (k + length (preorder x.value)) entries others (omega (arith, length-preorder x.value)) h) in
          PositionsHold-append f number k (k + length (preorder x.value)) (preorder x.value) (preorder_items xs.items) refl first later;
      same_scalars = (x.same_scalar, xs.same_scalars);
    }

-- a scalar has no references, so its walk ends there
no_entries : (f entries : List ℕ) → WalkedItems f [] entries → entries ≡ []
no_entries f entries xs = none f entries xs.items xs.long xs.same_scalars where
  none : (f entries : List ℕ) (vs : Items) → length (preorder_items vs) ≡ length entries → SameScalars f [] vs → entries ≡ []
  none f [] vs long same = refl
  none f (e ∷ es) no_items long same = absurd (omega arith)
  none f (e ∷ es) (item v vs) long same = absurd same

scalar-walked : (f : List ℕ) (i : ℕ) (s : Scalar) (entries : List ℕ) → AreOctets f → Holds f i (holds_scalar s) → WalkedItems f [] entries → WalkedTree f i (i ∷ entries)
scalar-walked f i s entries octets holds xs = record {
  value = scalar s;
  valid = Holds-held f i (holds_scalar s) octets holds;
  long = rw (no_entries f entries xs) refl;
  top = λ number k h. h.0;
  reads = λ number k h. (subst (λ n. Holds f n (holds_scalar s)) (sym h.0) holds, tt);
  same_scalar = λ t other. let same = same_held f i (holds_scalar s) (holds_scalar t) holds other in cc;
}

list-walked : (f : List ℕ) (i : ℕ) (refs entries : List ℕ) → Holds f i (holds_list refs) → WalkedItems f refs entries → WalkedTree f i (i ∷ entries)
list-walked f i refs entries holds xs = record {
  value = list xs.items;
  valid = xs.valid;
  long = ap suc xs.long;
  top = λ number k h. h.0;
  reads = λ number k h. (rw (h.0, xs.named number (suc k) h.1) holds, xs.reads number (suc k) h.1);
  same_scalar = λ t other. let same = same_held f i (holds_list refs) (holds_scalar t) holds other in cc;
}

-- as many strings as references
length-HoldTexts : (f keys : List ℕ) (texts : List (List ℕ)) → HoldTexts f keys texts → length texts ≡ length keys
length-HoldTexts f keys [] h = ap length (sym h)
length-HoldTexts f [] (units ∷ texts) h = absurd h
length-HoldTexts f (i ∷ keys) (units ∷ texts) h = ap suc (length-HoldTexts f keys texts h.1)

length-SameScalars : (f refs : List ℕ) (vs : Items) → SameScalars f refs vs → item_count vs ≡ length refs
length-SameScalars f refs no_items h = ap length (sym h)
length-SameScalars f [] (item v vs) h = absurd h
length-SameScalars f (i ∷ refs) (item v vs) h = ap suc (length-SameScalars f refs vs h.1)

-- the items of references to keys are their strings
texts-first : (f keys values : List ℕ) (texts : List (List ℕ)) (vs : Items) → HoldTexts f keys texts → SameScalars f (keys ++ values) vs → (others : Items) × (vs ≡ put_texts texts others) × SameScalars f values others
texts-first f [] values [] vs names same = (vs, refl, same)
texts-first f [] values (units ∷ texts) vs names same = absurd names
texts-first f (i ∷ keys) values [] vs names same = absurd (let none : i ∷ keys ≡ [] = names in cc)
texts-first f (i ∷ keys) values (units ∷ texts) no_items names same = absurd (let none : i ∷ (keys ++ values) ≡ [] = same in cc)
texts-first f (i ∷ keys) values (units ∷ texts) (item v vs) names same =
    let rest = texts-first f keys values texts vs names.1 same.1 in
    (rest.0, ap₂ item (same.0 (text units) names.0) rest.1, rest.2)

-- equal concatenations with equally long first lists have equal parts
append-parts : (xs ys vs ws : List ℕ) → length xs ≡ length vs → xs ++ ys ≡ vs ++ ws → (xs ≡ vs) × (ys ≡ ws)
append-parts xs ys vs ws long same = (
  sym (take_at xs ys (length vs) long) ∙ ap (take (length vs)) same ∙ take_at vs ws (length vs) refl,
  sym (drop_at xs ys (length vs) long) ∙ ap (drop (length vs)) same ∙ drop_at vs ws (length vs) refl,
)

module _ (f : List ℕ) (i : ℕ) (keys values entries : List ℕ) (octets : AreOctets f) (read : IsWellRead f i) (ascending : HasAscendingKeys f i)
    (holds : Holds f i (holds_table keys values)) (xs : WalkedItems f (keys ++ values) entries) where
  named_texts : (texts : List (List ℕ)) × HoldTexts f keys texts
  named_texts =
      let same = same_held f i read.held (holds_table keys values) read.holds holds in
      texts_of f keys (subst (λ h. AllByRecursion (HoldsText f) (keys_of h)) same read.texts)

  abbrev texts : List (List ℕ)
  texts = named_texts.0

  split_items : (others : Items) × (xs.items ≡ put_texts texts others) × SameScalars f values others
  split_items = texts-first f keys values texts xs.items named_texts.1 xs.same_scalars

  abbrev others : Items
  others = split_items.0

  abbrev pairs : Pairs
  pairs = pairs_of texts others

  even : item_count others ≡ length texts
  even =
      let paired : length keys ≡ length values = Holds-held f i (holds_table keys values) octets holds in
      length-SameScalars f values others split_items.2 ∙ sym paired ∙ sym (length-HoldTexts f keys texts named_texts.1)

  below : preorder_items xs.items ≡ key_texts pairs ++ preorder_values pairs
  below = ap preorder_items split_items.1 ∙ preorder-pairs_of texts others even

  valid_pairs : ArePairs pairs
  valid_pairs =
      let units = subst AreItems split_items.1 xs.valid in
      ArePairs-pairs_of texts others others units (AreItems-put_texts texts others units) (ascending keys values texts holds.reads named_texts.1)

  length-keys : length (key_texts pairs) ≡ length texts
  length-keys = ap length (key_texts-pairs_of texts others even) ∙ length-map texts _

  named_places : (number : ℕ → ℕ) (k : ℕ) → AreNumbers number k entries → (map number (key_positions k pairs) ≡ keys) × (map number (value_positions (k + length (key_texts pairs)) pairs) ≡ values)
  named_places number k h =
      let positions = ap (item_positions k) split_items.1 ∙ positions-pairs_of k texts others even in
      let all = sym (map-append number (key_positions k pairs) (value_positions (k + length texts) pairs)) ∙ ap (map number) (sym positions) ∙ xs.named number k h in
      let many = length-map (key_positions k pairs) number ∙ length-key_positions k pairs ∙ length-keys ∙ length-HoldTexts f keys texts named_texts.1 in
      let parts = append-parts (map number (key_positions k pairs)) (map number (value_positions (k + length texts) pairs)) keys values many all in
      (parts.0, rw length-keys parts.1)

  table-walked : WalkedTree f i (i ∷ entries)
  table-walked = record {
    value = table pairs;
    valid = valid_pairs;
    long = ap suc (ap length (sym below) ∙ xs.long);
    top = λ number k h. h.0;
    reads = λ number k h.
        let named = named_places number (suc k) h.1 in
        (rw (h.0, named.0, named.1) holds, subst (PositionsHold f number (suc k)) below (xs.reads number (suc k) h.1));
    same_scalar = λ t other. let same = same_held f i (holds_table keys values) (holds_scalar t) holds other in cc;
  }

-- with the entries of the walk as numbers, the object of each position contains what is there
pub held-walked : (f : List ℕ) (i : ℕ) (entries : List ℕ) (tree : WalkedTree f i entries) (k : ℕ) (v : Plist) → value_at (preorder tree.value) k ≡ v → k < length (preorder tree.value) → Holds f (get_or entries k 0) (held_at (λ j. get_or entries j 0) k v)
held-walked f i entries tree k v at below =
    let number : ℕ → ℕ = λ j. get_or entries j 0 in
    rw at at (PositionsHold-at f number 0 k k (preorder tree.value) (tree.reads number 0 (AreNumbers-own entries)) below (omega arith))

-- the object encodes the value of its walk
pub Spells-walked : (f : List ℕ) (i : ℕ) (entries : List ℕ) (tree : WalkedTree f i entries) → Spells f i tree.value
Spells-walked f i entries tree =
    let number : ℕ → ℕ = λ k. get_or entries k 0 in
    let spells = Spells-tree f (preorder tree.value) number (held-walked f i entries tree) tree.value 0 (OccursAt-all (preorder tree.value)) in
    subst (λ n. Spells f n tree.value) (tree.top number 0 (AreNumbers-own entries)) spells

module _ (f : List ℕ) (octets : AreOctets f) (read : (i : ℕ) → i < (trailer_of f).count → IsWellRead f i) (ascending : (i : ℕ) → i < (trailer_of f).count → HasAscendingKeys f i) where
  object-walked : (i : ℕ) (held : Content) (entries : List ℕ) → Holds f i held → WalkedItems f (references_of held) entries → WalkedTree f i (i ∷ entries)
  object-walked i (holds_scalar s) entries holds xs = scalar-walked f i s entries octets holds xs
  object-walked i (holds_list refs) entries holds xs = list-walked f i refs entries holds xs
  object-walked i (holds_table keys values) entries holds xs =
      table-walked f i keys values entries octets (read i holds.listed) (ascending i holds.listed) holds xs

  mutual
    pub tree_of_walk : (i : ℕ) (entries : List ℕ) → Walk f i entries → WalkedTree f i entries
    tree_of_walk _ _ (visit i held entries holds walks) =
        object-walked i held entries holds (items_of_walks (references_of held) entries walks)

    items_of_walks : (refs entries : List ℕ) → Walks f refs entries → WalkedItems f refs entries
    items_of_walks _ _ end = no_items-walked f
    items_of_walks _ _ (step i refs entries others walk walks) =
        item-walked f i refs entries others (tree_of_walk i entries walk) (items_of_walks refs others walks)

  -- the object where a walk begins encodes a value
  pub value_of_walk : (i : ℕ) (entries : List ℕ) → Walk f i entries → (v : Plist) × IsPlist v × Spells f i v
  value_of_walk i entries walk =
      let tree = tree_of_walk i entries walk in
      (tree.value, tree.valid, Spells-walked f i entries tree)
