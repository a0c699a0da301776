-- The walk does a container when it does its children, whose references are replaced by numbers.
use Rattle.std.proofs.Common.{◌≡◌, ℕ, suc, ◌+◌, ◌<◌, false, List, [], ◌∷◌, ◌++◌, length, drop, map, refl, sym, ap, subst, ◌∙◌, arith, add-one, length-append, append_assoc}
use Rattle.std.proofs.lemmas.Bool.{eq-eqb}
use Rattle.std.proofs.lemmas.List.{length-map, map-append, drop_all, drop_at}
use Rattle.plist_value.specs.Plist.{Scalar, Plist, scalar, list, table, Items, Pairs, IsContainer}
use Rattle.plist_object.specs.Objects.{holds_list, holds_table}
use Rattle.plist_object.specs.Places.{Holds, what_holds}
use Rattle.plist_write.specs.Tree.{key_texts, preorder, preorder_items, preorder_values, key_positions, value_positions}
use Rattle.plist_write.specs.Found.{OccursAt, held_at, number_in, found_in}
use Rattle.plist_write.specs.Sharing.{least_position, first_position, kept_positions, count_below, value_at}
use Rattle.plist_write.proofs.Trees.{OccursAt-tail, OccursAt-head, length-key_positions, length-value_positions}
use Rattle.plist_write.proofs.Counting.{count-kept, least_position-at, known-still}
use Rattle.plist_write.specs.declared.plan.Plan.{Plan}
use Rattle.plist_object.specs.References.{references_of}
use Rattle.plist_write.proofs.Meeting.{seen-beside, list-apart, table-apart}
use Rattle.plist_write.specs.Plan.{is_held, IsLike, IsReadyAt, Grows, Adds, WalksTree, WalksItems, AddsObject}
use Rattle.plist_write.proofs.Flat.{flat, preorder-flat, positions-flat}

-- the numbers that replaced the references, and the references after them
pub record Filled {S H : Type 0} (objects numbers behind : List ℕ) (old done : Plan S H) : Type 0 where
  pub as_many : length numbers ≡ length objects
  pub filled : done.references.items ≡ old.references.items ++ (numbers ++ behind)

-- a container has its own object
container-first : (all : List Plist) (k : ℕ) (v : Plist) → IsContainer v → first_position all k v ≡ k
container-first all k (scalar s) h = absurd h
container-first all k _ h = refl

module _ (v : Plist) (container : IsContainer v) (part : List Plist) (tree : preorder v ≡ v ∷ part) (all : List Plist) (k : ℕ) (stands : OccursAt all k (preorder v)) where
  stands_open : OccursAt all k (v ∷ part)
  stands_open = rw tree at stands

  here : (value_at all k ≡ v) × (k < length all)
  here = OccursAt-head v part stands_open

  own : first_position all k v ≡ k
  own = container-first all k v container

  no_scalar : (q : Scalar) → least_position q all ≡ k → ⊥
  no_scalar q e =
      let at = least_position-at q all (omega (arith, here.1)) in
      let is : v ≡ scalar q = sym here.0 ∙ ap (value_at all) (sym e) ∙ at in
      subst IsContainer is container

  number_is : number_in all k ≡ count_below k (kept_positions all)
  number_is = ap (λ u. count_below (first_position all k u) (kept_positions all)) here.0 ∙ ap (λ n. count_below n (kept_positions all)) own

  found_is : found_in all k (v ∷ part) ≡ held_at (number_in all) k v ∷ found_in all (suc k) part
  found_is = rw (eq-eqb _ _ own) refl

  below_ready : {S H : Type 0} → (f : List ℕ) (i : ℕ) (objects : List ℕ) (old mid : Plan S H) (number : ℕ) → ((s : Scalar) → is_held s (what_holds f i) ≡ false) → AddsObject i objects old mid number → IsReadyAt f all k old → IsReadyAt f all (suc k) mid
  below_ready f i objects old mid number apart begins ready = record {
    known = λ q. seen-beside f i old mid begins.original_added q (apart q) ∙ ready.known q ∙ sym (known-still all k q (no_scalar q));
    counted = ap length begins.original_added ∙ length-append old.originals.items _ ∙ add-one _ ∙ ap suc ready.counted ∙ sym (count-kept all k v here.0 here.1 own);
  }

  grown : {S H : Type 0} → (f : List ℕ) (i : ℕ) (objects numbers behind : List ℕ) (old mid done : Plan S H) (number : ℕ) → AddsObject i objects old mid number → Filled objects numbers behind old done → Grows f (length mid.references.items) mid done (found_in all (suc k) part) → IsLike f i (held_at (number_in all) k v) → references_of (held_at (number_in all) k v) ≡ numbers → Grows f 0 old done (found_in all k (v ∷ part))
  grown f i objects numbers behind old mid done number begins filled g like refers =
      let front = length mid.references.items in
      let size : length (old.references.items ++ numbers) ≡ front = length-append old.references.items numbers ∙ ap (λ n. length old.references.items + n) filled.as_many ∙ sym (length-append old.references.items objects) ∙ ap length (sym begins.references_added) in
      let left : drop front done.references.items ≡ behind = ap (drop front) (filled.filled ∙ sym (append_assoc old.references.items numbers behind)) ∙ drop_at (old.references.items ++ numbers) behind front size in
      let nothing : drop front mid.references.items ≡ [] = drop_all front mid.references.items (omega arith) in
      let same : behind ≡ g.references = sym left ∙ g.references_added ∙ ap (λ rs. rs ++ g.references) nothing in
      rw found_is (record {
        originals = i ∷ g.originals;
        references = numbers ++ behind;
        originals_added = g.originals_added ∙ ap (λ os. os ++ g.originals) begins.original_added ∙ append_assoc old.originals.items (i ∷ []) g.originals;
        references_added = filled.filled;
        stand_for = (like, (g.references, (ap (λ rs. rs ++ behind) (sym refers) ∙ ap (λ rs. references_of (held_at (number_in all) k v) ++ rs) same, g.stand_for)));
      })

pub Walks-container : {S H : Type 0} → (f : List ℕ) (v : Plist) → IsContainer v → (part : List Plist) → preorder v ≡ v ∷ part → (i : ℕ) (objects numbers behind : List ℕ) (old mid done : Plan S H) (number : ℕ) → ((s : Scalar) → is_held s (what_holds f i) ≡ false) → AddsObject i objects old mid number → Filled objects numbers behind old done → ((all : List Plist) (k : ℕ) → OccursAt all k part → IsReadyAt f all k mid → Adds f (length mid.references.items) all k part mid done) → ((all : List Plist) (k : ℕ) → OccursAt all (suc k) part → IsReadyAt f all (suc k) mid → IsLike f i (held_at (number_in all) k v) × (references_of (held_at (number_in all) k v) ≡ numbers)) → WalksTree f 0 v old done number
Walks-container f v container part tree i objects numbers behind old mid done number apart begins filled adds holds = record {
  numbered = λ all k stands ready.
      let e : number ≡ number_in all k = begins.number_is ∙ ready.counted ∙ sym (number_is v container part tree all k stands) in
      ap (λ n. n ∷ []) e;
  adds = λ all k stands ready.
      let below = below_ready v container part tree all k stands f i objects old mid number apart begins ready in
      let children = OccursAt-tail v part (rw tree at stands) in
      let inner = adds all (suc k) children below in
      let like = holds all k children below in
      let moved : suc k + length part ≡ k + length (v ∷ part) = omega arith in
      rw tree (record {
        ready = subst (λ (n : ℕ). IsReadyAt f all n done) moved inner.ready;
        grows = grown v container part tree all k stands f i objects numbers behind old mid done number begins filled inner.grows like.0 like.1;
      });
}

pub Walks-list : {S H : Type 0} → (f : List ℕ) (vs : Items) (i : ℕ) (objects numbers behind : List ℕ) (old mid done : Plan S H) (number : ℕ) → Holds f i (holds_list objects) → AddsObject i objects old mid number → Filled objects numbers behind old done → WalksItems f (length mid.references.items) vs mid done numbers → WalksTree f 0 (list vs) old done number
Walks-list f vs i objects numbers behind old mid done number holds begins filled walks =
    Walks-container f (list vs) tt (preorder_items vs) refl i objects numbers behind old mid done number (list-apart f i objects holds) begins filled walks.adds
    (λ all k stands ready. let is = walks.numbered all (suc k) stands ready in ((objects, (holds, ap length (sym is) ∙ filled.as_many)), sym is))

pub Walks-table : {S H : Type 0} → (f : List ℕ) (ps : Pairs) (i : ℕ) (keys values objects numbers behind : List ℕ) (old mid done : Plan S H) (number : ℕ) → Holds f i (holds_table keys values) → length (key_texts ps) ≡ length keys → AddsObject i objects old mid number → Filled objects numbers behind old done → WalksItems f (length mid.references.items) (flat ps) mid done numbers → WalksTree f 0 (table ps) old done number
Walks-table f ps i keys values objects numbers behind old mid done number holds long begins filled walks =
    let same = preorder-flat ps in
    Walks-container f (table ps) tt (key_texts ps ++ preorder_values ps) refl i objects numbers behind old mid done number (table-apart f i keys values holds) begins filled
    (λ all k stands ready. rw same at (walks.adds all k (rw same stands) ready))
    (λ all k stands ready.
    let number = number_in all in
    let first = map number (key_positions (suc k) ps) in
    let later = map number (value_positions (suc k + length (key_texts ps)) ps) in
    let is : numbers ≡ first ++ later = walks.numbered all (suc k) (rw same stands) ready ∙ ap (map number) (positions-flat (suc k) ps) ∙ map-append number (key_positions (suc k) ps) (value_positions (suc k + length (key_texts ps)) ps) in
    let keys_long : length first ≡ length keys = length-map (key_positions (suc k) ps) number ∙ length-key_positions (suc k) ps ∙ long in
    let values_long : length later ≡ length keys = length-map (value_positions (suc k + length (key_texts ps)) ps) number ∙ length-value_positions (suc k + length (key_texts ps)) ps ∙ long in
    ((keys, (values, (holds, (keys_long, values_long)))), sym is))
