-- The walk does a tree when it does its parts.
use Rattle.std.proofs.Common.{◌≡◌, ℕ, suc, ◌+◌, ◌<◌, ◌≤◌, eqb, true, false, List, [], ◌∷◌, ◌++◌, length, drop, map, Some, None, refl, sym, ap, subst, ◌∙◌, inl, inr, arith, cond, add-one, add-zero, length-append, lt-ltb}
use Rattle.std.proofs.lemmas.Bool.{true≢false, le-ltb, eq-eqb, ne_eqb, cases_Bool, cases_lt}
use Rattle.std.proofs.lemmas.List.{map-append, append-nil}
use Rattle.plist_value.specs.Plist.{Scalar, Plist, scalar, Items, item}
use Rattle.plist_value.specs.Equality.{scalar_eq}
use Rattle.plist_value.specs.EqualityLaws.{scalar_eq-Decides}
use Rattle.plist_object.specs.Objects.{holds_scalar}
use Rattle.plist_object.specs.Places.{Holds}
use Rattle.plist_write.specs.Tree.{preorder, preorder_items, item_positions}
use Rattle.plist_write.specs.Sharing.{least_position, first_position, kept_from, kept_positions, count_below, value_at}
use Rattle.plist_write.specs.Found.{OccursAt, held_at, number_in, found_in, number_known}
use Rattle.plist_write.specs.declared.plan.Plan.{Plan}
use Rattle.plist_write.specs.Plan.{number_from, number_seen, IsReadyAt, Grows, Adds, Walks, WalksTree, WalksScalar, WalksItems, IsEmptyPlan, StandFor}
use Rattle.plist_write.proofs.Numbering.{least_position-le, count_below-none}
use Rattle.plist_write.proofs.Trees.{length-preorder, OccursAt-front, OccursAt-rest, OccursAt-head, OccursAt-all}
use Rattle.plist_write.proofs.Counting.{count-kept, count-shared, least_position-at, known-still, known-now}
use Rattle.plist_write.proofs.Meeting.{seen-added}
use Rattle.plist_write.proofs.Growing.{Grows-none, Grows-append, Grows-lift, Grows-scalar}

-- the kept positions of one part, and then those of another
kept_from-append : (all : List Plist) (k : ℕ) (xs ys : List Plist) → kept_from all k (xs ++ ys) ≡ kept_from all k xs ++ kept_from all (k + length xs) ys
kept_from-append all k [] ys = rw add-zero refl
kept_from-append all k (x ∷ xs) ys =
    let others = kept_from-append all (suc k) xs ys in
    let moved : suc k + length xs ≡ k + suc (length xs) = omega arith in
    elim (eqb (first_position all k x) k) as (λ t. cond t ((k, x) ∷ kept_from all (suc k) (xs ++ ys)) (kept_from all (suc k) (xs ++ ys)) ≡ cond t ((k, x) ∷ kept_from all (suc k) xs) (kept_from all (suc k) xs) ++ kept_from all (k + suc (length xs)) ys) [
      | true ↦ ap (λ ps. (k, x) ∷ ps) (rw (moved) at others)
      | false ↦ rw (moved) at others
    ]

pub found_in-append : (all : List Plist) (k : ℕ) (xs ys : List Plist) → found_in all k (xs ++ ys) ≡ found_in all k xs ++ found_in all (k + length xs) ys
found_in-append all k xs ys =
    ap (map (λ p. held_at (number_in all) p.0 p.1)) (kept_from-append all k xs ys) ∙ map-append _ (kept_from all k xs) _

pub Walks-none : {S H : Type 0} → (f : List ℕ) (front : ℕ) (plan : Plan S H) → Walks f front [] (λ k. []) plan plan []
Walks-none f front plan = record {
  numbered = λ all k stands ready. refl;
  adds = λ all k stands ready. record { ready = rw add-zero ready; grows = Grows-none f front plan };
}

pub Adds-append : {S H : Type 0} → (f : List ℕ) (front : ℕ) (all : List Plist) (k : ℕ) (old mid new : Plan S H) (xs ys : List Plist) → Adds f front all k xs old mid → Adds f front all (k + length xs) ys mid new → Adds f front all k (xs ++ ys) old new
Adds-append f front all k old mid new xs ys x y =
    let far : k + length xs + length ys ≡ k + length (xs ++ ys) = rw length-append (omega arith) in
    record {
      ready = subst (λ (n : ℕ). IsReadyAt f all n new) far y.ready;
      grows = rw found_in-append (Grows-append f front old mid new (found_in all k xs) (found_in all (k + length xs) ys) x.grows y.grows);
    }

pub Walks-append : {S H : Type 0} → (f : List ℕ) (front : ℕ) (xs ys : List Plist) (p q r : ℕ → List ℕ) (old mid new : Plan S H) (ms ns : List ℕ) → ((k : ℕ) → r k ≡ p k ++ q (k + length xs)) → Walks f front xs p old mid ms → Walks f front ys q mid new ns → Walks f front (xs ++ ys) r old new (ms ++ ns)
Walks-append f front xs ys p q r old mid new ms ns joined x y = record {
  numbered = λ all k stands ready.
      let first = OccursAt-front xs ys stands in
      let later = OccursAt-rest xs ys (length xs) refl stands in
      let done = x.adds all k first ready in
      rw (joined k, map-append) (let a = x.numbered all k first ready in let b = y.numbered all (k + length xs) later done.ready in cc);
  adds = λ all k stands ready.
      let done = x.adds all k (OccursAt-front xs ys stands) ready in
      Adds-append f front all k old mid new xs ys done (y.adds all (k + length xs) (OccursAt-rest xs ys (length xs) refl stands) done.ready);
}

-- a plan with other references before those considered
pub Walks-lift : {S H : Type 0} → (f : List ℕ) (front : ℕ) (part : List Plist) (positions : ℕ → List ℕ) (old mid new : Plan S H) (ns : List ℕ) → Walks f 0 part positions old mid ns → front ≤ length old.references.items → new.originals ≡ mid.originals → drop front new.references.items ≡ drop front mid.references.items → Walks f front part positions old new ns
Walks-lift f front part positions old mid new ns x within same_originals same_references = record {
  numbered = x.numbered;
  adds = λ all k stands ready.
      let done = x.adds all k stands ready in
      record {
        ready = record {
          known = λ q. ap (λ originals. number_from f 0 originals.items q) same_originals ∙ done.ready.known q;
          counted = rw same_originals done.ready.counted;
        };
        grows = Grows-lift f front old mid new (found_in all k part) done.grows within same_originals same_references;
      };
}

-- a scalar at its position: it was visited before, or this is its first position
module _ (s : Scalar) (all : List Plist) (k : ℕ) (stands : OccursAt all k (scalar s ∷ [])) where
  here : (value_at all k ≡ scalar s) × (k < length all)
  here = OccursAt-head (scalar s) [] stands

  before : least_position s all ≤ k
  before = least_position-le s all k here.0

  number_is : number_in all k ≡ count_below (least_position s all) (kept_positions all)
  number_is = ap (λ v. count_below (first_position all k v) (kept_positions all)) here.0

  same_scalar : (q : Scalar) → least_position q all ≡ k → q ≡ s
  same_scalar q e =
      let below = here.1 in
      let at = least_position-at q all (omega arith) in
      let is : scalar q ≡ scalar s = sym at ∙ ap (value_at all) e ∙ here.0 in
      cc

  known-before : (n : ℕ) → number_known all k s ≡ Some n → (least_position s all < k) × (n ≡ count_below (least_position s all) (kept_positions all))
  known-before n known =
      elim (cases_lt (least_position s all) k) [
        | inl below ↦ (below, let e = rw (lt-ltb (least_position s all) k below) at known in cc)
        | inr above ↦ (let e : None ≡ Some n = rw (le-ltb (least_position s all) k above) at known in cc)
      ]

  unknown-first : number_known all k s ≡ None → least_position s all ≡ k
  unknown-first unknown =
      elim (cases_lt (least_position s all) k) [
        | inl below ↦ (let e = rw (lt-ltb (least_position s all) k below) at unknown in cc)
        | inr above ↦ (let b = before in omega arith)
      ]

pub Walks-known : {S H : Type 0} → (f : List ℕ) (s : Scalar) (old new : Plan S H) (n : ℕ) → number_seen f old s ≡ Some n → new.originals ≡ old.originals → new.references ≡ old.references → WalksScalar f 0 s old new n
Walks-known f s old new n seen same_originals same_references = record {
  numbered = λ all k stands ready.
      let known = known-before s all k stands n (sym (ready.known s) ∙ seen) in
      let is = number_is s all k stands in
      let e : n ≡ number_in all k = known.1 ∙ sym is in
      ap (λ m. m ∷ []) e;
  adds = λ all k stands ready.
      let known = known-before s all k stands n (sym (ready.known s) ∙ seen) in
      let at = here s all k stands in
      let below = known.0 in
      let apart : (q : Scalar) → least_position q all ≡ k → ⊥ =
      λ q e. let same = same_scalar s all k stands q e in let e2 : least_position s all ≡ k = rw same at e in omega arith in
      let later : least_position s all ≡ k → ⊥ = λ (e : least_position s all ≡ k). omega arith in
      let nothing : Grows f 0 old new [] = record {
        originals = [];
        references = [];
        originals_added = rw same_originals (sym (append-nil _));
        references_added = rw same_references (sym (append-nil _));
        stand_for = refl;
      } in
      record {
        ready = rw add-one (record {
          known = λ q. ap (λ originals. number_from f 0 originals.items q) same_originals ∙ (ready.known q ∙ sym (known-still all k q (apart q)));
          counted = rw same_originals (ready.counted ∙ sym (count-shared all k (scalar s) at.0 at.1 below));
        });
        grows = rw (ne_eqb (least_position s all) k later) nothing;
      };
}

-- a new scalar, which is added last
pub Walks-new : {S H : Type 0} → (f : List ℕ) (s : Scalar) (i : ℕ) (old new : Plan S H) (n : ℕ) → Holds f i (holds_scalar s) → number_seen f old s ≡ None → n ≡ length old.originals.items → new.originals.items ≡ old.originals.items ++ (i ∷ []) → new.references.items ≡ old.references.items → WalksScalar f 0 s old new n
Walks-new f s i old new n holds unknown last added same_references =
    let long : length new.originals.items ≡ suc (length old.originals.items) = ap length added ∙ length-append old.originals.items (i ∷ []) ∙ add-one _ in
    record {
      numbered = λ all k stands ready.
          let first = unknown-first s all k stands (sym (ready.known s) ∙ unknown) in
          let is = number_is s all k stands in
          let e : n ≡ number_in all k = last ∙ ready.counted ∙ ap (λ m. count_below m (kept_positions all)) (sym first) ∙ sym is in
          ap (λ m. m ∷ []) e;
      adds = λ all k stands ready.
          let first = unknown-first s all k stands (sym (ready.known s) ∙ unknown) in
          let at = here s all k stands in
          let number : length old.originals.items ≡ count_below k (kept_positions all) = ready.counted in
          let knows : (q : Scalar) → number_seen f new q ≡ cond (scalar_eq s q) (Some (length old.originals.items)) (number_seen f old q) = seen-added f i old new added s holds unknown in
          let now : (q : Scalar) → number_seen f new q ≡ number_known all (suc k) q =
          λ q. elim (cases_Bool (scalar_eq s q)) [
            | inl same ↦ (let e : s ≡ q = (scalar_eq-Decides s q).0 same in let firstq : least_position q all ≡ k = ap (λ x. least_position x all) (sym e) ∙ first in knows q ∙ rw same (ap Some number) ∙ sym (known-now all k q firstq))
            | inr other ↦ knows q ∙ rw other (ready.known q) ∙ sym (known-still all k q (λ e. let same = same_scalar s all k stands q e in let yes = (scalar_eq-Decides s q).1 (sym same) in true≢false (sym yes ∙ other)))
          ] in
          record {
            ready = rw add-one (record {
              known = now;
              counted = long ∙ ap suc ready.counted ∙ sym (count-kept all k (scalar s) at.0 at.1 first);
            });
            grows = rw (eq-eqb (least_position s all) k first) (Grows-scalar f 0 i old new s holds added (rw same_references refl));
          };
    }

pub Walks-item : {S H : Type 0} → (f : List ℕ) (front : ℕ) (v : Plist) (vs : Items) (old mid new : Plan S H) (n : ℕ) (ns : List ℕ) → WalksTree f front v old mid n → WalksItems f front vs mid new ns → WalksItems f front (item v vs) old new (n ∷ ns)
Walks-item f front v vs old mid new n ns x y =
    Walks-append f front (preorder v) (preorder_items vs) (λ k. k ∷ []) (λ k. item_positions k vs) (λ k. item_positions k (item v vs)) old mid new (n ∷ []) ns (λ k. ap (λ m. k ∷ item_positions (k + m) vs) (sym (length-preorder v))) x y

-- a walk from the empty plan adds the objects of the whole tree
pub Walks-whole : {S H : Type 0} → (f : List ℕ) (v : Plist) (empty done : Plan S H) (n : ℕ) → IsEmptyPlan empty → WalksTree f 0 v empty done n → StandFor f done.originals.items done.references.items (found_in (preorder v) 0 (preorder v))
Walks-whole f v empty done n nothing walks =
    let all = preorder v in
    let start : IsReadyAt f all 0 empty = record {
      known = λ q. ap (λ originals. number_from f 0 originals q) nothing.none ∙ rw (le-ltb (least_position q all) 0 (omega arith)) refl;
      counted = ap length nothing.none ∙ sym (count_below-none all all 0 0 (omega arith));
    } in
    let adds = walks.adds all 0 (OccursAt-all all) start in
    let grows = adds.grows in
    let originals : done.originals.items ≡ grows.originals = grows.originals_added ∙ ap (λ os. os ++ grows.originals) nothing.none in
    let references : done.references.items ≡ grows.references = grows.references_added ∙ ap (λ rs. rs ++ grows.references) nothing.no_references in
    rw (originals, references) grows.stand_for
