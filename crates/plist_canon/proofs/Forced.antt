-- The rules determine a value, and the numbers of its positions.
use Rattle.std.proofs.Common.{◌≡◌, ℕ, suc, ◌+◌, ◌<◌, ◌≤◌, ltb, List, [], ◌∷◌, length, get_or, refl, sym, ap, subst, ◌∙◌, inl, inr, arith, lt-ltb}
use Rattle.std.proofs.lemmas.Bool.{cond_both, cases_lt, ltb-true}
use Rattle.plist_value.specs.Plist.{Scalar, Plist, scalar, list, table, AreOctets, IsPlist}
use Rattle.plist_value.specs.Limits.{Fits}
use Rattle.plist_object.specs.Layout.{trailer_of}
use Rattle.plist_object.specs.Objects.{holds_scalar}
use Rattle.plist_object.specs.Places.{Holds, HoldsScalar}
use Rattle.plist_canon.specs.Rules.{IsNoRepeat, FollowsRules}
use Rattle.plist_canon.proofs.InOrder.{MeetsInOrder, AreBelow-none, meets}
use Rattle.plist_write.specs.Tree.{preorder}
use Rattle.plist_write.specs.Sharing.{least_position, first_position, kept_positions, count_below, value_at}
use Rattle.plist_write.specs.Found.{held_at, number_in}
use Rattle.plist_write.proofs.Numbering.{least_position-le, least_position-holds, first_position-le, first_position-holds, first_position-first, count_below-none}
use Rattle.plist_write.proofs.Counting.{count-kept, count-shared}
use Rattle.plist_write.proofs.Reading.{count_below-le}
use Rattle.plist_canon.proofs.KeptPositions.{is_made, count_below-end}
use Rattle.plist_object.proofs.Uniqueness.{same_held}
use Rattle.plist_canon.proofs.Entries.{AreNumbers, AreNumbers-own, AreNumbers-same, PositionsHold-at}
use Rattle.plist_canon.proofs.WalkTrees.{tree_of_walk, held-walked, Spells-walked}

count_below-monotone : (kept : List (ℕ × Plist)) (m n : ℕ) → m ≤ n → count_below m kept ≤ count_below n kept
count_below-monotone [] m n h = omega arith
count_below-monotone (p ∷ kept) m n h =
    let others = count_below-monotone kept m n h in
    cond_both (ltb p.0 m) (suc (count_below m kept)) (count_below m kept) (λ c. c ≤ count_below n (p ∷ kept))
    (λ e. let below = ltb-true p.0 m e in rw (lt-ltb p.0 n (omega arith)) (omega arith))
    (λ _. cond_both (ltb p.0 n) (suc (count_below n kept)) (count_below n kept) (λ c. count_below m kept ≤ c) (λ _. omega arith) (λ _. omega arith))

-- each number below the count is that of an earlier position with an object of its own
made-before : (all : List Plist) (k n : ℕ) → n < count_below k (kept_positions all) → (p : ℕ) × (p < k) × (first_position all p (value_at all p) ≡ p) × (count_below p (kept_positions all) ≡ n)
made-before all k n below =
    let made = is_made all n (omega (arith, count_below-le k (kept_positions all))) in
    let counted : count_below made.position (kept_positions all) ≡ n = ap (λ p. count_below p (kept_positions all)) (sym made.own) ∙ made.number_is in
    elim (cases_lt made.position k) [
      | inl before ↦ (made.position, before, made.own, counted)
      | inr late ↦ absurd (let more = count_below-monotone (kept_positions all) k made.position late in omega (arith, count_below-le k (kept_positions all)))
    ]

-- the number of an earlier position is below the count
number-counted : (all : List Plist) (j k : ℕ) → j < k → k ≤ length all → number_in all j < count_below k (kept_positions all)
number-counted all j k before most =
    let v = value_at all j in
    let first = first_position all j v in
    let at = first_position-holds all j v refl in
    let more = count-kept all first v at (omega (arith, first_position-le all j v refl)) (first_position-first all j v) in
    let rest = count_below-monotone (kept_positions all) (suc first) k (omega (arith, first_position-le all j v refl)) in
    omega (arith, first_position-le all j v refl)

-- a position whose object is a scalar contains that scalar
scalar-stands : (f : List ℕ) (i k : ℕ) (number : ℕ → ℕ) (v : Plist) (s : Scalar) → Holds f i (held_at number k v) → Holds f i (holds_scalar s) → v ≡ scalar s
scalar-stands f i k number (scalar t) s x y = let same = same_held f i (holds_scalar t) (holds_scalar s) x y in cc
scalar-stands f i k number (list vs) s x y = absurd (let same = same_held f i (held_at number k (list vs)) (holds_scalar s) x y in cc)
scalar-stands f i k number (table ps) s x y = absurd (let same = same_held f i (held_at number k (table ps)) (holds_scalar s) x y in cc)

module _ (f : List ℕ) (all : List Plist) (entry : ℕ → ℕ) (holds : (k : ℕ) (v : Plist) → value_at all k ≡ v → k < length all → Holds f (entry k) (held_at entry k v))
    (no_repeat : (i : ℕ) → i < (trailer_of f).count → IsNoRepeat f i) where
  -- the entries of the positions below k are their numbers
  abbrev AreForced : ℕ → Type 0
  AreForced k = (j : ℕ) → j < k → entry j ≡ number_in all j

  one-more : (k : ℕ) → AreForced k → entry k ≡ number_in all k → AreForced (suc k)
  one-more k forced here j below =
      elim (cases_lt j k) [
        | inl before ↦ forced j before
        | inr late ↦ (let at : k ≡ j = omega arith in subst (λ i. entry i ≡ number_in all i) at here)
      ]

  -- a position whose entry is the next number has an object of its own
  own-first : (k : ℕ) (v : Plist) → value_at all k ≡ v → k < length all → AreForced k → entry k ≡ count_below k (kept_positions all) → first_position all k v ≡ k
  own-first k (scalar s) at below forced next =
      let first = least_position s all in
      let most = least_position-le s all k at in
      elim (cases_lt first k) [
        | inl before ↦ absurd (let earlier = forced first before in
            let counted = number-counted all first k before (omega arith) in
            let here = holds k (scalar s) at below in
            let there = holds first (scalar s) (least_position-holds s all k at) (omega arith) in
            no_repeat (entry k) here.listed s here.reads (entry first) (omega arith) there.reads)
        | inr late ↦ omega arith
      ]
  own-first k _ at below forced next = refl

  -- the entry of a visited scalar is the number of its first position, which is earlier
  seen-first : (k : ℕ) → k < length all → AreForced k → entry k < count_below k (kept_positions all) → HoldsScalar f (entry k) → (first_position all k (value_at all k) < k) × (entry k ≡ number_in all k)
  seen-first k below forced seen held =
      let s = held.0 in
      let p = made-before all k (entry k) seen in
      let numbered : entry p.0 ≡ entry k = forced p.0 p.1 ∙ ap (λ n. count_below n (kept_positions all)) p.2 ∙ p.3 in
      let here = scalar-stands f (entry k) k entry (value_at all k) s (holds k (value_at all k) refl below) held.1 in
      let there = scalar-stands f (entry p.0) p.0 entry (value_at all p.0) s (holds p.0 (value_at all p.0) refl (omega (arith, p.1))) (subst (λ n. Holds f n (holds_scalar s)) (sym numbered) held.1) in
      let first : first_position all k (value_at all k) ≡ p.0 = ap (first_position all k) here ∙ ap (first_position all p.0) (sym there) ∙ p.2 in
      (omega (arith, p.1), sym (ap (λ n. count_below n (kept_positions all)) first ∙ p.3))

  -- if the entries visit the objects in order, each is the number of its position, and in the end all
  -- objects are visited
  forced-numbers : (entries : List ℕ) (k seen after : ℕ) → k + length entries ≡ length all → AreNumbers entry k entries → seen ≡ count_below k (kept_positions all) → AreForced k → MeetsInOrder f seen entries after → AreForced (length all) × (after ≡ length (kept_positions all))
  forced-numbers [] k seen after long own counted forced order =
      let end : k ≡ length all = omega arith in
      (subst AreForced end forced, sym order ∙ counted ∙ ap (λ n. count_below n (kept_positions all)) end ∙ count_below-end all all 0 (length all) (omega arith))
  forced-numbers (e ∷ entries) k seen after long own counted forced order =
      elim order [
        | inl new ↦ (let here : entry k ≡ count_below k (kept_positions all) = own.0 ∙ new.0 ∙ counted in
            let first = own-first k (value_at all k) refl (omega arith) forced here in
            let more = count-kept all k (value_at all k) refl (omega arith) first in
            let number : entry k ≡ number_in all k = here ∙ ap (λ n. count_below n (kept_positions all)) (sym first) in
            forced-numbers entries (suc k) (suc seen) after (omega arith) own.1 (ap suc counted ∙ sym more) (one-more k forced number) new.1)
        | inr known ↦ (let below : entry k < count_below k (kept_positions all) = omega (arith, own.0, known.0) in
            let first = seen-first k (omega arith) forced below (subst (HoldsScalar f) (sym own.0) known.1) in
            let same = count-shared all k (value_at all k) refl (omega arith) first.0 in
            forced-numbers entries (suc k) seen after (omega arith) own.1 (counted ∙ sym same) (one-more k forced first.1) known.2)
      ]

-- The file has the objects of this value, with its numbers.
pub record ForcedTree (f : List ℕ) : Type 0 where
  pub value : Plist
  pub valid : IsPlist value
  pub fits : Fits value
  pub counted : (trailer_of f).count ≡ length (kept_positions (preorder value))
  pub reads : (k : ℕ) → k < length (preorder value) → Holds f (number_in (preorder value) k) (held_at (number_in (preorder value)) k (value_at (preorder value) k))

-- the rules determine a value and its numbers
pub tree_is_forced : (f : List ℕ) → AreOctets f → FollowsRules f → ForcedTree f
tree_is_forced f octets rules =
    let within = rules.reads_within_limits in
    let numbered = rules.numbered_in_preorder in
    let entries = numbered.entries in
    let tree = tree_of_walk f octets within.read rules.ascending_keys 0 entries numbered.walk in
    let all = preorder tree.value in
    let entry : ℕ → ℕ = λ k. get_or entries k 0 in
    let own = AreNumbers-own entries in
    let none = sym (count_below-none all all 0 0 (omega arith)) in
    let forced = forced-numbers f all entry (held-walked f 0 entries tree) rules.no_repeat entries 0 0 (trailer_of f).count (omega (arith, tree.long)) own none (λ j below. absurd (omega arith)) (meets f [] entries 0 (trailer_of f).count AreBelow-none numbered.order numbered.all) in
    let numbers = AreNumbers-same entry (number_in all) 0 entries (λ j from below. forced.0 j (omega (arith, tree.long))) own in
    record {
      value = tree.value;
      valid = tree.valid;
      fits = within.fits tree.value tree.valid (Spells-walked f 0 entries tree);
      counted = forced.1;
      reads = λ k below. PositionsHold-at f (number_in all) 0 k k all (tree.reads (number_in all) 0 numbers) below (omega arith);
    }
