-- Keys that ascend in the order of the file.
use Rattle.std.proofs.Common.{◌≡◌, ℕ, suc, ◌+◌, ◌-◌, ◌<◌, ◌≤◌, List, [], Bool, Option, Some, None, false, true, length, get_or, sym, subst, ◌∙◌, arith, inl, inr}
use Rattle.std.specs.Prelude.{◌↔◌, slice_index, EachIndex, IsTrue}
use Rattle.std.specs.Option.{is_some}
use Rattle.std.specs.declared.cmp.Ordering.TheVariants.{Less}
use Rattle.std.specs.Ordering.{nat_cmp}
use Rattle.std.specs.Cmp.Lexicographic.{slice_cmp}
use Rattle.std.proofs.lemmas.Bool.{cases_lt, true≢false}
use Rattle.plist_value.specs.Plist.{text}
use Rattle.plist_object.specs.Objects.{holds_scalar}
use Rattle.plist_object.specs.Places.{Holds, HoldsText}
use Rattle.plist_keys.specs.Ascending.{AreAscending, AreInOrder, AscendInTurn}
use Rattle.plist_keys.specs.declared.ranks.Ranks.{Ranks}
use Rattle.plist_keys.specs.Ranks.{AreRanks, rank_of, texts_of}
use Rattle.plist_keys.proofs.Ranked.{below_from_ranks, ranks_from_below}
use Rattle.plist_object.proofs.Uniqueness.{same_held}

-- a test that returns false refutes what it tests
pub refuted : (P : Type 0) (b : Bool) → IsTrue b ↔ P → b ≡ false → ¬ P
refuted P b test refused holds = true≢false (sym (test.1 holds) ∙ refused)

-- a property of all numbers below k, and of k
pub below_or_last : (P : ℕ → Type 0) (k : ℕ) → ((j : ℕ) → j < k → P j) → P k → (j : ℕ) → j < k + 1 → P j
below_or_last P k before last j below =
    elim (cases_lt j k) [
      | inl earlier ↦ before j earlier
      | inr late ↦ (let is : k ≡ j = omega arith in subst P is last)
    ]

-- an object contains only one string
pub same_text : (f : List ℕ) (i : ℕ) (units others : List ℕ) → Holds f i (holds_scalar (text units)) → Holds f i (holds_scalar (text others)) → units ≡ others
same_text f i units others a b =
    let e = same_held f i (holds_scalar (text units)) (holds_scalar (text others)) a b in cc

-- one more key that is above those before
pub turns_more : (f keys : List ℕ) (k : ℕ) → 1 ≤ k → ((j : ℕ) → suc j < k → AreInOrder f (slice_index keys j) (slice_index keys (suc j))) → AreInOrder f (slice_index keys (k - 1)) (slice_index keys k) → (j : ℕ) → suc j < k + 1 → AreInOrder f (slice_index keys j) (slice_index keys (suc j))
turns_more f keys k some before last j below =
    elim (cases_lt (suc j) k) [
      | inl earlier ↦ before j earlier
      | inr late ↦ (
          let is : k ≡ suc j = omega arith in
          let one_less : k - 1 ≡ j = omega arith in
          subst (λ (n : ℕ). AreInOrder f (slice_index keys j) (slice_index keys n)) is (subst (λ (n : ℕ). AreInOrder f (slice_index keys n) (slice_index keys k)) one_less last))
    ]

-- two or more keys that ascend are strings
ascending_name : (f keys : List ℕ) → 1 < length keys → AscendInTurn f keys → EachIndex keys (λ k. HoldsText f (slice_index keys k))
ascending_name f keys several ascend k below =
    elim (cases_lt (suc k) (length keys)) [
      | inl before ↦ (let turn = ascend k before in (turn.first, turn.holds_first))
      | inr last ↦ (
          let far : suc (k - 1) ≡ k = omega arith in
          let turn = ascend (k - 1) (omega arith) in
          subst (λ (n : ℕ). HoldsText f (slice_index keys n)) far (turn.second, turn.holds_second))
    ]

-- so are none
pub all-ascending : (f keys : List ℕ) → ¬ (length keys ≡ 1) → AscendInTurn f keys → AreAscending f keys
all-ascending f keys other ascend = record {
  names = λ k below. ascending_name f keys (omega (arith, below, other)) ascend k below;
  ascend = ascend;
}

-- a single key ascends if it is a string
pub one-ascending : (f keys : List ℕ) → length keys ≡ 1 → HoldsText f (slice_index keys 0) ↔ AreAscending f keys
one-ascending f keys one = (
  λ named. record {
    names = λ k below. (let is : 0 ≡ k = omega (arith, below, one) in subst (λ (n : ℕ). HoldsText f (slice_index keys n)) is named);
    ascend = λ k below. absurd (omega (arith, below, one));
  },
  λ ascending. ascending.names 0 (omega (arith, one)),
)

-- What the sort positions of objects say of their strings.

-- an object with a sort position is a string
ranked_text : (f : List ℕ) (ranks : Ranks) (i rank : ℕ) → AreRanks f ranks → rank_of ranks i ≡ Some rank → HoldsText f i
ranked_text f ranks i rank sound is = (get_or (texts_of ranks) rank [], (sound.held i rank is).0)

pub some_ranked : (f : List ℕ) (ranks : Ranks) (i : ℕ) (o : Option ℕ) → AreRanks f ranks → o ≡ rank_of ranks i → true ≡ is_some o → HoldsText f i
some_ranked f ranks i (Some rank) sound is some = ranked_text f ranks i rank sound (sym is)
some_ranked f ranks i None sound is some = absurd (true≢false some)

-- two objects are in order if their sort positions are
pub ranked_in_order : (f : List ℕ) (ranks : Ranks) (i j first second : ℕ) → AreRanks f ranks → rank_of ranks i ≡ Some first → rank_of ranks j ≡ Some second → first < second → AreInOrder f i j
ranked_in_order f ranks i j first second sound lower higher below = record {
  first = get_or (texts_of ranks) first [];
  second = get_or (texts_of ranks) second [];
  holds_first = (sound.held i first lower).0;
  holds_second = (sound.held j second higher).0;
  below = below_from_ranks (texts_of ranks) first second sound.ascending (sound.within j second higher) below;
}

pub in_order_ranked : (f : List ℕ) (ranks : Ranks) (i j first second : ℕ) → AreRanks f ranks → rank_of ranks i ≡ Some first → rank_of ranks j ≡ Some second → AreInOrder f i j → first < second
in_order_ranked f ranks i j first second sound lower higher ordered =
    let one = get_or (texts_of ranks) first [] in
    let other = get_or (texts_of ranks) second [] in
    let same_one : ordered.first ≡ one = same_text f i ordered.first one ordered.holds_first (sound.held i first lower).0 in
    let same_other : ordered.second ≡ other = same_text f j ordered.second other ordered.holds_second (sound.held j second higher).0 in
    let less : slice_cmp nat_cmp one other ≡ Less = rw (← same_one, ← same_other) ordered.below in
    ranks_from_below (texts_of ranks) first second sound.ascending (sound.within i first lower) less
