-- One more object is added.
use Rattle.std.proofs.Common.{◌≡◌, ◌≢◌, ℕ, suc, ◌<◌, ◌≤◌, List, [], ◌∷◌, ◌++◌, length, get_or, refl, sym, ap, subst, ◌∙◌, arith, add-one, length-append, inl, inr}
use Rattle.std.proofs.lemmas.Bool.{cases_lt}
use Rattle.std.proofs.lemmas.List.{get_or_append_left}
use Rattle.std.proofs.Math.Seq.{get_or-append_seam}
use Rattle.plist_value.specs.Plist.{Scalar}
use Rattle.plist_value.specs.declared.scalar_ref.ScalarRef.{ScalarRef}
use Rattle.plist_value.specs.Scalars.{content_of}
use Rattle.plist_object.specs.Objects.{holds_scalar, holds_list, holds_table}
use Rattle.plist_object.specs.Places.{Holds}
use Rattle.plist_object.specs.Views.{held_of, numbers_of}
use Rattle.plist_object.specs.declared.object.Object.{Object}
use Rattle.plist_object.specs.declared.object.Object.TheVariants as shown
use Rattle.plist_write.specs.Bits.{HasBit, bit_of}
use Rattle.plist_write.specs.RepeatFilter.{no_bit, AreSeenAgain, AreAdded, HasAdded, HoldsIt}
use Rattle.plist_write.specs.declared.bits.Bits.{Bits}
use Rattle.plist_write.specs.declared.repeat_filter.RepeatFilterBuilder.{RepeatFilterBuilder}

pub added-nothing : (f : List ℕ) (builder : RepeatFilterBuilder) → builder.bits.items ≡ [] → AreAdded f 0 builder
added-nothing f builder none = record {
  added = ap length none;
  kept = λ k s below. absurd (omega (arith, below));
  are_scalars = λ k below. absurd (omega (arith, below));
}

module _ (f : List ℕ) (i bit : ℕ) (old new : RepeatFilterBuilder) (was : AreAdded f i old) (pushed : new.bits.items ≡ old.bits.items ++ (bit ∷ [])) (same_mask : new.mask ≡ old.mask) (same_seed : new.seed ≡ old.seed) where
  long : length new.bits.items ≡ suc i
  long = ap length pushed ∙ length-append old.bits.items (bit ∷ []) ∙ add-one (length old.bits.items) ∙ ap suc was.added

  before : (k : ℕ) → k < i → get_or new.bits.items k 0 ≡ get_or old.bits.items k 0
  before k below =
      ap (λ bits. get_or bits k 0) pushed ∙ get_or_append_left old.bits.items (bit ∷ []) 0 k (omega (arith, below, was.added))

  last : get_or new.bits.items i 0 ≡ bit
  last =
      ap (λ bits. get_or bits i 0) pushed ∙ ap (λ n. get_or (old.bits.items ++ (bit ∷ [])) n 0) (sym was.added) ∙ get_or-append_seam old.bits.items bit [] 0

  alike : (s : Scalar) → bit_of old.mask old.seed s ≡ bit_of new.mask new.seed s
  alike s = rw (same_mask, same_seed) refl

  -- an object that contains no scalar
  pub added-none : bit ≡ no_bit → ((s : Scalar) → HoldsIt f i s → ⊥) → AreAdded f (suc i) new
  added-none is_none none = record {
    added = long;
    kept = λ k s below holds. elim (cases_lt k i) [
      | inl earlier ↦ before k earlier ∙ was.kept k s earlier holds ∙ alike s
      | inr late ↦ absurd (let is : k ≡ i = omega (arith, late, below) in none s (subst (λ (j : ℕ). HoldsIt f j s) is holds))
    ];
    are_scalars = λ k below some. elim (cases_lt k i) [
      | inl earlier ↦ was.are_scalars k earlier (λ none. some (before k earlier ∙ none))
      | inr late ↦ absurd (let is : k ≡ i = omega (arith, late, below) in some (ap (λ j. get_or new.bits.items j 0) is ∙ last ∙ is_none))
    ];
  }

  -- an object that contains a scalar
  module _ (r : ScalarRef) (holds : HoldsIt f i (content_of r)) (is_bit : bit ≡ bit_of old.mask old.seed (content_of r)) where
    abbrev s : Scalar
    s = content_of r

    one : (k : ℕ) (t : Scalar) → i ≤ k → k < suc i → HoldsIt f k t → (k ≡ i) × (t ≡ s)
    one k t late below reads =
        let is : k ≡ i = omega (arith, late, below) in
        let here = subst (λ (j : ℕ). HoldsIt f j t) is reads in
        let same : holds_scalar t ≡ holds_scalar s = cc in
        (is, (cc))

    pub added-scalar : AreAdded f (suc i) new
    added-scalar = record {
      added = long;
      kept = λ k t below reads. elim (cases_lt k i) [
        | inl earlier ↦ before k earlier ∙ was.kept k t earlier reads ∙ alike t
        | inr late ↦ (let e = one k t late below reads in ap (λ j. get_or new.bits.items j 0) e.0 ∙ last ∙ is_bit ∙ alike s ∙ ap (bit_of new.mask new.seed) (sym e.1))
      ];
      are_scalars = λ k below some. elim (cases_lt k i) [
        | inl earlier ↦ was.are_scalars k earlier (λ none. some (before k earlier ∙ none))
        | inr late ↦ (let is : i ≡ k = omega (arith, late, below) in (r, subst (λ (j : ℕ). HoldsIt f j s) is holds))
      ];
    }

-- what the bits show about the added objects
pub added-filter : (f : List ℕ) (i : ℕ) (builder : RepeatFilterBuilder) (again : Bits) → AreAdded f i builder → AreSeenAgain (length builder.bits.items) builder.bits.items again → HasAdded f i (record { bits = builder.bits; again = again })
added-filter f i builder again notes_are seen = record {
  added = notes_are.added;
  again = λ j k s apart below first second. (
      let bits = builder.bits.items in
      let bit = bit_of builder.mask builder.seed s in
      let some : bit ≢ no_bit = (λ none. absurd (omega (arith, none))) in
      let at_j : get_or bits j 0 ≡ bit = notes_are.kept j s (omega (arith, apart, below)) first in
      let at_k : get_or bits k 0 ≡ bit = notes_are.kept k s below second in
      let has : HasBit again (get_or bits k 0) = seen j k apart (omega (arith, below, notes_are.added)) (at_j ∙ sym at_k) in (
        ((λ none. some (sym at_j ∙ none)), subst (HasBit again) (at_k ∙ sym at_j) has),
        ((λ none. some (sym at_k ∙ none)), has),
      )
      );
  are_scalars = notes_are.are_scalars;
}

-- a container contains no scalar
pub not-held : (f : List ℕ) (i : ℕ) (object : Object) → ((r : ScalarRef) → object ≡ shown.Scalar r → ⊥) → Holds f i (held_of object) → (s : Scalar) → HoldsIt f i s → ⊥
not-held f i (shown.Scalar r) apart holds s reads = apart r refl
not-held f i (shown.List refs) apart holds s reads = (let e : holds_list (numbers_of refs) ≡ holds_scalar s = cc in absurd (cc))
not-held f i (shown.Table keys values) apart holds s reads = (let e : holds_table (numbers_of keys) (numbers_of values) ≡ holds_scalar s = cc in absurd (cc))
