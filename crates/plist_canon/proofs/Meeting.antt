-- The scalars seen, after one is entered.
use Rattle.std.proofs.Common.{◌≡◌, ◌⊎◌, ℕ, Option, Bool, cond, true, false, Some, None, refl, sym, ap, ◌∙◌, inl, inr, suc, ◌<◌, List, subst, arith}
use Rattle.std.specs.Option.{is_some, option_or}
use Rattle.std.proofs.lemmas.Bool.{cases_Bool, true≢false, cases_lt}
use Rattle.plist_value.specs.Equality.{scalar_eq}
use Rattle.plist_value.specs.EqualityLaws.{scalar_eq-Decides}
use Rattle.plist_value.specs.Scalars.{content_of}
use Rattle.plist_value.specs.declared.scalar_ref.ScalarRef.{ScalarRef}
use Rattle.plist_write.specs.ScalarNumbers.{number_stored, EntersScalar}
use Rattle.plist_write.specs.declared.scalar_numbers.ScalarNumbers.{ScalarNumbers}
use Rattle.plist_canon.specs.Seen.{was_seen, IsHeldBefore, HasSeen}
use Rattle.plist_value.specs.Plist.{Scalar}
use Rattle.plist_object.specs.Objects.{holds_scalar}
use Rattle.plist_canon.specs.Rules.{IsNoRepeat}
use Rattle.plist_write.specs.RepeatFilter.{HasAdded, HoldsIt, MayRepeat}
use Rattle.plist_write.specs.declared.repeat_filter.RepeatFilter.{RepeatFilter}
use Rattle.plist_write.proofs.RepeatFilters.{earlier_may, later_may}

is_some-or : (had : Option ℕ) (same : Bool) (next : ℕ) → is_some (option_or had (cond same (Some next) None)) ≡ cond same true (is_some had)
is_some-or None true next = refl
is_some-or None false next = refl
is_some-or (Some n) true next = refl
is_some-or (Some n) false next = refl

module _ {S H : Type 0} (s : ScalarRef) (next : ℕ) (old new : ScalarNumbers S H) (had : Option ℕ) (enters : EntersScalar s next old new had) where
  -- scalars equal to the new one are seen now, all others if they were before
  seen-each : (q : ScalarRef) → was_seen new q ≡ cond (scalar_eq (content_of s) (content_of q)) true (was_seen old q)
  seen-each q = ap is_some (enters.each q) ∙ is_some-or (number_stored old q) (scalar_eq (content_of s) (content_of q)) next

  pub seen-had : is_some had ≡ was_seen old s
  seen-had = ap is_some enters.had_is

  pub seen-same : (q : ScalarRef) → content_of s ≡ content_of q → was_seen new q ≡ true
  seen-same q is =
      let found : scalar_eq (content_of s) (content_of q) ≡ true = (scalar_eq-Decides (content_of s) (content_of q)).1 is in seen-each q ∙ rw found refl

  pub seen-other : (q : ScalarRef) → was_seen new q ≡ true → (content_of s ≡ content_of q) ⊎ (was_seen old q ≡ true)
  seen-other q now = elim (cases_Bool (scalar_eq (content_of s) (content_of q))) [
    | inl is ↦ inl ((scalar_eq-Decides (content_of s) (content_of q)).0 is)
    | inr apart ↦ inr (let still : was_seen new q ≡ was_seen old q = seen-each q ∙ rw apart refl in sym still ∙ now)
  ]

  pub seen-kept : (q : ScalarRef) → was_seen old q ≡ true → was_seen new q ≡ true
  seen-kept q before = elim (cases_Bool (scalar_eq (content_of s) (content_of q))) [
    | inl is ↦ seen-each q ∙ rw is refl
    | inr apart ↦ seen-each q ∙ rw apart before
  ]

-- Scalars that may repeat others, and those that cannot.

-- an object contains only one scalar
one_scalar : (f : List ℕ) (i : ℕ) (s t : Scalar) → HoldsIt f i s → HoldsIt f i t → s ≡ t
one_scalar f i s t a b = let e : holds_scalar s ≡ holds_scalar t = cc in cc

held_later : (filter : RepeatFilter) (f : List ℕ) (i : ℕ) (s : Scalar) → IsHeldBefore filter f i s → IsHeldBefore filter f (suc i) s
held_later filter f i s before = (before.0, (omega (arith, before.1.0), before.1.1))

-- entering object i, which may repeat another
module _ {S H : Type 0} (filter : RepeatFilter) (f : List ℕ) (i next : ℕ) (s : ScalarRef) (old new : ScalarNumbers S H) (had : Option ℕ) (may : MayRepeat filter i) (holds : HoldsIt f i (content_of s)) (seen : HasSeen filter f i old) (enters : EntersScalar s next old new had) where
  seen_here : (q : ScalarRef) → HoldsIt f i (content_of q) → was_seen new q ≡ true
  seen_here q reads =
      seen-same s next old new had enters q (one_scalar f i (content_of s) (content_of q) holds reads)

  seen_now : (q : ScalarRef) → IsHeldBefore filter f (suc i) (content_of q) → was_seen new q ≡ true
  seen_now q before = elim (cases_lt before.0 i) [
    | inl earlier ↦ seen-kept s next old new had enters q ((seen.each q).1 (before.0, (earlier, before.1.1)))
    | inr late ↦ (let below = before.1.0 in let is : before.0 ≡ i = omega arith in seen_here q (subst (λ (k : ℕ). HoldsIt f k (content_of q)) is before.1.1.1))
  ]

  pub HasSeen-scalar : HasSeen filter f (suc i) new
  HasSeen-scalar = record {
    numbered = enters.numbered;
    each = λ q. (
      λ now. elim (seen-other s next old new had enters q now) [
        | inl same ↦ (i, (omega arith, (may, subst (λ (t : Scalar). HoldsIt f i t) same holds)))
        | inr before ↦ held_later filter f i (content_of q) ((seen.each q).0 before)
      ],
      seen_now q,
    );
  }

-- an object that is not a scalar, or cannot repeat another, changes nothing
pub HasSeen-past : {S H : Type 0} → (filter : RepeatFilter) (f : List ℕ) (i : ℕ) (scalars : ScalarNumbers S H) → ((s : Scalar) → MayRepeat filter i → HoldsIt f i s → ⊥) → HasSeen filter f i scalars → HasSeen filter f (suc i) scalars
HasSeen-past filter f i scalars none seen = record {
  numbered = seen.numbered;
  each = λ q. (
    λ now. held_later filter f i (content_of q) ((seen.each q).0 now),
    λ before. elim (cases_lt before.0 i) [
      | inl earlier ↦ (seen.each q).1 (before.0, (earlier, before.1.1))
      | inr late ↦ absurd (
          let is : before.0 ≡ i = omega (arith, before.1.0) in
          none (content_of q)
          (subst (MayRepeat filter) is before.1.1.0)
          (subst (λ (k : ℕ). HoldsIt f k (content_of q)) is before.1.1.1))
    ],
  );
}

module _ (f : List ℕ) (n : ℕ) (filter : RepeatFilter) (added : HasAdded f n filter) where
  pub IsNoRepeat-apart : (i : ℕ) → i < n → (MayRepeat filter i → ⊥) → IsNoRepeat f i
  IsNoRepeat-apart i below apart s reads earlier before again =
      apart (later_may f n filter added earlier i s before below again reads)

  pub IsNoRepeat-new : {S H : Type 0} → (i : ℕ) (s : ScalarRef) (scalars : ScalarNumbers S H) → i < n → HoldsIt f i (content_of s) → HasSeen filter f i scalars → was_seen scalars s ≡ false → IsNoRepeat f i
  IsNoRepeat-new i s scalars below holds seen unknown t reads earlier before again =
      let may = earlier_may f n filter added earlier i t before below again reads in
      let is : t ≡ content_of s = one_scalar f i t (content_of s) reads holds in
      let held : HoldsIt f earlier (content_of s) = subst (λ (u : Scalar). HoldsIt f earlier u) is again in
      true≢false (sym ((seen.each s).1 (earlier, (before, (may, held)))) ∙ unknown)

pub not-IsNoRepeat : {S H : Type 0} → (filter : RepeatFilter) (f : List ℕ) (i : ℕ) (s : ScalarRef) (scalars : ScalarNumbers S H) → HoldsIt f i (content_of s) → HasSeen filter f i scalars → was_seen scalars s ≡ true → IsNoRepeat f i → ⊥
not-IsNoRepeat filter f i s scalars holds seen known single =
    let before = (seen.each s).0 known in
    single (content_of s) holds before.0 before.1.0 before.1.1.1
