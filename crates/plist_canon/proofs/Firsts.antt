-- Which broken rule is reported first.
use Rattle.std.proofs.Common.{◌≡◌, ◌-◌, ◌<◌, ℕ, zero, suc, Ok, Err, Result, sym, subst, ◌∙◌, List, inl, inr, arith}
use Rattle.std.specs.Prelude.{◌≢◌, IfErr, IsErrAnd, IsOk, nat_lt, true, false}
use Rattle.std.proofs.lemmas.Result.{err_from_is_err_and}
use Rattle.std.proofs.lemmas.Bool.{true≢false, cases_Bool}
use Rattle.std.proofs.lemmas.Bool.Decides.{nat_tests}
use Rattle.plist_object.specs.declared.object.ObjectFault.{ObjectFault}
use Rattle.plist_object.specs.Places.{span_of}
use Rattle.plist_canon.specs.Rules.{Adjoins, Each, IsNoRepeat}
use Rattle.plist_canon.specs.Checking.{Follows, IsChecked, IsEndBefore, earlier}
use Rattle.plist_canon.specs.First.{HoldsUpTo, IsFirstBroken, IsFirstFlaw, IsFirstRepeat, IsFlawAt, IsObjectsFlaw, IsRepeatAt, IsReportedFlaw, IsWalkFlaw, KeepsRules, KeepsTrailerRules, at_limits, at_object, at_table, at_walk, out_of_place}
use Rattle.plist_canon.specs.declared.object_rules.Flaw.{Flaw}
use Rattle.plist_canon.specs.declared.object_rules.Flaw.TheVariants.{Broken, NoMemory}
use Rattle.plist_canon.specs.declared.rule.Rule.{Rule}
use Rattle.plist_canon.proofs.Checks.{same_span}

-- the flaw of a callee is returned unchanged
pub passed_on : {T : Type 0} (P : Flaw → Type 0) (flaw : Flaw) (r : Result T Flaw) → IsErrAnd r (λ y. y ≡ flaw) → P flaw → IfErr r P
passed_on P flaw r h p = let e = err_from_is_err_and r h in rw (e.1, e.2) p

pub no_span : (f : List ℕ) (i : ℕ) (fault : ObjectFault) → span_of f i ≡ Err fault → ¬ IsOk (span_of f i)
no_span f i fault fails spans = true≢false (sym (subst (λ (span : Result (ℕ × ℕ) ObjectFault). IsOk span) fails spans))

same_end : (f : List ℕ) (i first second : ℕ) → IsEndBefore f i first → IsEndBefore f i second → first ≡ second
same_end f zero first second is also = is ∙ sym also
same_end f (suc i) first second is also = (same_span f i is.0 first also.0 second is.1 also.1).1

-- an object that begins elsewhere does not follow its predecessor
pub not-Follows : (f : List ℕ) (i offset start end : ℕ) → IsEndBefore f i offset → span_of f i ≡ Ok (start, end) → start ≢ offset → ¬ Follows f i
not-Follows f i offset start end before span other follows =
    other ((same_span f i start end follows.offset follows.end span follows.span).0 ∙ sym (same_end f i offset follows.offset before follows.before))

-- the rules about the objects before `end` hold, but for repeated scalars
abbrev pub AreCheckedBefore : List ℕ → ℕ → Type 0
AreCheckedBefore f end = (j : ℕ) → j < end → IsChecked f j

-- a repeat at the object that is looked at is the first
pub repeat_first : (f : List ℕ) (i end : ℕ) (flaw : Flaw) → i < end → ((j : ℕ) → j < i → IsNoRepeat f j) → IsRepeatAt i flaw → IsFirstRepeat f end flaw
repeat_first f i end NoMemory within single at = tt
repeat_first f i end (Broken rule object) within single at =
    (at.0, subst (λ (n : ℕ). n < end) (sym at.1) within, λ j below. single j (subst (λ (n : ℕ). j < n) at.1 below))

repeated : (f : List ℕ) (end : ℕ) (rule : Rule) (object : ℕ) → AreCheckedBefore f end → IsFirstRepeat f end (Broken rule object) → IsFirstBroken rule f object
repeated f end rule object checked first = subst (λ (r : Rule). IsFirstBroken r f object) (sym first.0) (record {
  before = λ j below. record { checked = checked j (let within = first.1 in omega (arith, below, within)); single = first.2 j below };
  own = checked object first.1;
})

pub repeat_flaw : (f : List ℕ) (end : ℕ) (flaw : Flaw) → AreCheckedBefore f end → IsFirstRepeat f end flaw → IsFirstFlaw f flaw
repeat_flaw f end NoMemory checked first = tt
repeat_flaw f end (Broken rule object) checked first = inl (repeated f end rule object checked first)

here : (f : List ℕ) (i : ℕ) (rule : Rule) (object : ℕ) → ((j : ℕ) → j < i → KeepsRules f j) → object ≡ i → HoldsUpTo rule f i → IsFirstBroken rule f object
here f i rule object before is own = record {
  before = λ j below. before j (subst (λ (n : ℕ). j < n) is below);
  own = subst (HoldsUpTo rule f) (sym is) own;
}

-- a flaw is the first if no object before it repeats a scalar
pub alone_first : (f : List ℕ) (i : ℕ) (flaw : Flaw) → ((j : ℕ) → j < i → KeepsRules f j) → IsFlawAt f i flaw → IsFirstFlaw f flaw
alone_first f i NoMemory before at = tt
alone_first f i (Broken rule object) before (inl own) = inl (here f i rule object before own.0 own.1)
alone_first f i (Broken rule object) before (inr misplaced) = inr misplaced

-- else the repeat is, or the first object out of place before it
pub earlier_first : (f : List ℕ) (i : ℕ) (flaw repeat : Flaw) → AreCheckedBefore f i → IsFlawAt f i flaw → IsFirstRepeat f i repeat → IsFirstFlaw f (earlier flaw repeat)
earlier_first f i NoMemory repeat checked at first = tt
earlier_first f i (Broken rule object) NoMemory checked at first = tt
earlier_first f i (Broken rule object) (Broken other found) checked at first =
    elim (cases_Bool (nat_lt found object)) [
      | inl before ↦ rw before (inl (repeated f i other found checked first))
      | inr after ↦ rw after (elim at [
        | inl own ↦ absurd (not_after f i object found own.0 first.1 after)
        | inr misplaced ↦ inr misplaced
      ])
    ] where
      not_after : (f : List ℕ) (i object found : ℕ) → object ≡ i → found < i → nat_lt found object ≡ false → ⊥
      not_after f i object found is below after = grind (arith, nat_tests)

-- a flaw of the objects is reported, if the rules about the trailer hold
pub objects_reported : (f : List ℕ) (flaw : Flaw) → KeepsTrailerRules f → IsObjectsFlaw f flaw → IsReportedFlaw f flaw
objects_reported f NoMemory trailer flaws = tt
objects_reported f (Broken rule object) trailer (inl (inl first)) = at_object rule object trailer first
objects_reported f (Broken rule object) trailer (inl (inr misplaced)) = out_of_place rule object trailer misplaced
objects_reported f (Broken rule object) trailer (inr table) = rw (table.0.0, table.0.1) (at_table trailer table.1)

-- and one of the walk, if those about the objects hold
pub walk_reported : (f : List ℕ) (flaw : Flaw) → KeepsTrailerRules f → Each KeepsRules f → Each Adjoins f → IsWalkFlaw f flaw → IsReportedFlaw f flaw
walk_reported f NoMemory trailer each adjoin walk = tt
walk_reported f (Broken rule object) trailer each adjoin (inl preorder) = rw preorder (at_walk object trailer each adjoin)
walk_reported f (Broken rule object) trailer each adjoin (inr limits) = rw (limits.0, limits.1) (at_limits trailer each adjoin limits.2)
