-- The numbers of scalars among the planned objects.
use Rattle.std.proofs.Common.{◌≡◌, ◌⊎◌, ℕ, suc, ◌+◌, List, [], ◌∷◌, ◌++◌, length, Option, Some, None, true, false, cond, refl, sym, ap, ◌∙◌, inl, inr, arith, add-zero}
use Rattle.std.specs.Option.{option_or}
use Rattle.std.proofs.lemmas.Bool.{cases_Bool}
use Rattle.plist_value.specs.Plist.{Scalar}
use Rattle.plist_value.specs.Equality.{scalar_eq}
use Rattle.plist_value.specs.EqualityLaws.{scalar_eq-Decides}
use Rattle.plist_object.specs.Objects.{holds_scalar, holds_list, holds_table}
use Rattle.plist_object.specs.Places.{Holds, what_holds}
use Rattle.plist_write.specs.declared.plan.Plan.{Plan}
use Rattle.plist_write.specs.Plan.{is_held, number_from, number_seen}
use Rattle.plist_write.proofs.Storing.{or_none}

pub cases_Option : (o : Option ℕ) → (o ≡ None) ⊎ ((n : ℕ) × (o ≡ Some n))
cases_Option None = inl refl
cases_Option (Some n) = inr (n, refl)

number_from-more : (f : List ℕ) (n : ℕ) (originals : List ℕ) (i : ℕ) (s : Scalar) → number_from f n (originals ++ (i ∷ [])) s ≡ option_or (number_from f n originals s) (cond (is_held s (what_holds f i)) (Some (n + length originals)) None)
number_from-more f n [] i s = rw add-zero refl
number_from-more f n (x ∷ originals) i s =
    let others = number_from-more f (suc n) originals i s in
    let far : suc n + length originals ≡ n + suc (length originals) = omega arith in
    elim (is_held s (what_holds f x)) as (λ t. cond t (Some n) (number_from f (suc n) (originals ++ (i ∷ [])) s) ≡ option_or (cond t (Some n) (number_from f (suc n) originals s)) (cond (is_held s (what_holds f i)) (Some (n + suc (length originals))) None)) [
      | true ↦ refl
      | false ↦ rw (far) at others
    ]

module _ {S H : Type 0} (f : List ℕ) (i : ℕ) (old new : Plan S H) (added : new.originals.items ≡ old.originals.items ++ (i ∷ [])) where
  seen-more : (s : Scalar) → number_seen f new s ≡ option_or (number_seen f old s) (cond (is_held s (what_holds f i)) (Some (length old.originals.items)) None)
  seen-more s =
      let n = length old.originals.items in
      let from : 0 + n ≡ n = omega arith in
      ap (λ originals. number_from f 0 originals s) added ∙ number_from-more f 0 old.originals.items i s ∙ ap (λ m. option_or (number_seen f old s) (cond (is_held s (what_holds f i)) (Some m) None)) from

  -- an object that does not contain the scalar
  pub seen-beside : (s : Scalar) → is_held s (what_holds f i) ≡ false → number_seen f new s ≡ number_seen f old s
  seen-beside s apart = seen-more s ∙ rw apart (or_none (number_seen f old s))

  pub seen-still : (s : Scalar) (n : ℕ) → number_seen f old s ≡ Some n → number_seen f new s ≡ Some n
  seen-still s n had = seen-more s ∙ rw had refl

  -- an object with a scalar that had no number
  module _ (s : Scalar) (holds : Holds f i (holds_scalar s)) (unknown : number_seen f old s ≡ None) where
    held_is : (q : Scalar) → is_held q (what_holds f i) ≡ scalar_eq s q
    held_is q = ap (is_held q) holds.reads

    pub seen-added : (q : Scalar) → number_seen f new q ≡ cond (scalar_eq s q) (Some (length old.originals.items)) (number_seen f old q)
    seen-added q = elim (cases_Bool (scalar_eq s q)) [
      | inl same ↦ (let is : s ≡ q = (scalar_eq-Decides s q).0 same in let none : number_seen f old q ≡ None = ap (number_seen f old) (sym is) ∙ unknown in seen-more q ∙ rw (held_is q, none, same) refl)
      | inr apart ↦ seen-beside q (held_is q ∙ apart) ∙ rw apart refl
    ]

    pub seen-now : number_seen f new s ≡ Some (length old.originals.items)
    seen-now = seen-added s ∙ rw ((scalar_eq-Decides s s).1 refl) refl

-- a container contains no scalar
pub list-apart : (f : List ℕ) (i : ℕ) (refs : List ℕ) → Holds f i (holds_list refs) → (s : Scalar) → is_held s (what_holds f i) ≡ false
list-apart f i refs holds s = ap (is_held s) holds.reads

pub table-apart : (f : List ℕ) (i : ℕ) (keys values : List ℕ) → Holds f i (holds_table keys values) → (s : Scalar) → is_held s (what_holds f i) ≡ false
table-apart f i keys values holds s = ap (is_held s) holds.reads
