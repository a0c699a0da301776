-- The numbers of scalars, in a list and in a hash map.
use Rattle.std.proofs.Common.{◌≡◌, ℕ, suc, ◌+◌, Bool, Option, cond, true, false, arith, List, [], ◌∷◌, ◌++◌, Some, None, refl, sym, ap, ◌∙◌, inl, inr}
use Rattle.std.specs.Option.{option_or}
use Rattle.std.specs.List.{position_or_len}
use Rattle.std.specs.Map.{lookup, keys_of}
use Rattle.indexmap.specs.IndexMap.{insert_entry, set_value_at}
use Rattle.std.proofs.lemmas.Bool.{true≢false, cases_Bool}
use Rattle.plist_value.specs.Plist.{Scalar}
use Rattle.plist_value.specs.Equality.{scalar_eq}
use Rattle.plist_value.specs.EqualityLaws.{scalar_eq-Decides}
use Rattle.plist_value.specs.Scalars.{content_of}
use Rattle.plist_value.specs.declared.scalar_ref.ScalarRef.{ScalarRef}
use Rattle.plist_write.specs.declared.scalar_numbers.Listed.{Listed}
use Rattle.plist_write.specs.declared.scalar_numbers.ScalarNumbers.{ScalarNumbers}
use Rattle.plist_write.specs.ScalarNumbers.{is_long, number_listed, number_hashed, number_stored, IsLong, IsShort, HasListRoom, AreNumbered, IsUnlisted, EntersScalar}

pub or_none : (o : Option ℕ) → option_or o None ≡ o
or_none None = refl
or_none (Some n) = refl

or_or : (o p q : Option ℕ) → option_or o (option_or p q) ≡ option_or (option_or o p) q
or_or None p q = refl
or_or (Some n) p q = refl

-- the next number, if r is the scalar
abbrev next_of : ScalarRef → ℕ → ScalarRef → Option ℕ
next_of shown next r = cond (scalar_eq (content_of shown) (content_of r)) (Some next) None

is_same : (r q : ScalarRef) → scalar_eq (content_of r) (content_of q) ≡ true → content_of r ≡ content_of q
is_same r q e = (scalar_eq-Decides (content_of r) (content_of q)).0 e

-- equal scalars have the same number
same-hashed : {S H : Type 0} → (known : ScalarNumbers S H) (r q : ScalarRef) → content_of r ≡ content_of q → number_hashed known q ≡ number_hashed known r
same-hashed known r q same = ap (λ s. lookup (λ k. scalar_eq s (content_of k)) known.hashed.entries) (sym same)

same-number : {S H : Type 0} → (known : ScalarNumbers S H) (r q : ScalarRef) → content_of r ≡ content_of q → number_stored known q ≡ number_stored known r
same-number known r q same = ap (λ s. option_or (number_listed known.listed.items s) (lookup (λ k. scalar_eq s (content_of k)) known.hashed.entries)) (sym same)

-- a key that is in the map gets its value back
pub restored : {K : Type 0} → (eq : K → K → Bool) (es : List (K × ℕ)) (k : K) (next n : ℕ) → lookup (eq k) es ≡ Some n → set_value_at (insert_entry eq es k next) (position_or_len (eq k) (keys_of es)) n ≡ es
restored eq [] k next n has = absurd (cc)
restored eq (e ∷ es) k next n has = elim (cases_Bool (eq k e.0)) [
  | inl is ↦ (let one : Some e.1 ≡ Some n = rw is at has in let same : e.1 ≡ n = cc in rw is (ap (λ m. (e.0, m) ∷ es) (sym same)))
  | inr apart ↦ (let more : 1 + position_or_len (eq k) (keys_of es) ≡ suc (position_or_len (eq k) (keys_of es)) = omega arith in rw (apart, more) (ap (λ rest. e ∷ rest) (restored eq es k next n (rw apart at has))))
]

-- a list with one more entry
listed-pushed : (ls : List Listed) (one : Listed) (s : Scalar) → number_listed (ls ++ (one ∷ [])) s ≡ option_or (number_listed ls s) (cond (scalar_eq (content_of one.scalar) s) (Some one.number) None)
listed-pushed [] one s = refl
listed-pushed (l ∷ ls) one s = elim (cases_Bool (scalar_eq (content_of l.scalar) s)) [
  | inl is ↦ rw is refl
  | inr apart ↦ rw apart (listed-pushed ls one s)
]

-- long data equals no scalar that is not
differ : (r q : ScalarRef) → (is_long (content_of r) ≡ is_long (content_of q) → ⊥) → scalar_eq (content_of r) (content_of q) ≡ false
differ r q other = elim (cases_Bool (scalar_eq (content_of r) (content_of q))) [
  | inl same ↦ absurd (other (ap is_long (is_same r q same)))
  | inr apart ↦ apart
]

short_long : (r q : ScalarRef) → IsShort r → IsLong q → scalar_eq (content_of r) (content_of q) ≡ false
short_long r q short long = differ r q (λ e. true≢false (sym long ∙ sym e ∙ short))

long_short : (r q : ScalarRef) → IsLong r → IsShort q → scalar_eq (content_of r) (content_of q) ≡ false
long_short r q long short = differ r q (λ e. true≢false (sym long ∙ e ∙ short))

-- long data that was added to the list
module _ {S H : Type 0} (shown : ScalarRef) (next : ℕ) (old new : ScalarNumbers S H) (numbered : AreNumbered old) (long : IsLong shown) (missed : number_listed old.listed.items (content_of shown) ≡ None) (room : HasListRoom old) (same_hashed : new.hashed ≡ old.hashed) (pushed : new.listed.items ≡ old.listed.items ++ (record { scalar = shown; number = next } ∷ [])) where
  listed_now : (r : ScalarRef) → number_listed new.listed.items (content_of r) ≡ option_or (number_listed old.listed.items (content_of r)) (next_of shown next r)
  listed_now r = rw pushed (listed-pushed old.listed.items (record { scalar = shown; number = next }) (content_of r))

  hashed_still : (r : ScalarRef) → number_hashed new r ≡ number_hashed old r
  hashed_still r = rw same_hashed refl

  none_hashed : number_hashed old shown ≡ None
  none_hashed = numbered.long_listed room shown long

  unknown : number_stored old shown ≡ None
  unknown = rw missed none_hashed

  pub enters-pushed : EntersScalar shown next old new None
  enters-pushed = record {
    numbered = record {
      short_hashed = λ r short. listed_now r ∙ rw (numbered.short_hashed r short, long_short shown r long short) refl;
      long_listed = λ still r far. hashed_still r ∙ numbered.long_listed room r far;
    };
    had_is = sym unknown;
    each = λ r. elim (cases_Bool (scalar_eq (content_of shown) (content_of r))) [
      | inl same ↦ (let not_listed : number_listed old.listed.items (content_of r) ≡ None = rw (is_same shown r same) at missed in let not_hashed : number_hashed old r ≡ None = same-hashed old shown r (is_same shown r same) ∙ none_hashed in rw (listed_now r, not_listed, not_hashed, same) refl)
      | inr apart ↦ rw (listed_now r, hashed_still r, apart, or_none (number_listed old.listed.items (content_of r)), or_none (number_stored old r)) refl
    ];
  }

-- a scalar that is not in the list is looked up in the hash map
module _ {S H : Type 0} (shown : ScalarRef) (next : ℕ) (old new : ScalarNumbers S H) (unlisted : IsUnlisted old shown) (same_listed : new.listed ≡ old.listed) where
  listed_still : (r : ScalarRef) → number_listed new.listed.items (content_of r) ≡ number_listed old.listed.items (content_of r)
  listed_still r = rw same_listed refl

  -- the hash map has one more entry, if the scalar had none
  module _ (had : Option ℕ) (had_is : had ≡ number_hashed old shown) (hashed_now : (r : ScalarRef) → number_hashed new r ≡ option_or (number_hashed old r) (next_of shown next r)) where
    pub enters-hashed : EntersScalar shown next old new had
    enters-hashed =
        let numbered = unlisted.numbered in
        record {
          numbered = record {
            short_hashed = λ r short. rw same_listed (numbered.short_hashed r short);
            long_listed = λ room r long. hashed_now r ∙ rw (short_long shown r (unlisted.refused (rw same_listed at room)) long, or_none (number_hashed old r)) (numbered.long_listed (rw same_listed at room) r long);
          };
          had_is = rw unlisted.missed had_is;
          each = λ r. rw (listed_still r, hashed_now r) (or_or (number_listed old.listed.items (content_of r)) (number_hashed old r) (next_of shown next r));
        }

  -- the scalar is in the hash map, which is unchanged
  pub enters-known : (n : ℕ) → Some n ≡ number_hashed old shown → ((r : ScalarRef) → number_hashed new r ≡ number_hashed old r) → EntersScalar shown next old new (Some n)
  enters-known n had still = enters-hashed (Some n) had (λ r. elim (cases_Bool (scalar_eq (content_of shown) (content_of r))) [
    | inl same ↦ (let one : number_hashed old r ≡ Some n = same-hashed old shown r (is_same shown r same) ∙ sym had in still r ∙ rw one refl)
    | inr apart ↦ still r ∙ rw apart (sym (or_none (number_hashed old r)))
  ])

  -- the scalar is added to the hash map
  pub enters-added : None ≡ number_hashed old shown → ((r : ScalarRef) → number_hashed new r ≡ cond (scalar_eq (content_of shown) (content_of r)) (Some next) (number_hashed old r)) → EntersScalar shown next old new None
  enters-added had now = enters-hashed None had (λ r. elim (cases_Bool (scalar_eq (content_of shown) (content_of r))) [
    | inl same ↦ (let one : number_hashed old r ≡ None = same-hashed old shown r (is_same shown r same) ∙ sym had in now r ∙ rw (one, same) refl)
    | inr apart ↦ now r ∙ rw apart (sym (or_none (number_hashed old r)))
  ])

-- a scalar that has a number
module _ {S H : Type 0} (shown : ScalarRef) (next n : ℕ) (old new : ScalarNumbers S H) (enters : EntersScalar shown next old new (Some n)) where
  pub entered-had : number_stored old shown ≡ Some n
  entered-had = sym enters.had_is

  pub entered-kept : (r : ScalarRef) → number_stored new r ≡ number_stored old r
  entered-kept r = elim (cases_Bool (scalar_eq (content_of shown) (content_of r))) [
    | inl same ↦ (let had : number_stored old r ≡ Some n = same-number old shown r (is_same shown r same) ∙ entered-had in enters.each r ∙ rw had refl)
    | inr apart ↦ enters.each r ∙ rw apart (or_none (number_stored old r))
  ]

-- a scalar that has no number
module _ {S H : Type 0} (shown : ScalarRef) (next : ℕ) (old new : ScalarNumbers S H) (enters : EntersScalar shown next old new None) where
  pub entered-unknown : number_stored old shown ≡ None
  entered-unknown = sym enters.had_is

  pub entered-added : (r : ScalarRef) → number_stored new r ≡ cond (scalar_eq (content_of shown) (content_of r)) (Some next) (number_stored old r)
  entered-added r = elim (cases_Bool (scalar_eq (content_of shown) (content_of r))) [
    | inl same ↦ (let had : number_stored old r ≡ None = same-number old shown r (is_same shown r same) ∙ entered-unknown in enters.each r ∙ rw (had, same) refl)
    | inr apart ↦ enters.each r ∙ rw apart (or_none (number_stored old r))
  ]
