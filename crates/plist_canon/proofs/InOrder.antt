-- Entries in the order of their numbers.
use Rattle.std.proofs.Common.{◌≡◌, ◌⊎◌, ℕ, suc, ◌<◌, List, [], ◌∷◌, ◌++◌, refl, sym, ap, subst, inl, inr, append_assoc, arith}
use Rattle.std.specs.Prelude.{◌↔◌}
use Rattle.std.specs.List.{Contains}
use Rattle.std.proofs.lemmas.Bool.{cases_lt}
use Rattle.std.proofs.lemmas.List.{append-nil}
use Rattle.std.proofs.lemmas.List.Elements.{Contains-append_left, Contains-push, Contains-push_cases}
use Rattle.plist_object.specs.Places.{HoldsScalar}
use Rattle.plist_canon.specs.Rules.{ComesInOrder}

-- exactly the numbers below `seen` are entries
abbrev pub AreBelow : ℕ → List ℕ → Type 0
AreBelow seen entries = (i : ℕ) → Contains entries i ↔ i < seen

abbrev pub AreInOrder : List ℕ → List ℕ → Type 0
AreInOrder f entries = (before after : List ℕ) (entry : ℕ) → entries ≡ before ++ (entry ∷ after) → ComesInOrder f before entry

-- Each entry is the next number not yet visited, or the number of a scalar already visited. At
-- first exactly the objects below `seen` are visited, in the end those below `after`.
abbrev pub MeetsInOrder : List ℕ → ℕ → List ℕ → ℕ → Type 0
MeetsInOrder f seen [] after = seen ≡ after
MeetsInOrder f seen (entry ∷ entries) after =
    ((entry ≡ seen) × MeetsInOrder f (suc seen) entries after) ⊎ ((entry < seen) × HoldsScalar f entry × MeetsInOrder f seen entries after)

pub AreBelow-none : AreBelow 0 []
AreBelow-none i = (λ among. (let below = among.1 in omega arith), λ below. absurd (omega arith))

not_less : (entries : List ℕ) (m n : ℕ) → AreBelow m entries → AreBelow n entries → ¬ (m < n)
not_less entries m n first second less = let own = (first m).0 ((second m).1 less) in omega arith

pub AreBelow-same : (entries : List ℕ) (m n : ℕ) → AreBelow m entries → AreBelow n entries → m ≡ n
AreBelow-same entries m n first second =
    omega (arith, not_less entries n m second first, not_less entries m n first second)

module _ (entries : List ℕ) (seen : ℕ) (visited : AreBelow seen entries) where
  pub AreBelow-new : AreBelow (suc seen) (entries ++ (seen ∷ []))
  AreBelow-new i = (
    λ among. elim (Contains-push_cases entries seen i among) [
      | inl before ↦ (let below = (visited i).0 before in omega arith)
      | inr is ↦ omega arith
    ],
    λ below. elim (cases_lt i seen) [
      | inl before ↦ Contains-append_left entries (seen ∷ []) i ((visited i).1 before)
      | inr past ↦ (let is : seen ≡ i = omega arith in subst (Contains (entries ++ (seen ∷ []))) is (Contains-push entries seen))
    ],
  )

  pub AreBelow-known : (i : ℕ) → i < seen → AreBelow seen (entries ++ (i ∷ []))
  AreBelow-known i below j = (
    λ among. elim (Contains-push_cases entries i j among) [
      | inl before ↦ (visited j).0 before
      | inr is ↦ omega arith
    ],
    λ less. Contains-append_left entries (i ∷ []) j ((visited j).1 less),
  )

  pub new_or_known : (f : List ℕ) (i : ℕ) → ComesInOrder f entries i → (i ≡ seen) ⊎ ((i < seen) × HoldsScalar f i)
  new_or_known f i (inl new) = inl (AreBelow-same entries i seen new visited)
  new_or_known f i (inr known) = inr ((visited i).0 known.0, known.1)

no_split : (before after : List ℕ) (e : ℕ) → [] ≡ before ++ (e ∷ after) → ⊥
no_split [] after e is = cc
no_split (b ∷ before) after e is = cc

pub AreInOrder-none : (f : List ℕ) → AreInOrder f []
AreInOrder-none f before after e is = absurd (no_split before after e is)

-- one more entry
pub AreInOrder-more : (f entries : List ℕ) (i : ℕ) → AreInOrder f entries → ComesInOrder f entries i → AreInOrder f (entries ++ (i ∷ []))
AreInOrder-more f entries i order last = by_split (ComesInOrder f) entries order last
  where
    by_split : (P : List ℕ → ℕ → Type 0) (xs : List ℕ) → ((before after : List ℕ) (e : ℕ) → xs ≡ before ++ (e ∷ after) → P before e) → P xs i → (before after : List ℕ) (e : ℕ) → xs ++ (i ∷ []) ≡ before ++ (e ∷ after) → P before e
    by_split P [] each at [] after e is = subst (P []) (let same : i ≡ e = cc in same) at
    by_split P [] each at (b ∷ before) after e is = absurd (no_split before after e (let rest : [] ≡ before ++ (e ∷ after) = cc in rest))
    by_split P (x ∷ xs) each at [] after e is = each [] xs e (let first : x ≡ e = cc in ap (λ y. y ∷ xs) first)
    by_split P (x ∷ xs) each at (b ∷ before) after e is =
        let first : x ≡ b = cc in
        let rest : xs ++ (i ∷ []) ≡ before ++ (e ∷ after) = cc in
        by_split (λ ys. P (b ∷ ys)) xs (λ front back d split. each (b ∷ front) back d (cc)) (subst (λ y. P (y ∷ xs) i) first at) before after e rest

-- Entries in order, by the count of objects visited.
pub meets : (f before entries : List ℕ) (seen after : ℕ) → AreBelow seen before → AreInOrder f (before ++ entries) → AreBelow after (before ++ entries) → MeetsInOrder f seen entries after
meets f before [] seen after visited order all =
    AreBelow-same before seen after visited (subst (AreBelow after) (append-nil before) all)
meets f before (e ∷ entries) seen after visited order all =
    let is = sym (append_assoc before (e ∷ []) entries) in
    let order_on : AreInOrder f ((before ++ (e ∷ [])) ++ entries) = subst (AreInOrder f) is order in
    let all_on : AreBelow after ((before ++ (e ∷ [])) ++ entries) = subst (AreBelow after) is all in
    elim (new_or_known before seen visited f e (order before entries e refl)) [
      | inl new ↦ inl (new, meets f (before ++ (e ∷ [])) entries (suc seen) after (subst (λ i. AreBelow (suc seen) (before ++ (i ∷ []))) (sym new) (AreBelow-new before seen visited)) order_on all_on)
      | inr known ↦ inr (known.0, known.1, meets f (before ++ (e ∷ [])) entries seen after (AreBelow-known before seen visited e known.0) order_on all_on)
    ]

pub in_order : (f before entries : List ℕ) (seen after : ℕ) → AreBelow seen before → AreInOrder f before → MeetsInOrder f seen entries after → AreInOrder f (before ++ entries) × AreBelow after (before ++ entries)
in_order f before [] seen after visited order all =
    let is = sym (append-nil before) in
    (subst (AreInOrder f) is order, subst (λ n. AreBelow n (before ++ [])) all (subst (AreBelow seen) is visited))
in_order f before (e ∷ entries) seen after visited order meet =
    subst (λ es. AreInOrder f es × AreBelow after es) (append_assoc before (e ∷ []) entries)
    (elim meet [
      | inl new ↦ (let at : AreBelow e before = subst (λ n. AreBelow n before) (sym new.0) visited in
          in_order f (before ++ (e ∷ [])) entries (suc seen) after (subst (λ n. AreBelow (suc n) (before ++ (e ∷ []))) new.0 (AreBelow-new before e at)) (AreInOrder-more f before e order (inl at)) new.1)
      | inr known ↦ in_order f (before ++ (e ∷ [])) entries seen after (AreBelow-known before seen visited e known.0) (AreInOrder-more f before e order (inr ((visited e).1 known.0, known.1))) known.2
    ])
