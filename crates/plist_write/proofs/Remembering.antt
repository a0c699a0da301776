-- What a plan knows of the visited scalars.
use Rattle.std.proofs.Common.{◌≡◌, ◌⊎◌, ℕ, ◌≤◌, false, List, [], ◌∷◌, ◌++◌, length, Some, None, refl, sym, ap, subst, ◌∙◌, inl, inr, arith}
use Rattle.std.proofs.lemmas.Bool.{cases_eq, cases_Bool}
use Rattle.std.proofs.lemmas.List.{append-nil}
use Rattle.plist_value.specs.Plist.{Scalar, Plist, scalar, IsScalar, IsPlist}
use Rattle.plist_value.specs.Equality.{scalar_eq}
use Rattle.plist_value.specs.EqualityLaws.{scalar_eq-Decides}
use Rattle.plist_value.specs.Scalars.{content_of}
use Rattle.plist_value.specs.declared.scalar_ref.ScalarRef.{ScalarRef}
use Rattle.plist_object.specs.Objects.{holds_scalar}
use Rattle.plist_object.specs.Layout.{trailer_of}
use Rattle.plist_object.specs.Places.{Holds, what_holds, object_at, octets_at, place_of}
use Rattle.plist_object.specs.Spelled.{Spells, SpellsWithin}
use Rattle.plist_write.specs.declared.plan.Plan.{Plan}
use Rattle.plist_write.specs.declared.scalar_numbers.ScalarNumbers.{ScalarNumbers}
use Rattle.plist_write.specs.ScalarNumbers.{AreNew, AreNumbered, EntersScalar, number_stored}
use Rattle.plist_write.specs.ObjectNumbers.{no_number, unique, kept, IsNumber, IsNumberAt, IsAlone, IsUnique, KeepsNumber, FindsUnique}
use Rattle.plist_write.specs.Plan.{is_held, number_from, number_seen, IsRemembered, IsSeen, IsUnseen, KnowsScalars, MeetsScalar, IsWalked, AddsObject}
use Rattle.plist_write.proofs.Meeting.{cases_Option, seen-added, seen-beside, seen-now, seen-still}
use Rattle.plist_write.proofs.Storing.{entered-had, entered-unknown, entered-added}
use Rattle.plist_write.proofs.Walking.{Walks-known}
use Rattle.plist_write.proofs.Within.{scalar_seen}

pub valid_at : (f : List ℕ) (i : ℕ) (s : Scalar) (v : Plist) → IsPlist v → Spells f i v → Holds f i (holds_scalar s) → IsScalar s
valid_at f i s v valid spells holds = subst IsPlist (sym (scalar_seen f i s v holds spells)) valid

-- objects at one offset have the same content
same-at-place : (f : List ℕ) (i j : ℕ) → place_of f i ≡ place_of f j → what_holds f j ≡ what_holds f i
unfolding what_holds object_at octets_at
same-at-place f i j same = rw same refl

-- an object whose number is known is walked
pub walked-again : {S H : Type 0} → (f : List ℕ) (i levels : ℕ) (plan : Plan S H) (n : ℕ) → SpellsWithin f i levels → IsRemembered f plan i n → IsWalked f i plan plan n
walked-again f i levels plan n within one =
    let s = one.shown in
    record {
      value = scalar s;
      valid = valid_at f i s within.value within.valid within.spells one.holds;
      spells = one.holds;
      walks = Walks-known f s plan plan n one.seen refl refl;
      references = [];
      references_added = sym (append-nil _);
    }

-- a number in the memo
pub number-remembered : {S H : Type 0} → (f : List ℕ) (plan : Plan S H) (i x : ℕ) → kept plan.memo i ≡ x → IsNumber x → KnowsScalars f plan → IsRemembered f plan i x
number-remembered f plan i x same some knows =
    subst (λ (n : ℕ). IsRemembered f plan i n) same (knows.each i (subst IsNumber (sym same) some))

pub knows-none : {S H : Type 0} → (f : List ℕ) (plan : Plan S H) → plan.originals.items ≡ [] → AreNew plan.scalars → length plan.memo.numbers.items ≡ (trailer_of f).count → ((i : ℕ) → kept plan.memo i ≡ no_number) → KnowsScalars f plan
knows-none f plan none new listed unseen = record {
  listed = listed;
  numbered = new.numbered;
  each = λ i some. absurd (let is = unseen i in omega (arith, some, is));
  singles = λ i e. absurd (let is = unseen i in omega (arith, e, is));
  stored = λ r n has. absurd (let e : None ≡ Some n = sym (new.unknown r) ∙ has in cc);
  seen = λ s n has. absurd (let e : None ≡ Some n = sym (ap (λ originals. number_from f 0 originals s) none) ∙ has in cc);
}

-- an object whose number did not change, in a plan that still knows its scalar
remembered-as : {S H : Type 0} → (f : List ℕ) (old new : Plan S H) (i : ℕ) → kept new.memo i ≡ kept old.memo i → (one : IsRemembered f old i (kept old.memo i)) → (number_seen f old one.shown ≡ Some (kept old.memo i) → number_seen f new one.shown ≡ Some (kept old.memo i)) → IsRemembered f new i (kept new.memo i)
remembered-as f old new i same one still =
    record { shown = one.shown; holds = one.holds; seen = still one.seen ∙ ap Some (sym same) }

-- a scalar whose object kept its number, and whose stored number is still found
seen-as : {S H : Type 0} → (f : List ℕ) (old new : Plan S H) (s : Scalar) (n : ℕ) (one : IsSeen f old s n) → kept new.memo one.object ≡ kept old.memo one.object → ((r : ScalarRef) → number_stored old.scalars r ≡ Some n → number_stored new.scalars r ≡ Some n) → IsSeen f new s n
seen-as f old new s n one same stored = record {
  object = one.object;
  holds = one.holds;
  is_kept = same ∙ one.is_kept;
  some = one.some;
  found = elim one.found [
    | inl all ↦ inl (λ r is. stored r (all r is))
    | inr unique ↦ inr unique
  ];
}

-- a plan whose scalars, with their numbers, did not change, after a search for single objects
knows-searched : {S H : Type 0} → (f : List ℕ) (old new : Plan S H) → ((s : Scalar) → number_seen f new s ≡ number_seen f old s) → new.scalars ≡ old.scalars → FindsUnique f old.memo new.memo → KnowsScalars f old → KnowsScalars f new
knows-searched {S} {H} f old new same same_scalars sifts was =
    let stored : (r : ScalarRef) → number_stored new.scalars r ≡ number_stored old.scalars r = λ r. ap (λ (k : ScalarNumbers S H). number_stored k r) same_scalars in
    record {
      listed = sifts.as_many ∙ was.listed;
      numbered = rw same_scalars was.numbered;
      each = λ j some. elim (sifts.each j) [
        | inl is ↦ remembered-as f old new j is (was.each j (subst IsNumber is some)) (λ seen. same _ ∙ seen)
        | inr marked ↦ absurd (let is = marked.1.0 in omega (arith, is, some))
      ];
      singles = λ j e. elim (sifts.each j) [
        | inl is ↦ was.singles j (sym is ∙ e)
        | inr marked ↦ marked.1.1
      ];
      stored = λ r n has. same (content_of r) ∙ was.stored r n (sym (stored r) ∙ has);
      seen = λ s n has.
          let one = was.seen s n (sym (same s) ∙ has) in
          let still : kept new.memo one.object ≡ kept old.memo one.object = elim (sifts.each one.object) [
            | inl is ↦ is
            | inr marked ↦ absurd (let no = marked.0 in let is = one.is_kept in let some = one.some in omega (arith, no, is, some))
          ] in
          seen-as f old new s n one still (λ r had. stored r ∙ had);
    }

-- a plan whose memo did not change either
knows-as : {S H : Type 0} → (f : List ℕ) (old new : Plan S H) → ((s : Scalar) → number_seen f new s ≡ number_seen f old s) → new.scalars ≡ old.scalars → new.memo ≡ old.memo → KnowsScalars f old → KnowsScalars f new
knows-as f old new same same_scalars same_memo was =
    knows-searched f old new same same_scalars (record { as_many = ap (λ m. length m.numbers.items) same_memo; each = λ i. inl (ap (λ m. kept m i) same_memo) }) was

-- a plan of which only references changed
pub knows-same : {S H : Type 0} → (f : List ℕ) (old new : Plan S H) → new.originals ≡ old.originals → new.scalars ≡ old.scalars → new.memo ≡ old.memo → KnowsScalars f old → KnowsScalars f new
knows-same f old new same_originals same_scalars same_memo was =
    knows-as f old new (λ s. ap (λ originals. number_from f 0 originals.items s) same_originals) same_scalars same_memo was

-- a plan with one more container
pub knows-begun : {S H : Type 0} → (f : List ℕ) (i : ℕ) (refs : List ℕ) (old new : Plan S H) (n : ℕ) → ((s : Scalar) → is_held s (what_holds f i) ≡ false) → AddsObject i refs old new n → KnowsScalars f old → KnowsScalars f new
knows-begun f i refs old new n apart begins was =
    knows-as f old new (λ s. seen-beside f i old new begins.original_added s (apart s)) begins.scalars_kept begins.memo_kept was

-- a plan after the search for single objects
pub unseen-searched : {S H : Type 0} → (f : List ℕ) (i : ℕ) (s : Scalar) (old new : Plan S H) → new.originals ≡ old.originals → new.scalars ≡ old.scalars → FindsUnique f old.memo new.memo → IsUnseen f i s old → IsUnseen f i s new
unseen-searched f i s old new same_originals same_scalars sifts unseen = record {
  holds = unseen.holds;
  unseen = elim (sifts.each i) [
    | inl is ↦ subst (λ (n : ℕ). unique ≤ n) (sym is) unseen.unseen
    | inr marked ↦ (let is = marked.1.0 in omega (arith, is))
  ];
  knows = knows-searched f old new (λ q. ap (λ originals. number_from f 0 originals.items q) same_originals) same_scalars sifts unseen.knows;
}

-- a scalar with a number that another object at the same offset has
pub seen-at-place : {S H : Type 0} → (f : List ℕ) (i : ℕ) (s : Scalar) (plan : Plan S H) (n : ℕ) → IsUnseen f i s plan → IsNumberAt f i plan.memo n → number_seen f plan s ≡ Some n
seen-at-place f i s plan n unseen at =
    let one = number-remembered f plan at.first n at.is_kept at.some unseen.knows in
    let same = same-at-place f at.first i at.at_offset in
    let shown : one.shown ≡ s = cc (same, one.holds.reads, unseen.holds.reads) in
    subst (λ (t : Scalar). number_seen f plan t ≡ Some n) shown one.seen

-- the scalar of an object that was not visited
module _ {S H : Type 0} (f : List ℕ) (i : ℕ) (r : ScalarRef) (old : Plan S H) (unseen : IsUnseen f i (content_of r) old) where
  abbrev s : Scalar
  s = content_of r

  apart_here : (q : Scalar) (n : ℕ) (one : IsSeen f old q n) → one.object ≡ i → ⊥
  apart_here q n one e =
      let is : kept old.memo i ≡ n = ap (kept old.memo) (sym e) ∙ one.is_kept in
      let some = one.some in
      let none = unseen.unseen in
      omega (arith, is, some, none)

  pub had-seen : (next n : ℕ) (scalars : ScalarNumbers S H) → EntersScalar r next old.scalars scalars (Some n) → number_seen f old s ≡ Some n
  had-seen next n scalars enters =
      unseen.knows.stored r n (entered-had r next n old.scalars scalars enters)

  -- a scalar was not visited if only one object contains it, or if it is not in the set
  unseen-single : IsAlone f i → number_seen f old s ≡ None
  unseen-single unique = elim (cases_Option (number_seen f old s)) [
    | inl none ↦ none
    | inr some ↦ absurd (let one = unseen.knows.seen s some.0 some.1 in apart_here s some.0 one (unique s one.object unseen.holds one.holds))
  ]

  unseen-entered : (next : ℕ) (scalars : ScalarNumbers S H) → EntersScalar r next old.scalars scalars None → number_seen f old s ≡ None
  unseen-entered next scalars enters = elim (cases_Option (number_seen f old s)) [
    | inl none ↦ none
    | inr some ↦ absurd (let one = unseen.knows.seen s some.0 some.1 in elim one.found [
      | inl all ↦ (let e : None ≡ Some some.0 = sym (entered-unknown r next old.scalars scalars enters) ∙ all r refl in absurd (cc))
      | inr unique ↦ apart_here s some.0 one (sym (unique s i one.holds unseen.holds))
    ])
  ]

  abbrev Entered : ℕ → ScalarNumbers S H → Type 0
  Entered n scalars = EntersScalar r n old.scalars scalars None ⊎ ((scalars ≡ old.scalars) × IsAlone f i)

  pub new-seen : (n : ℕ) (scalars : ScalarNumbers S H) → Entered n scalars → number_seen f old s ≡ None
  new-seen n scalars entered = elim entered [
    | inl enters ↦ unseen-entered n scalars enters
    | inr alone ↦ unseen-single alone.1
  ]

  -- what was entered, for a scalar that was visited and for one that was not
  pub had-entered : (next n : ℕ) (scalars : ScalarNumbers S H) → MeetsScalar old.memo i r next old.scalars scalars (Some n) → EntersScalar r next old.scalars scalars (Some n)
  had-entered next n scalars meets = elim meets [
    | inl enters ↦ enters unseen.knows.numbered
    | inr alone ↦ absurd (let e : Some n ≡ None = alone.0 in cc)
  ]

  pub new-entered : (n : ℕ) (scalars : ScalarNumbers S H) → MeetsScalar old.memo i r n old.scalars scalars None → Entered n scalars
  new-entered n scalars meets = elim meets [
    | inl enters ↦ inl (enters unseen.knows.numbered)
    | inr alone ↦ inr (alone.1.0, (unseen.knows.singles i alone.1.1).1)
  ]

  module _ (n : ℕ) (new : Plan S H) (some : IsNumber n) (keeps : KeepsNumber i n old.memo new.memo) where
    here : kept new.memo i ≡ n
    here = keeps.here (rw unseen.knows.listed unseen.holds.listed)

    beside : (q : Scalar) (m : ℕ) (one : IsSeen f old q m) → kept new.memo one.object ≡ kept old.memo one.object
    beside q m one = keeps.others one.object (apart_here q m one)

    each_now : number_seen f new s ≡ Some n → ((q : Scalar) (m : ℕ) → number_seen f old q ≡ Some m → number_seen f new q ≡ Some m) → (j : ℕ) → IsNumber (kept new.memo j) → IsRemembered f new j (kept new.memo j)
    each_now seen still j number = elim (cases_eq j i) [
      | inl is ↦ record {
        shown = s;
        holds = subst (λ (k : ℕ). Holds f k (holds_scalar s)) (sym is) unseen.holds;
        seen = seen ∙ ap Some (sym (ap (kept new.memo) is ∙ here));
      }
      | inr apart ↦ (let same = keeps.others j apart in remembered-as f old new j same (unseen.knows.each j (subst IsNumber same number)) (still _ _))
    ]

    singles_now : (j : ℕ) → kept new.memo j ≡ unique → IsUnique f j
    singles_now j e = elim (cases_eq j i) [
      | inl is ↦ absurd (let number : n ≡ unique = sym here ∙ ap (kept new.memo) (sym is) ∙ e in omega (arith, number, some))
      | inr apart ↦ unseen.knows.singles j (sym (keeps.others j apart) ∙ e)
    ]

    -- an equal scalar was visited
    pub knows-again : number_seen f old s ≡ Some n → AreNumbered new.scalars → ((q : ScalarRef) → number_stored new.scalars q ≡ number_stored old.scalars q) → new.originals ≡ old.originals → KnowsScalars f new
    knows-again seen numbered stored same_originals =
        let same : (q : Scalar) → number_seen f new q ≡ number_seen f old q = λ q. ap (λ originals. number_from f 0 originals.items q) same_originals in
        record {
          listed = keeps.as_many ∙ unseen.knows.listed;
          singles = singles_now;
          numbered = numbered;
          each = each_now (same s ∙ seen) (λ q m had. same q ∙ had);
          stored = λ q m has. same (content_of q) ∙ unseen.knows.stored q m (sym (stored q) ∙ has);
          seen = λ q m has.
              let one = unseen.knows.seen q m (sym (same q) ∙ has) in
              seen-as f old new q m one (beside q m one) (λ t had. stored t ∙ had);
        }

    -- no equal scalar was visited
    module _ (last : n ≡ length old.originals.items) (added : new.originals.items ≡ old.originals.items ++ (i ∷ [])) (entered : Entered n new.scalars) where
      unknown : number_seen f old s ≡ None
      unknown = new-seen n new.scalars entered

      now : number_seen f new s ≡ Some n
      now = seen-now f i old new added s unseen.holds unknown ∙ ap Some (sym last)

      still : (q : Scalar) (m : ℕ) → number_seen f old q ≡ Some m → number_seen f new q ≡ Some m
      still = seen-still f i old new added

      stored_now : (q : ScalarRef) (m : ℕ) → number_stored new.scalars q ≡ Some m → number_seen f new (content_of q) ≡ Some m
      stored_now q m has = elim entered [
        | inr alone ↦ still (content_of q) m (unseen.knows.stored q m (ap (λ (k : ScalarNumbers S H). number_stored k q) (sym alone.0) ∙ has))
        | inl enters ↦ (
            let is = entered-added r n old.scalars new.scalars enters q in
            elim (cases_Bool (scalar_eq s (content_of q))) [
              | inl same ↦ (let e : Some n ≡ Some m = sym (is ∙ rw same refl) ∙ has in ap (number_seen f new) (sym ((scalar_eq-Decides s (content_of q)).0 same)) ∙ now ∙ e)
              | inr apart ↦ still (content_of q) m (unseen.knows.stored q m (sym (is ∙ rw apart refl) ∙ has))
            ]
            )
      ]

      found_still : (q : ScalarRef) (m : ℕ) → number_stored old.scalars q ≡ Some m → number_stored new.scalars q ≡ Some m
      found_still q m has = elim entered [
        | inr alone ↦ ap (λ (k : ScalarNumbers S H). number_stored k q) alone.0 ∙ has
        | inl enters ↦ (
            let is = entered-added r n old.scalars new.scalars enters q in
            elim (cases_Bool (scalar_eq s (content_of q))) [
              | inl same ↦ absurd (let e : None ≡ Some m = sym unknown ∙ ap (number_seen f old) ((scalar_eq-Decides s (content_of q)).0 same) ∙ unseen.knows.stored q m has in cc)
              | inr apart ↦ is ∙ rw apart has
            ]
            )
      ]

      found_now : (m : ℕ) → n ≡ m → (q : Scalar) → s ≡ q → ((t : ScalarRef) → content_of t ≡ q → number_stored new.scalars t ≡ Some m) ⊎ IsAlone f i
      found_now m is q same = elim entered [
        | inr alone ↦ inr alone.1
        | inl enters ↦ inl (λ t e. let yes = (scalar_eq-Decides s (content_of t)).1 (same ∙ sym e) in entered-added r n old.scalars new.scalars enters t ∙ rw yes (ap Some is))
      ]

      seen_now : (q : Scalar) (m : ℕ) → number_seen f new q ≡ Some m → IsSeen f new q m
      seen_now q m has = elim (cases_Option (number_seen f old q)) [
        | inr had ↦ (
            let one = unseen.knows.seen q m (had.1 ∙ sym (still q had.0 had.1) ∙ has) in
            seen-as f old new q m one (beside q m one) (λ t had. found_still t m had)
            )
        | inl none ↦ (
            let is = seen-added f i old new added s unseen.holds unknown q in
            elim (cases_Bool (scalar_eq s q)) [
              | inl same ↦ (
                  let e = (scalar_eq-Decides s q).0 same in
                  let numbers : Some n ≡ Some m = sym now ∙ ap (number_seen f new) e ∙ has in
                  let number : n ≡ m = cc in
                  record {
                    object = i;
                    holds = subst (λ (t : Scalar). Holds f i (holds_scalar t)) e unseen.holds;
                    is_kept = here ∙ number;
                    some = subst IsNumber number some;
                    found = found_now m number q e;
                  }
                  )
              | inr apart ↦ absurd (let e : None ≡ Some m = sym (is ∙ rw apart none) ∙ has in cc)
            ]
            )
      ]

      pub knows-more : KnowsScalars f new
      knows-more = record {
        listed = keeps.as_many ∙ unseen.knows.listed;
        singles = singles_now;
        numbered = elim entered [
          | inl enters ↦ enters.numbered
          | inr alone ↦ rw alone.0 unseen.knows.numbered
        ];
        each = each_now now still;
        stored = stored_now;
        seen = seen_now;
      }
