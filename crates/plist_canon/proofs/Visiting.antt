-- The weights of objects.
use Rattle.std.proofs.Common.{◌≡◌, ℕ, suc, ◌+◌, List, [], ◌∷◌, ◌++◌, length, true, sym, ap, subst, ◌∙◌, arith, length-append, inl, inr, ◌<◌, refl, append_assoc}
use Rattle.std.proofs.lemmas.Bool.{cases_lt, true≢false}
use Rattle.std.proofs.lemmas.List.{get_or_append_left, get_or_push, append-nil}
use Rattle.plist_object.specs.Objects.{Content, holds_scalar, holds_table}
use Rattle.plist_object.specs.Places.{Holds, HoldsScalar}
use Rattle.plist_object.proofs.Uniqueness.{same_held}
use Rattle.plist_canon.specs.declared.weights.Weight.{Weight}
use Rattle.plist_canon.specs.Weights.{container, weight_of, is_scalar_weight, Weighs, AreWeights}
use Rattle.std.specs.List.{Contains}
use Rattle.plist_object.specs.Layout.{trailer_of}
use Rattle.plist_object.specs.References.{references_of}
use Rattle.plist_canon.specs.Rules.{Walk, Walks, visit, end, step, IsNumberedInPreorder, Reference, held_by, ComesTo, begins, goes_on, TurnsAt, LeavesOver, IsBroken, breaks_c7, leaves_over}
use Rattle.plist_canon.specs.Preorders.{IsWalking, Group, groups_of, references_left}
use Rattle.plist_canon.proofs.InOrder.{AreBelow, AreInOrder, AreBelow-none, AreBelow-new, AreBelow-known, new_or_known, AreInOrder-none, AreInOrder-more}

-- the weight is that of the object's content
pub Weighs-held : (f : List ℕ) (i : ℕ) (weight : Weight) (held : Content) → Weighs f i weight → Holds f i held → weight ≡ weight_of held
Weighs-held f i weight held weighs holds = weighs.is ∙ ap weight_of (same_held f i weighs.held held weighs.holds holds)

scalar-holds : (f : List ℕ) (i : ℕ) (held : Content) → Holds f i held → is_scalar_weight (weight_of held) ≡ true → HoldsScalar f i
scalar-holds f i (holds_scalar s) holds is = (s, holds)
scalar-holds f i _ holds is = absurd (true≢false (sym is))

pub Weighs-scalar : (f : List ℕ) (i : ℕ) (weight : Weight) → Weighs f i weight → is_scalar_weight weight ≡ true → HoldsScalar f i
Weighs-scalar f i weight weighs is = scalar-holds f i weighs.held weighs.holds (ap is_scalar_weight (sym weighs.is) ∙ is)

pub scalar-Weighs : (f : List ℕ) (i : ℕ) (weight : Weight) → Weighs f i weight → HoldsScalar f i → is_scalar_weight weight ≡ true
scalar-Weighs f i weight weighs scalar =
    ap is_scalar_weight (Weighs-held f i weight (holds_scalar scalar.0) weighs scalar.1)

weights-more : (f : List ℕ) (weights : List Weight) (number : ℕ) (weight : Weight) → AreWeights f weights → length weights ≡ number → Weighs f number weight → AreWeights f (weights ++ (weight ∷ []))
weights-more f weights number weight weighed counted weighs i below =
    elim (cases_lt i (length weights)) [
      | inl before ↦ rw (get_or_append_left weights (weight ∷ []) container i before) (weighed i before)
      | inr past ↦ (
          let is : length weights ≡ i = omega (arith, length-append weights (weight ∷ [])) in
          rw (get_or_push weights weight container i is) (subst (λ (k : ℕ). Weighs f k weight) (sym counted ∙ is) weighs))
    ]

-- the weight of one more object was pushed
pub AreWeights-more : (f : List ℕ) (weights pushed : List Weight) (number : ℕ) (weight : Weight) → pushed ≡ weights ++ (weight ∷ []) → AreWeights f weights → length weights ≡ number → Weighs f number weight → AreWeights f pushed
AreWeights-more f weights pushed number weight is weighed counted weighs =
    subst (λ (ws : List Weight). AreWeights f ws) (sym is) (weights-more f weights number weight weighed counted weighs)

pub length-more : (weights pushed : List Weight) (number : ℕ) (weight : Weight) → pushed ≡ weights ++ (weight ∷ []) → length weights ≡ number → length pushed ≡ number + 1
length-more weights pushed number weight is counted =
    let same : length pushed ≡ length (weights ++ (weight ∷ [])) = ap length is in
    omega (arith, length-append weights (weight ∷ []))

-- What a walk still has to visit, as it follows references.

-- a walk from an object, taken apart
record Entered (f : List ℕ) (i : ℕ) (entries : List ℕ) : Type 0 where
  held : Content
  rest : List ℕ
  holds : Holds f i held
  walks : Walks f (references_of held) rest
  joined : entries ≡ i ∷ rest

enter : (f : List ℕ) (i : ℕ) (entries : List ℕ) → Walk f i entries → Entered f i entries
enter f i entries (visit j held rest holds walks) = record {
  held = held;
  rest = rest;
  holds = holds;
  walks = walks;
  joined = refl;
}

-- walks from references, taken apart after the first
record Stepped (f : List ℕ) (i : ℕ) (refs entries : List ℕ) : Type 0 where
  first : List ℕ
  others : List ℕ
  walk : Walk f i first
  walks : Walks f refs others
  joined : entries ≡ first ++ others

take_step : (f : List ℕ) (i : ℕ) (refs entries : List ℕ) → Walks f (i ∷ refs) entries → Stepped f i refs entries
take_step f i refs entries (step j later first others walk walks) = record {
  first = first;
  others = others;
  walk = walk;
  walks = walks;
  joined = refl;
}

no_entry : (f entries : List ℕ) → Walks f [] entries → entries ≡ []
no_entry f entries end = refl

pub Walks-append : (f refs others entries later : List ℕ) → Walks f refs entries → Walks f others later → Walks f (refs ++ others) (entries ++ later)
Walks-append f refs others entries later end behind = behind
Walks-append f refs others entries later (step i rest first back walk walks) behind =
    subst (Walks f ((i ∷ rest) ++ others)) (sym (append_assoc first back later)) (step i (rest ++ others) first (back ++ later) walk (Walks-append f rest others back later walks behind))

record Split (f refs others entries : List ℕ) : Type 0 where
  front : List ℕ
  back : List ℕ
  first : Walks f refs front
  second : Walks f others back
  joined : entries ≡ front ++ back

Walks-split : (f refs others entries : List ℕ) → Walks f (refs ++ others) entries → Split f refs others entries
Walks-split f [] others entries walks = record {
  front = [];
  back = entries;
  first = end;
  second = walks;
  joined = refl;
}
Walks-split f (i ∷ refs) others entries walks =
    let s = take_step f i (refs ++ others) entries walks in
    let r = Walks-split f refs others s.others s.walks in
    record {
      front = s.first ++ r.front;
      back = r.back;
      first = step i refs s.first r.front s.walk r.first;
      second = r.second;
      joined = s.joined ∙ ap (λ es. s.first ++ es) r.joined ∙ sym (append_assoc s.first r.front r.back);
    }

-- the whole walk is the entries so far and a walk from the references left
record Rest (f entries refs whole : List ℕ) : Type 0 where
  rest : List ℕ
  walks : Walks f refs rest
  joined : whole ≡ entries ++ rest

-- the next reference, with its walk
record Next (f entries : List ℕ) (i : ℕ) (refs whole : List ℕ) : Type 0 where
  held : Content
  rest : List ℕ
  others : List ℕ
  holds : Holds f i held
  inner : Walks f (references_of held) rest
  outer : Walks f refs others
  joined : whole ≡ entries ++ (i ∷ (rest ++ others))

next : (f entries : List ℕ) (i : ℕ) (refs whole : List ℕ) → Rest f entries (i ∷ refs) whole → Next f entries i refs whole
next f entries i refs whole r =
    let s = take_step f i refs r.rest r.walks in
    let e = enter f i s.first s.walk in
    record {
      held = e.held;
      rest = e.rest;
      others = s.others;
      holds = e.holds;
      inner = e.walks;
      outer = s.walks;
      joined = r.joined ∙ ap (λ es. entries ++ es) (s.joined ∙ ap (λ es. es ++ s.others) e.joined);
    }

-- The steps of the walk from object 0.

abbrev numbers : List Reference → List ℕ
numbers [] = []
numbers (reference ∷ references) = reference.number ∷ numbers references

abbrev reference : ℕ → ℕ → Reference
reference holder i = record { holder = holder; number = i }

held_by-append : (holder : ℕ) (refs others : List ℕ) → held_by holder (refs ++ others) ≡ held_by holder refs ++ held_by holder others
held_by-append holder [] others = refl
held_by-append holder (i ∷ refs) others = ap (λ xs. reference holder i ∷ xs) (held_by-append holder refs others)

numbers-held : (holder : ℕ) (refs : List ℕ) (rest : List Reference) → numbers (held_by holder refs ++ rest) ≡ refs ++ numbers rest
numbers-held holder [] rest = refl
numbers-held holder (i ∷ refs) rest = ap (λ xs. i ∷ xs) (numbers-held holder refs rest)

-- the references of an object that is entered precede those that are left
references-entered : (number levels : ℕ) (held : Content) (outer : List Group) → references_left (groups_of number levels held ++ outer) ≡ held_by number (references_of held) ++ references_left outer
references-entered number levels (holds_table keys values) outer =
    sym (ap (λ xs. xs ++ references_left outer) (held_by-append number keys values) ∙ append_assoc (held_by number keys) (held_by number values) (references_left outer))
references-entered number levels _ outer = refl

numbers-all : (holder : ℕ) (refs : List ℕ) → numbers (held_by holder refs) ≡ refs
numbers-all holder refs = ap numbers (sym (append-nil (held_by holder refs))) ∙ numbers-held holder refs [] ∙ append-nil refs

ComesTo-rest : (f entries : List ℕ) (left : List Reference) (whole : List ℕ) → ComesTo f entries left → Walk f 0 whole → Rest f entries (numbers left) whole
ComesTo-rest f entries left whole (begins held holds) walk =
    let e = enter f 0 whole walk in
    let walks = subst (λ (h : Content). Walks f (references_of h) e.rest) (same_held f 0 e.held held e.holds holds) e.walks in
    record { rest = e.rest; walks = rw numbers-all walks; joined = e.joined }
ComesTo-rest f entries left whole (goes_on before holder i held later comes order holds) walk =
    let n = next f before i (numbers later) whole (ComesTo-rest f before (reference holder i ∷ later) whole comes walk) in
    let inner = subst (λ (h : Content). Walks f (references_of h) n.rest) (same_held f i n.held held n.holds holds) n.inner in
    record {
      rest = n.rest ++ n.others;
      walks = rw numbers-held (Walks-append f (references_of held) (numbers later) n.rest n.others inner n.outer);
      joined = n.joined ∙ sym (append_assoc before (i ∷ []) (n.rest ++ n.others));
    }

ComesTo-walk : (f entries : List ℕ) (left : List Reference) (rest : List ℕ) → ComesTo f entries left → Walks f (numbers left) rest → Walk f 0 (entries ++ rest)
ComesTo-walk f entries left rest (begins held holds) walks = visit 0 held rest holds (rw numbers-all at walks)
ComesTo-walk f entries left rest (goes_on before holder i held later comes order holds) walks =
    let s = Walks-split f (references_of held) (numbers later) rest (rw numbers-held at walks) in
    let inner = step i (numbers later) (i ∷ s.front) s.back (visit i held s.front holds s.first) s.second in
    subst (Walk f 0) (ap (λ es. before ++ (i ∷ es)) (sym s.joined) ∙ sym (append_assoc before (i ∷ []) rest))
    (ComesTo-walk f before (reference holder i ∷ later) (i ∷ (s.front ++ s.back)) comes inner)

ComesTo-order : (f entries : List ℕ) (left : List Reference) → ComesTo f entries left → AreInOrder f entries
ComesTo-order f entries left (begins held holds) = AreInOrder-more f [] 0 (AreInOrder-none f) (inl AreBelow-none)
ComesTo-order f entries left (goes_on before holder i held later comes order holds) =
    AreInOrder-more f before i (ComesTo-order f before (reference holder i ∷ later) comes) order

-- a walk that turns does not visit the objects in order
pub TurnsAt-unnumbered : (f : List ℕ) (holder : ℕ) → TurnsAt f holder → ¬ IsNumberedInPreorder f
TurnsAt-unnumbered f holder turns numbered =
    let rest = ComesTo-rest f turns.entries (reference holder turns.number ∷ turns.left) numbered.entries turns.comes numbered.walk in
    let n = next f turns.entries turns.number (numbers turns.left) numbered.entries rest in
    turns.other n.holds.listed (numbered.order turns.entries (n.rest ++ n.others) turns.number n.joined)

-- one that leaves an object over does not visit all
pub LeavesOver-unnumbered : (f : List ℕ) → LeavesOver f → ¬ IsNumberedInPreorder f
LeavesOver-unnumbered f left numbered =
    let r = ComesTo-rest f left.entries [] numbered.entries left.comes numbered.walk in
    let is : numbered.entries ≡ left.entries = r.joined ∙ ap (λ es. left.entries ++ es) (no_entry f r.rest r.walks) ∙ append-nil left.entries in
    left.missed (subst (λ es. Contains es left.object) is ((numbered.all left.object).1 left.over))

pub IsWalking-start : (f : List ℕ) (levels : ℕ) (held : Content) → Holds f 0 held → IsWalking f 1 (references_left (groups_of 0 levels held ++ []))
IsWalking-start f levels held holds = record {
  entries = 0 ∷ [];
  comes = subst (ComesTo f (0 ∷ [])) (sym (references-entered 0 levels held [] ∙ append-nil (held_by 0 (references_of held)))) (begins held holds);
  visited = AreBelow-new [] 0 AreBelow-none;
}

module _ (f : List ℕ) (seen : ℕ) where
  module _ (holder i : ℕ) (left : List Reference) (walking : IsWalking f seen (reference holder i ∷ left)) where
    -- a reference to a visited scalar
    pub IsWalking-passed : i < seen → HoldsScalar f i → IsWalking f seen left
    IsWalking-passed below scalar = record {
      entries = walking.entries ++ (i ∷ []);
      comes = goes_on walking.entries holder i (holds_scalar scalar.0) left walking.comes (inr ((walking.visited i).1 below, scalar)) scalar.1;
      visited = AreBelow-known walking.entries seen walking.visited i below;
    }

    -- any other reference, except to the next object
    pub IsWalking-other : ¬ ((i ≡ seen) × (seen < (trailer_of f).count)) → (i < seen → ¬ HoldsScalar f i) → IsBroken f 7 holder
    IsWalking-other other known =
        let turns : TurnsAt f holder = record {
          entries = walking.entries;
          number = i;
          left = left;
          comes = walking.comes;
          other = λ listed order. elim (new_or_known walking.entries seen walking.visited f i order) [
            | inl new ↦ other (new, omega arith)
            | inr again ↦ known again.0 again.1
          ];
        } in
        breaks_c7 holder (TurnsAt-unnumbered f holder turns) turns

  -- a reference to the next object
  pub IsWalking-seen : (holder : ℕ) (outer : List Group) (levels : ℕ) (held : Content) → IsWalking f seen (reference holder seen ∷ references_left outer) → Holds f seen held → IsWalking f (suc seen) (references_left (groups_of seen levels held ++ outer))
  IsWalking-seen holder outer levels held walking holds = record {
    entries = walking.entries ++ (seen ∷ []);
    comes = subst (ComesTo f (walking.entries ++ (seen ∷ []))) (sym (references-entered seen levels held outer)) (goes_on walking.entries holder seen held (references_left outer) walking.comes (inl walking.visited) holds);
    visited = AreBelow-new walking.entries seen walking.visited;
  }

  pub IsWalking-over : IsWalking f seen [] → seen < (trailer_of f).count → IsBroken f 7 0
  IsWalking-over walking below =
      let left : LeavesOver f = record {
        entries = walking.entries;
        comes = walking.comes;
        object = seen;
        over = below;
        missed = λ among. (let own = (walking.visited seen).0 among in omega arith);
      } in
      leaves_over (LeavesOver-unnumbered f left) left

  pub IsWalking-done : IsWalking f seen [] → seen ≡ (trailer_of f).count → IsNumberedInPreorder f
  IsWalking-done walking all = record {
    entries = walking.entries;
    walk = subst (Walk f 0) (append-nil walking.entries) (ComesTo-walk f walking.entries [] [] walking.comes end);
    order = ComesTo-order f walking.entries [] walking.comes;
    all = subst (λ n. AreBelow n walking.entries) all walking.visited;
  }
