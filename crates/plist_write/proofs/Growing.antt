-- How a plan grows.
use Rattle.std.proofs.Common.{◌≡◌, ℕ, ◌≤◌, List, [], ◌∷◌, ◌++◌, length, drop, refl, sym, ap, ◌∙◌, append_assoc}
use Rattle.std.proofs.lemmas.List.{append-nil, drop-append-le}
use Rattle.plist_value.specs.Plist.{Scalar}
use Rattle.plist_object.specs.Objects.{Content, holds_scalar}
use Rattle.plist_object.specs.Places.{Holds}
use Rattle.plist_write.specs.declared.plan.Plan.{Plan}
use Rattle.plist_object.specs.References.{references_of}
use Rattle.plist_write.specs.Plan.{StandFor, Grows}

pub StandFor-append : (f xs ys refs behind : List ℕ) (hs gs : List Content) → StandFor f xs refs hs → StandFor f ys behind gs → StandFor f (xs ++ ys) (refs ++ behind) (hs ++ gs)
StandFor-append f [] ys refs behind [] gs a b = rw a b
StandFor-append f (x ∷ xs) ys refs behind (h ∷ hs) gs a b =
    let rest = a.1.0 in
    (a.0, (rest ++ behind, (ap (λ rs. rs ++ behind) a.1.1.0 ∙ append_assoc (references_of h) rest behind, StandFor-append f xs ys rest behind hs gs a.1.1.1 b)))
StandFor-append f _ ys refs behind _ gs a b = absurd a

pub Grows-none : {S H : Type 0} → (f : List ℕ) (front : ℕ) (plan : Plan S H) → Grows f front plan plan []
Grows-none f front plan = record {
  originals = [];
  references = [];
  originals_added = sym (append-nil _);
  references_added = sym (append-nil _);
  stand_for = refl;
}

pub Grows-append : {S H : Type 0} → (f : List ℕ) (front : ℕ) (old mid new : Plan S H) (hs gs : List Content) → Grows f front old mid hs → Grows f front mid new gs → Grows f front old new (hs ++ gs)
Grows-append f front old mid new hs gs x y = record {
  originals = x.originals ++ y.originals;
  references = x.references ++ y.references;
  originals_added = y.originals_added ∙ ap (λ os. os ++ y.originals) x.originals_added ∙ append_assoc old.originals.items x.originals y.originals;
  references_added = y.references_added ∙ ap (λ rs. rs ++ y.references) x.references_added ∙ append_assoc (drop front old.references.items) x.references y.references;
  stand_for = StandFor-append f x.originals y.originals x.references y.references hs gs x.stand_for y.stand_for;
}

-- what was added is the same if fewer references are considered
pub Grows-lift : {S H : Type 0} → (f : List ℕ) (front : ℕ) (old mid new : Plan S H) (hs : List Content) → Grows f 0 old mid hs → front ≤ length old.references.items → new.originals ≡ mid.originals → drop front new.references.items ≡ drop front mid.references.items → Grows f front old new hs
Grows-lift f front old mid new hs x within same_originals same_references = record {
  originals = x.originals;
  references = x.references;
  originals_added = rw same_originals x.originals_added;
  references_added = same_references ∙ ap (drop front) x.references_added ∙ drop-append-le front old.references.items x.references within;
  stand_for = x.stand_for;
}

pub Grows-scalar : {S H : Type 0} → (f : List ℕ) (front i : ℕ) (old new : Plan S H) (s : Scalar) → Holds f i (holds_scalar s) → new.originals.items ≡ old.originals.items ++ (i ∷ []) → new.references.items ≡ old.references.items → Grows f front old new (holds_scalar s ∷ [])
Grows-scalar f front i old new s holds added kept = record {
  originals = i ∷ [];
  references = [];
  originals_added = added;
  references_added = ap (drop front) kept ∙ sym (append-nil _);
  stand_for = (holds, ([], (refl, refl)));
}
