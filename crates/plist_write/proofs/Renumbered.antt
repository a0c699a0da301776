-- The content of objects, given by the objects of another file.
use Rattle.std.proofs.Common.{◌≡◌, ℕ, suc, ◌+◌, ◌≤◌, List, [], ◌∷◌, ◌++◌, length, take, drop, refl, sym, ap, subst, ◌∙◌, arith, length-append, append_assoc}
use Rattle.std.proofs.lemmas.List.{take_at, drop_at}
use Rattle.plist_object.specs.Objects.{Content, holds_scalar, holds_list, holds_table}
use Rattle.plist_object.specs.Places.{Holds}
use Rattle.plist_object.specs.References.{references_of}
use Rattle.plist_write.specs.Plan.{IsLike, StandFor}
use Rattle.plist_write.specs.Renumbering.{held_or_empty, held_in, reference_count, renumbered, helds_of, AreSound}
use Rattle.plist_write.specs.Spelling.{IsRead}

pub held-is : (f : List ℕ) (i : ℕ) (held : Content) → Holds f i held → held_in f i ≡ held
held-is f i held holds = ap held_or_empty holds.reads

-- the object of the input, with its references before others
record Renumbers (f : List ℕ) (i : ℕ) (h : Content) (behind : List ℕ) : Type 0 where
  read : IsRead f i
  same : renumbered (held_in f i) (references_of h ++ behind) ≡ h
  rest : drop (reference_count (held_in f i)) (references_of h ++ behind) ≡ behind
  enough : reference_count (held_in f i) ≤ length (references_of h ++ behind)

renumbers : (f : List ℕ) (i : ℕ) (h : Content) (behind : List ℕ) → IsLike f i h → Renumbers f i h behind
renumbers f i (holds_scalar s) behind like =
    let is = held-is f i (holds_scalar s) like in
    record {
      read = record { held = holds_scalar s; holds = like };
      same = rw is refl;
      rest = rw is refl;
      enough = rw is (omega arith);
    }
renumbers f i (holds_list refs) behind like =
    let items = like.0 in
    let is = held-is f i (holds_list items) like.1.0 in
    let long : length refs ≡ length items = like.1.1 in
    record {
      read = record { held = holds_list items; holds = like.1.0 };
      same = rw is (ap holds_list (take_at refs behind (length items) long));
      rest = rw is (drop_at refs behind (length items) long);
      enough = rw is (rw length-append (omega arith));
    }
renumbers f i (holds_table keys values) behind like =
    let of_keys = like.0 in
    let of_values = like.1.0 in
    let is = held-is f i (holds_table of_keys of_values) like.1.1.0 in
    let n = length of_keys in
    let keys_long : length keys ≡ n = like.1.1.1.0 in
    let values_long : length values ≡ n = like.1.1.1.1 in
    let apart = append_assoc keys values behind in
    let both : length (keys ++ values) ≡ n + n = length-append keys values ∙ (omega arith) in
    let first : take n ((keys ++ values) ++ behind) ≡ keys = ap (take n) apart ∙ take_at keys (values ++ behind) n keys_long in
    let others : drop n ((keys ++ values) ++ behind) ≡ values ++ behind = ap (drop n) apart ∙ drop_at keys (values ++ behind) n keys_long in
    let second : take n (drop n ((keys ++ values) ++ behind)) ≡ values = ap (take n) others ∙ take_at values behind n values_long in
    record {
      read = record { held = holds_table of_keys of_values; holds = like.1.1.0 };
      same = rw is (ap (λ ks. holds_table ks (take n (drop n ((keys ++ values) ++ behind)))) first ∙ ap (holds_table keys) second);
      rest = rw is (drop_at (keys ++ values) behind (n + n) both);
      enough = rw is (rw length-append (omega arith));
    }

pub helds-are : (f originals refs : List ℕ) (hs : List Content) → StandFor f originals refs hs → helds_of f originals refs ≡ hs
helds-are f [] refs [] a = refl
helds-are f (i ∷ originals) refs (h ∷ hs) a =
    let behind = a.1.0 in
    let split : refs ≡ references_of h ++ behind = a.1.1.0 in
    let one = renumbers f i h behind a.0 in
    let n = reference_count (held_in f i) in
    ap (λ rs. renumbered (held_in f i) rs ∷ helds_of f originals (drop n rs)) split ∙ ap (λ x. x ∷ helds_of f originals (drop n (references_of h ++ behind))) one.same ∙ ap (λ rs. h ∷ helds_of f originals rs) one.rest ∙ ap (λ xs. h ∷ xs) (helds-are f originals behind hs a.1.1.1)
helds-are f _ refs _ a = absurd a

pub sound-are : (f originals refs : List ℕ) (hs : List Content) → StandFor f originals refs hs → AreSound f originals refs
sound-are f [] refs hs a = tt
sound-are f (i ∷ originals) refs [] a = absurd a
sound-are f (i ∷ originals) refs (h ∷ hs) a =
    let behind = a.1.0 in
    let split : refs ≡ references_of h ++ behind = a.1.1.0 in
    let one = renumbers f i h behind a.0 in
    let n = reference_count (held_in f i) in
    let rest = sound-are f originals behind hs a.1.1.1 in
    subst (λ (rs : List ℕ). AreSound f (i ∷ originals) rs) (sym split) (one.read, (one.enough, subst (λ (rs : List ℕ). AreSound f originals rs) (sym one.rest) rest))

pub length-helds : (f originals refs : List ℕ) → length (helds_of f originals refs) ≡ length originals
length-helds f [] refs = refl
length-helds f (i ∷ originals) refs =
    ap suc (length-helds f originals (drop (reference_count (held_in f i)) refs))
