-- The walk over the objects of a file that plans the canonical file.
use Rattle.std.specs.Prelude.{◌≡◌, ◌⊎◌, ℕ, suc, ◌+◌, ◌≤◌, Bool, false, if◌then◌else◌, List, [], ◌∷◌}
use Rattle.std.specs.Prelude.{◌++◌, length, map, drop, take, Option, Some, None, Result, Ok, Err}
use Rattle.plist_value.specs.Plist.{Scalar, Plist, scalar, Items, IsPlist, AreItems}
use Rattle.plist_value.specs.Equality.{scalar_eq}
use Rattle.plist_value.specs.Scalars.{content_of}
use Rattle.plist_value.specs.declared.scalar_ref.ScalarRef.{ScalarRef}
use Rattle.plist_object.specs.Objects.{Content, holds_scalar, holds_list, holds_table}
use Rattle.plist_object.specs.Layout.{trailer_of}
use Rattle.plist_object.specs.Places.{Holds, what_holds}
use Rattle.plist_object.specs.declared.object.ObjectFault.{ObjectFault}
use Rattle.plist_keys.specs.KeyOrder.{IsReady}
use Rattle.plist_object.specs.References.{references_of}
use Rattle.plist_keys.specs.declared.order.KeyOrder.{KeyOrder}
use Rattle.plist_object.specs.Spelled.{Spells, SpellItems}
use Rattle.plist_write.specs.Tree.{preorder, preorder_items, item_positions}
use Rattle.plist_write.specs.Sharing.{kept_positions, count_below}
use Rattle.plist_write.specs.Found.{OccursAt, number_in, found_in, number_known}
use Rattle.plist_write.specs.ObjectNumbers.{unique, kept, IsNumber, IsAlone, IsUnique}
use Rattle.plist_write.specs.ScalarNumbers.{number_stored, AreNumbered, EntersScalar}
use Rattle.plist_write.specs.declared.scalar_numbers.ScalarNumbers.{ScalarNumbers}
use Rattle.plist_write.specs.declared.object_numbers.ObjectNumbers.{ObjectNumbers}
use Rattle.plist_write.specs.declared.plan.CanonicalObjects.{CanonicalObjects}
use Rattle.plist_write.specs.declared.plan.Plan.{Plan}

-- Object i of the file contains the same scalar, an array of equally many items, or a dictionary of
-- equally many pairs.
abbrev pub IsLike : List ℕ → ℕ → Content → Type 0
IsLike f i (holds_scalar s) = Holds f i (holds_scalar s)
IsLike f i (holds_list refs) = (items : List ℕ)
    × (Holds f i (holds_list items) × (length refs ≡ length items))
IsLike f i (holds_table keys values) =
    (held_keys : List ℕ)
    × ((held_values : List ℕ)
    × (Holds f i (holds_table held_keys held_values)
    × ((length keys ≡ length held_keys) × (length values ≡ length held_keys))))

-- These objects of the file, with these references, which they take in order, have the content of
-- the objects of another file.
abbrev pub StandFor : List ℕ → List ℕ → List ℕ → List Content → Type 0
StandFor f [] refs [] = refs ≡ []
StandFor f [] refs (h ∷ hs) = ⊥
StandFor f (i ∷ originals) refs [] = ⊥
StandFor f (i ∷ originals) refs (h ∷ hs) =
    IsLike f i h
    × ((behind : List ℕ) × ((refs ≡ references_of h ++ behind) × StandFor f originals behind hs))

-- whether the decoded content is this scalar
abbrev pub is_held : Scalar → Result Content ObjectFault → Bool
is_held s (Ok (holds_scalar t)) = scalar_eq t s
is_held s (Ok (holds_list refs)) = false
is_held s (Ok (holds_table keys values)) = false
is_held s (Err fault) = false

-- the number of the first of these objects that contains the scalar, if one does; the first object
-- has the number n
abbrev pub number_from : List ℕ → ℕ → List ℕ → Scalar → Option ℕ
number_from f n [] s = None
number_from f n (i ∷ originals) s =
    if is_held s (what_holds f i) then Some n else number_from f (suc n) originals s

-- the number of the scalar among the objects so far, if it was visited
abbrev pub number_seen : {S H : Type 0} → List ℕ → Plan S H → Scalar → Option ℕ
number_seen f plan s = number_from f 0 plan.originals.items s

-- nothing is planned
pub record IsEmptyPlan {S H : Type 0} (plan : Plan S H) : Type 0 where
  pub none : plan.originals.items ≡ []
  pub no_references : plan.references.items ≡ []

-- the positions below k are done: each scalar there is known with its number, and the plan has one
-- object for each of them that has its own
pub record IsReadyAt {S H : Type 0} (f : List ℕ) (all : List Plist) (k : ℕ)
    (plan : Plan S H) : Type 0 where
  pub known : (s : Scalar) → number_seen f plan s ≡ number_known all k s
  pub counted : length plan.originals.items ≡ count_below k (kept_positions all)

-- Objects with this content were added. Only the references from index `front` on are considered.
pub record Grows {S H : Type 0} (f : List ℕ) (front : ℕ) (old new : Plan S H)
    (helds : List Content) : Type 0 where
  pub originals : List ℕ
  pub references : List ℕ
  pub originals_added : new.originals.items ≡ old.originals.items ++ originals
  pub references_added : drop front new.references.items ≡ drop front old.references.items
      ++ references
  pub stand_for : StandFor f originals references helds

-- the list `part`, which is at position k, was done
pub record Adds {S H : Type 0} (f : List ℕ) (front : ℕ) (all : List Plist) (k : ℕ)
    (part : List Plist) (old new : Plan S H) : Type 0 where
  pub ready : IsReadyAt f all (k + length part) new
  pub grows : Grows f front old new (found_in all k part)

-- The list `part` was done, wherever it is. If it is at position k, the numbers are those of the
-- positions `positions k`.
pub record Walks {S H : Type 0} (f : List ℕ) (front : ℕ) (part : List Plist) (positions : ℕ
    → List ℕ)
    (old new : Plan S H) (numbers : List ℕ) : Type 0 where
  pub numbered : (all : List Plist) (k : ℕ) → OccursAt all k part → IsReadyAt f all k old
      → numbers ≡ map (number_in all) (positions k)
  pub adds : (all : List Plist) (k : ℕ) → OccursAt all k part → IsReadyAt f all k old
      → Adds f front all k part old new

abbrev pub WalksOne : {S H : Type 0} → List ℕ → ℕ → List Plist → Plan S H → Plan S H → ℕ → Type 0
WalksOne f front part old new number = Walks f front part (λ k. k ∷ []) old new (number ∷ [])

abbrev pub WalksTree : {S H : Type 0} → List ℕ → ℕ → Plist → Plan S H → Plan S H → ℕ → Type 0
WalksTree f front v = WalksOne f front (preorder v)

abbrev pub WalksScalar : {S H : Type 0} → List ℕ → ℕ → Scalar → Plan S H → Plan S H → ℕ → Type 0
WalksScalar f front s = WalksOne f front (scalar s ∷ [])

abbrev pub WalksItems : {S H : Type 0} → List ℕ → ℕ → Items → Plan S H → Plan S H → List ℕ → Type 0
WalksItems f front vs = Walks f front (preorder_items vs) (λ k. item_positions k vs)

-- One object was added, with this number and these references, which are still those of the input
-- file.
pub record AddsObject {S H : Type 0} (i : ℕ) (refs : List ℕ) (old new : Plan S H)
    (number : ℕ) : Type 0 where
  pub number_is : number ≡ length old.originals.items
  pub scalars_kept : new.scalars ≡ old.scalars
  pub original_added : new.originals.items ≡ old.originals.items ++ (i ∷ [])
  pub memo_kept : new.memo ≡ old.memo
  pub references_added : new.references.items ≡ old.references.items ++ refs

-- the object contains a scalar that has the number
pub record IsRemembered {S H : Type 0} (f : List ℕ) (plan : Plan S H) (i number : ℕ) : Type 0 where
  pub shown : Scalar
  pub holds : Holds f i (holds_scalar shown)
  pub seen : number_seen f plan shown ≡ Some number

-- The scalar was visited in an object whose number is kept. The map contains it, or no other object
-- does.
pub record IsSeen {S H : Type 0} (f : List ℕ) (plan : Plan S H) (s : Scalar)
    (number : ℕ) : Type 0 where
  pub object : ℕ
  pub holds : Holds f object (holds_scalar s)
  pub is_kept : kept plan.memo object ≡ number
  pub some : IsNumber number
  pub found : ((r : ScalarRef) → content_of r ≡ s → number_stored plan.scalars r ≡ Some number)
      ⊎ IsAlone f object

-- The memo and the map contain only numbers of the objects so far, and each scalar among these
-- objects was visited.
pub record KnowsScalars {S H : Type 0} (f : List ℕ) (plan : Plan S H) : Type 0 where
  pub listed : length plan.memo.numbers.items ≡ (trailer_of f).count
  pub numbered : AreNumbered plan.scalars
  pub each : (i : ℕ) → IsNumber (kept plan.memo i) → IsRemembered f plan i (kept plan.memo i)
  pub singles : (i : ℕ) → kept plan.memo i ≡ unique → IsUnique f i
  pub stored : (r : ScalarRef) (n : ℕ) → number_stored plan.scalars r ≡ Some n
      → number_seen f plan (content_of r) ≡ Some n
  pub seen : (s : Scalar) (n : ℕ) → number_seen f plan s ≡ Some n → IsSeen f plan s n

-- what the walk knows after each object: the visited scalars, and what is kept of key orders
pub record Knows {S H : Type 0} (f : List ℕ) (plan : Plan S H) (order : KeyOrder) : Type 0 where
  pub scalars : KnowsScalars f plan
  pub ready : IsReady f order

-- the object contains the scalar, and was not visited
pub record IsUnseen {S H : Type 0} (f : List ℕ) (i : ℕ) (s : Scalar)
    (plan : Plan S H) : Type 0 where
  pub knows : KnowsScalars f plan
  pub holds : Holds f i (holds_scalar s)
  pub unseen : unique ≤ kept plan.memo i

-- The scalar of the object was entered in the map, or nothing was, since no other object contains
-- it.
abbrev pub MeetsScalar : {S H : Type 0} → ObjectNumbers → ℕ → ScalarRef → ℕ → ScalarNumbers S H
    → ScalarNumbers S H
    → Option ℕ → Type 0
MeetsScalar memo i r next old new had =
    (AreNumbered old → EntersScalar r next old new had)
    ⊎ ((had ≡ None) × ((new ≡ old) × (kept memo i ≡ unique)))

-- The scalar of the object got a number.
pub record NumbersScalar {S H : Type 0} (f : List ℕ) (i : ℕ) (s : Scalar) (old new : Plan S H)
    (number : ℕ) : Type 0 where
  pub walks : IsUnseen f i s old → WalksScalar f 0 s old new number
  pub references_kept : new.references.items ≡ old.references.items

-- the value that the object encodes was walked, and references were only appended
pub record IsWalked {S H : Type 0} (f : List ℕ) (i : ℕ) (old new : Plan S H)
    (number : ℕ) : Type 0 where
  pub value : Plist
  pub valid : IsPlist value
  pub spells : Spells f i value
  pub walks : WalksTree f 0 value old new number
  pub references : List ℕ
  pub references_added : new.references.items ≡ old.references.items ++ references

-- the items that the objects encode were walked in order, and these are their numbers
pub record ItemsWalked {S H : Type 0} (f : List ℕ) (front : ℕ) (refs : List ℕ) (old new : Plan S H)
    (numbers : List ℕ) : Type 0 where
  pub items : Items
  pub valid : AreItems items
  pub spell : SpellItems f refs items
  pub walks : WalksItems f front items old new numbers

-- The objects from index `first` on were walked: their references were replaced by their numbers,
-- and others were appended.
pub record AreWalked {S H : Type 0} (f : List ℕ) (first : ℕ) (old new : Plan S H) : Type 0 where
  pub numbers : List ℕ
  pub behind : List ℕ
  pub walked : ItemsWalked f (length old.references.items)
      (drop first old.references.items) old new numbers
  pub as_many : length numbers ≡ length (drop first old.references.items)
  pub filled : new.references.items ≡ take first old.references.items ++ (numbers ++ behind)

-- These are the objects of the canonical file of the value, in the order of their numbers.
pub record AreObjectsOf (f : List ℕ) (v : Plist) (objects : CanonicalObjects) : Type 0 where
  pub stand_for : StandFor f objects.originals.items objects.references.items
      (found_in (preorder v) 0 (preorder v))
