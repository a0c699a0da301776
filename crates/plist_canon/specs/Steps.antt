-- The steps of the walk from object 0, and what they take from the limits.
use Rattle.std.specs.Prelude.{◌≡◌, ℕ, zero, suc, ◌-◌, ◌<◌, true, List, [], ◌∷◌, ◌++◌, length, drop}
use Rattle.std.specs.Prelude.{slice_index_or, Option, Some, None, Result, Ok, Err, MatchOption}
use Rattle.plist_value.specs.Plist.{Plist, AreOctets, IsPlist}
use Rattle.plist_value.specs.Limits.{Fits}
use Rattle.plist_value.specs.declared.TheConstants.{MAX_DEPTH}
use Rattle.plist_value.specs.declared.budget.Budget.{Budget}
use Rattle.plist_object.specs.Layout.{trailer_of}
use Rattle.plist_object.specs.Objects.{Content}
use Rattle.plist_object.specs.Places.{Holds}
use Rattle.plist_object.specs.Spelled.{Spells}
use Rattle.plist_object.specs.Views.{numbers_of}
use Rattle.plist_canon.specs.declared.preorder.Frame.{Frame}
use Rattle.plist_canon.specs.declared.preorder.Visit.{Visit}
use Rattle.plist_canon.specs.declared.preorder.Walk.{Walk}
use Rattle.plist_canon.specs.declared.weights.Weight.{Weight}
use Rattle.plist_canon.specs.Rules.{IsNumberedInPreorder, IsBroken}
use Rattle.plist_canon.specs.Rules.{Each, IsWellRead, HasAscendingKeys}
use Rattle.plist_canon.specs.Weights.{container, weight_of, is_scalar_weight, AreWeights}
use Rattle.plist_canon.specs.Preorders.{IsWalking, Group, grouped, groups_of, references_left}
use Rattle.plist_canon.specs.Preorders.{frame_group, path_groups}
use Rattle.plist_canon.specs.Remaining.{HasLeft, TakesLeft}

-- The objects below `seen` were visited, and the groups are left.
pub record HasVisited (f : List ℕ) (seen : ℕ) (left : Option Budget)
    (groups : List Group) : Type 0 where
  pub walking : IsWalking f seen (references_left groups)
  pub limits : AreOctets f → Each HasAscendingKeys f → HasLeft f groups left

-- the reference points to a visited scalar, if these are the weights of the visited objects
pub record SkipsScalar (weights : List Weight) (levels i : ℕ)
    (before after : Option Budget) : Type 0 where
  pub listed : i < length weights
  pub is_scalar : is_scalar_weight (slice_index_or weights i container) ≡ true
  pub takes : TakesLeft levels (slice_index_or weights i container) before after

-- the walk gets from the first groups to the others by skipping scalars of these weights
abbrev pub GoesOn : List Weight → List Group → Option Budget → List Group → Option Budget → Type 0
GoesOn weights groups before others after =
    (f : List ℕ) → AreWeights f weights → HasVisited f (length weights) before groups
    → HasVisited f (length weights) after others

-- the walk gets from the first group to the other, whatever follows them
abbrev pub GroupGoesOn : List Weight → Group → Option Budget → Group → Option Budget → Type 0
GroupGoesOn weights first before other after =
    (outer : List Group) → GoesOn weights (first ∷ outer) before (other ∷ outer) after

-- the walk gets to a reference in the frame, or past all of them
abbrev pub FrameGoesOn : List Weight → Frame → Option Budget → Option (ℕ × ℕ) → Option Budget
    → Type 0
FrameGoesOn weights frame before (Some p) after =
    GroupGoesOn weights (frame_group frame) before
    (grouped frame.owner frame.levels (p.1 ∷ drop p.0 (numbers_of frame.refs))) after
FrameGoesOn weights frame before None after =
    (outer : List Group) → GoesOn weights (frame_group frame ∷ outer) before outer after

-- the walk gets to this visit, or to the end of the path
abbrev pub PathGoesOn : List Weight → List Frame → Option Budget → Option Visit → List Frame
    → Option Budget → Type 0
PathGoesOn weights old before (Some visit) new after =
    GoesOn weights (path_groups old) before (grouped visit.owner visit.levels (visit.reference ∷ [])
    ∷ path_groups new) after
PathGoesOn weights old before None new after = GoesOn weights (path_groups old) before [] after

-- the state after visiting this number of objects; before the first one nothing is spent
abbrev pub HasVisitedFirst : List ℕ → ℕ → Option Budget → List Group → Type 0
HasVisitedFirst f zero left groups = (groups ≡ [])
    × HasLeft f (grouped 0 MAX_DEPTH (0 ∷ []) ∷ []) left
HasVisitedFirst f (suc before) left groups = HasVisited f (suc before) left groups

-- the object is visited next, with `levels` allowed, and then the groups are left
abbrev pub Awaits : List ℕ → ℕ → ℕ → Option Budget → List Group → Type 0
Awaits f i levels left groups =
    (held : Content) (after : Option Budget) → Holds f i held
    → TakesLeft levels (weight_of held) left after
    → HasVisited f (suc i) after (groups_of i (levels - 1) held ++ groups)

-- the walk gets to the next object, with the levels allowed there, or breaks rule 7
abbrev pub ComesToNext : List Weight → List Frame → Option Budget → Result ℕ ℕ → List Frame
    → Option Budget → Type 0
ComesToNext weights old before (Ok levels) new after =
    (f : List ℕ) → AreWeights f weights
    → HasVisitedFirst f (length weights) before (path_groups old)
    → Awaits f (length weights) levels after (path_groups new)
ComesToNext weights old before (Err owner) new after =
    (f : List ℕ) → AreWeights f weights
    → HasVisitedFirst f (length weights) before (path_groups old)
    → length weights < (trailer_of f).count → IsBroken f 7 owner

-- the walk visited the objects below i, and no others
pub record SeenInTurn (f : List ℕ) (i : ℕ) (walk : Walk) : Type 0 where
  pub counted : length walk.weights.items ≡ i
  pub weighed : AreWeights f walk.weights.items
  pub stands : HasVisitedFirst f (length walk.weights.items) walk.left (path_groups walk.path.items)

-- the objects below i were handled: the walk visited them, or rule 7 is broken
abbrev pub Walked : List ℕ → ℕ → Walk → Type 0
Walked f i walk = MatchOption walk.broken_at (SeenInTurn f i walk) (λ holder. IsBroken f 7 holder)

-- all objects of a file were handled, can be decoded with valid references, and the keys of each
-- dictionary ascend
pub record WalkedAll (f : List ℕ) (walk : Walk) : Type 0 where
  pub some : 0 < (trailer_of f).count
  pub octets : AreOctets f
  pub read : Each IsWellRead f
  pub ascending : Each HasAscendingKeys f
  pub walked : Walked f (trailer_of f).count walk

-- The walk visits all objects in order, and the value of object 0 is within the limits.
pub record WalksWithinLimits (f : List ℕ) : Type 0 where
  pub numbered : IsNumberedInPreorder f
  pub fits : (v : Plist) → IsPlist v → Spells f 0 v → Fits v
