-- What the walk from object 0 still has to visit.
use Rattle.std.specs.Prelude.{◌≡◌, ◌↔◌, ℕ, ◌<◌, false, List, [], ◌∷◌, ◌++◌, length, drop}
use Rattle.std.specs.Prelude.{slice_index_or}
use Rattle.std.specs.List.{Contains}
use Rattle.plist_object.specs.Objects.{Content, holds_scalar, holds_list, holds_table}
use Rattle.plist_object.specs.Views.{numbers_of}
use Rattle.plist_canon.specs.Rules.{Reference, held_by, ComesTo}
use Rattle.plist_canon.specs.Weights.{container, is_scalar_weight}
use Rattle.plist_canon.specs.declared.weights.Weight.{Weight}
use Rattle.plist_canon.specs.declared.preorder.Frame.{Frame}

-- The objects below `seen` were visited in order, and the walk continues with these references.
pub record IsWalking (f : List ℕ) (seen : ℕ) (left : List Reference) : Type 0 where
  pub entries : List ℕ
  pub comes : ComesTo f entries left
  pub visited : (i : ℕ) → Contains entries i ↔ i < seen

-- references of one container, and the depth allowed for the values that they refer to
pub record Group : Type 0 where
  pub owner : ℕ
  pub levels : ℕ
  pub refs : List ℕ

abbrev pub grouped : ℕ → ℕ → List ℕ → Group
grouped owner levels refs = record { owner = owner; levels = levels; refs = refs }

-- the references of the groups, each with its container
abbrev pub references_left : List Group → List Reference
references_left [] = []
references_left (group ∷ groups) = held_by group.owner group.refs ++ references_left groups

-- the references of a frame that are not visited yet
abbrev pub frame_group : Frame → Group
frame_group frame = grouped frame.owner frame.levels (drop frame.done (numbers_of frame.refs))

-- the references of a path that are not visited yet, those of the last frame first
abbrev pub path_groups : List Frame → List Group
path_groups [] = []
path_groups (frame ∷ frames) = path_groups frames ++ (frame_group frame ∷ [])

-- the references of an object, with the depth allowed for their values
abbrev pub groups_of : ℕ → ℕ → Content → List Group
groups_of owner levels (holds_scalar s) = []
groups_of owner levels (holds_list refs) = grouped owner levels refs ∷ []
groups_of owner levels (holds_table keys values) = grouped owner levels keys
    ∷ grouped owner levels values ∷ []

-- the number is not that of a visited scalar, if these are the weights of the visited objects
abbrev pub IsNoneSeen : List Weight → ℕ → Type 0
IsNoneSeen weights i = i < length weights → is_scalar_weight (slice_index_or weights i container)
    ≡ false
