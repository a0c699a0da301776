-- Paths through a file, from its top.
use Rattle.std.specs.Prelude.{◌≡◌, ℕ, List, [], ◌∷◌, ⊤}
use Rattle.std.specs.List.{Contains}
use Rattle.plist_object.specs.Layout.{trailer_of, IsLaid}
use Rattle.plist_object.specs.Objects.{Content, holds_table}
use Rattle.plist_object.specs.Places.{Holds}
use Rattle.plist_object.specs.References.{references_of}
use Rattle.plist_binary.specs.declared.walker.Path.{Path, Above, In'}

-- object j refers to i
pub record Refers (f : List ℕ) (j i : ℕ) : Type 0 where
  pub held : Content
  pub holds : Holds f j held
  pub among : Contains (references_of held) i

-- the objects, the last first, lead from the top to i: each refers to the next, and the last one to
-- i
abbrev pub Leads : List ℕ → List ℕ → ℕ → Type 0
Leads f [] i = i ≡ (trailer_of f).top
Leads f (j ∷ before) i = Refers f j i × Leads f before j

-- i ends a path from the top, with these objects before it
pub record EndsPath (f : List ℕ) (i : ℕ) : Type 0 where
  pub laid : IsLaid f
  pub before : List ℕ
  pub leads : Leads f before i

-- none of these objects is twice among them
abbrev pub NoneTwice : List ℕ → Type 0
NoneTwice [] = ⊤
NoneTwice (j ∷ before) = (¬ Contains before j) × NoneTwice before

-- the containers of a `Path`
abbrev pub containers_of : Path → List ℕ
containers_of Above = []
containers_of (In' container at before) = container ∷ containers_of before

-- object j is a dictionary, and these are its references to keys
pub record HasKeys (f : List ℕ) (j : ℕ) (keys : List ℕ) : Type 0 where
  pub values : List ℕ
  pub holds : Holds f j (holds_table keys values)

-- object j ends a path and is a dictionary, and i is one of its references to keys
pub record IsKeyOf (f : List ℕ) (j i : ℕ) : Type 0 where
  pub ends : EndsPath f j
  pub keys : List ℕ
  pub table : HasKeys f j keys
  pub among : Contains keys i
