-- The progress of a walk, the nodes that it visits, and what a visit tells.
use Rattle.std.specs.Prelude.{◌≡◌, ℕ, ◌+◌, ◌-◌, ◌<◌, ◌≤◌, List, ◌∷◌, length}
use Rattle.std.specs.List.{Contains}
use Rattle.plist_value.specs.Budget.{Spends}
use Rattle.plist_value.specs.declared.TheConstants.{MAX_DEPTH}
use Rattle.plist_keys.specs.KeyOrder.{IsReady}
use Rattle.plist_object.specs.Layout.{trailer_of}
use Rattle.plist_object.specs.Views.{octets_of}
use Rattle.plist_binary.specs.declared.fault.BinaryFault.{BinaryFault}
use Rattle.plist_binary.specs.declared.progress.Progress.{Progress}
use Rattle.plist_binary.specs.declared.walker.Node.{Node}
use Rattle.plist_binary.specs.declared.walker.Walker.{Walker}
use Rattle.plist_binary.specs.Begins.{AreNext, IsBegun}
use Rattle.plist_binary.specs.Passing.{IsWithinLimits, Passes, PassesItems}
use Rattle.plist_binary.specs.Paths.{containers_of}
use Rattle.plist_binary.specs.Readings.{ReadsKeys, Refuses, RefusesItems, RefusesKeys}
use Rattle.plist_binary.specs.States.{AreStates, AreStatesBut}

-- what is known of objects and of keys is correct, if these containers lead to the current object,
-- and at most the limits are left
pub record IsProgress (f path : List ℕ) (progress : Progress) : Type 0 where
  pub states : AreStates f path progress.writable progress.states.items
  pub ready : IsReady f progress.order
  pub within : IsWithinLimits progress.left

-- like `IsProgress`, except for what is known of the object, which is not on the path
pub record IsProgressBut (f path : List ℕ) (object : ℕ) (progress : Progress) : Type 0 where
  pub new : ¬ Contains path object
  pub states : AreStatesBut f path progress.writable object progress.states.items
  pub ready : IsReady f progress.order
  pub within : IsWithinLimits progress.left

-- the progress is correct, and as writable as before
pub record IsProgressFrom (f path : List ℕ) (before after : Progress) : Type 0 where
  pub is : IsProgress f path after
  pub writable : after.writable ≡ before.writable

-- the bytes of the file that is walked
abbrev pub walked : Walker → List ℕ
walked walker = octets_of walker.file

-- the containers above a node, the last first, without and with the node's own object
abbrev pub above : Node → List ℕ
above node = containers_of node.path.now

abbrev pub inside : Node → List ℕ
inside node = node.object ∷ above node

-- the walk has come to the node
pub record IsDue (f : List ℕ) (node : Node) (progress : Progress) : Type 0 where
  pub listed : node.object < (trailer_of f).count
  pub begun : IsBegun f (above node) node.object progress.left
  pub depth : length (above node) + node.levels ≡ MAX_DEPTH
  pub so_far : IsProgress f (above node) progress

-- the node itself was taken from the budget: it is not on its own path, nor too deep
pub record IsTaken (f : List ℕ) (node : Node) (before after : Progress) : Type 0 where
  pub new : ¬ Contains (above node) node.object
  pub deep : 1 ≤ node.levels
  pub spent : Spends before.left 1 0 after.left
  pub so_far : IsProgressFrom f (above node) before after

-- the walk has come to these references of the container
pub record AreDue (f : List ℕ) (container : Node) (refs : List ℕ)
    (progress : Progress) : Type 0 where
  pub next : AreNext f (above container) container.object refs progress.left
  pub depth : length (above container) + container.levels ≡ MAX_DEPTH
  pub so_far : IsProgress f (inside container) progress

-- the node passes, or is refused
abbrev pub PassesNode : List ℕ → Node → Progress → Progress → ℕ → Type 0
PassesNode f node before after deep =
    Passes f node.object node.levels before.left deep after.left before.writable after.writable

abbrev pub RefusesNode : List ℕ → Node → Progress → BinaryFault → Type 0
RefusesNode f node progress = Refuses f node.object node.levels progress.left

-- these references of the container pass, or are refused
abbrev pub PassesBelow : List ℕ → Node → List ℕ → Progress → Progress → ℕ → Type 0
PassesBelow f container refs before after deep =
    PassesItems f refs (container.levels - 1) before.left deep after.left before.writable
    after.writable

abbrev pub RefusesBelow : List ℕ → Node → List ℕ → Progress → BinaryFault → Type 0
RefusesBelow f container refs progress =
    RefusesItems f refs (container.levels - 1) progress.left

-- these keys of the dictionary were read and are distinct, or are refused
pub record ReadsDistinct (f : List ℕ) (table : Node) (refs : List ℕ)
    (before after : Progress) : Type 0 where
  pub read : ReadsKeys f refs (table.levels - 1) before.left after.left
  pub so_far : IsProgressFrom f (inside table) before after

abbrev pub RefusesDistinct : List ℕ → Node → List ℕ → Progress → BinaryFault → Type 0
RefusesDistinct f table refs progress = RefusesKeys f refs (table.levels - 1) progress.left
