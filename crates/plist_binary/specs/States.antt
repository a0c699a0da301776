-- What is known of the objects of a file while it is validated.
use Rattle.std.specs.Prelude.{◌≡◌, ◌≢◌, ℕ, ◌*◌, ◌≤◌, Bool, true, List, length, slice_index_or, ⊤}
use Rattle.std.specs.List.{Contains}
use Rattle.plist_value.specs.Plist.{Plist, scalar, text, AreUnits, IsPlist}
use Rattle.plist_value.specs.Limits.{nodes, depth, payload}
use Rattle.plist_value.specs.Writable.{is_writable}
use Rattle.plist_object.specs.Spelled.{Spells}
use Rattle.plist_binary.specs.declared.states.ValueSize.{ValueSize}
use Rattle.plist_binary.specs.declared.states.ObjectState.{ObjectState}
use Rattle.plist_binary.specs.declared.states.ObjectState.TheVariants.{Unseen, Open, Passed, Key}

-- the object encodes a value of exactly this many nodes and this much payload, and at most this
-- depth, which is writable if all values are
pub record IsValueSize (f : List ℕ) (all : Bool) (i : ℕ) (size : ValueSize) : Type 0 where
  pub value : Plist
  pub spells : Spells f i value
  pub valid : IsPlist value
  pub nodes_are : nodes value ≡ size.nodes
  pub payload_is : payload value ≡ size.payload
  pub deep : depth value ≤ size.depth
  pub writable : all ≡ true → is_writable value ≡ true

-- the object contains a string of this payload
pub record IsKey (f : List ℕ) (i size : ℕ) : Type 0 where
  pub units : List ℕ
  pub spells : Spells f i (scalar (text units))
  pub valid : AreUnits units
  pub payload_is : 2 * length units ≡ size

-- the state of the object is correct, if these containers lead to the current object
abbrev pub IsState : List ℕ → List ℕ → Bool → ℕ → ObjectState → Type 0
IsState f path all i Unseen = ⊤
IsState f path all i Open = Contains path i
IsState f path all i (Passed deep n size) =
    IsValueSize f all i (record { depth = deep; nodes = n; payload = size })
IsState f path all i (Key size) = IsKey f i size

abbrev pub state_at_object : List ObjectState → ℕ → ObjectState
state_at_object states i = slice_index_or states i Unseen

-- the state of each object is correct, and exactly the containers on the path are open
pub record AreStates (f path : List ℕ) (all : Bool) (states : List ObjectState) : Type 0 where
  pub each : (i : ℕ) → IsState f path all i (state_at_object states i)
  pub opened : (i : ℕ) → Contains path i → state_at_object states i ≡ Open

-- like `AreStates`, for all objects except j
pub record AreStatesBut (f path : List ℕ) (all : Bool) (j : ℕ)
    (states : List ObjectState) : Type 0 where
  pub each : (i : ℕ) → i ≢ j → IsState f path all i (state_at_object states i)
  pub opened : (i : ℕ) → i ≢ j → Contains path i → state_at_object states i ≡ Open

-- the object has this state now, and all others have their old ones
pub record IsRecorded (before : List ObjectState) (object : ℕ) (state : ObjectState)
    (after : List ObjectState) : Type 0 where
  pub here : state_at_object after object ≡ state
  pub elsewhere : (i : ℕ) → i ≢ object → state_at_object after i ≡ state_at_object before i
