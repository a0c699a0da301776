-- What an object without its references counts against the limits.
use Rattle.std.specs.Prelude.{◌≡◌, ℕ, ◌<◌, min, Bool, true, false, List, length, slice_index_or}
use Rattle.plist_value.specs.Limits.{payload_of_scalar}
use Rattle.plist_object.specs.Objects.{Content, holds_scalar, holds_list, holds_table}
use Rattle.plist_object.specs.Places.{Holds}
use Rattle.plist_canon.specs.declared.weights.Weight.{Weight}
use Rattle.plist_canon.specs.declared.weights.Weight.TheVariants.{Container, Scalar}
use Rattle.plist_canon.specs.declared.weights.TheConstants.{MOST_KEPT}

abbrev pub container : Weight
container = Container

-- the payload of a scalar is capped above the limit
abbrev pub weight_of : Content → Weight
weight_of (holds_scalar s) = Scalar (min (payload_of_scalar s) MOST_KEPT)
weight_of (holds_list refs) = Container
weight_of (holds_table keys values) = Container

abbrev pub is_scalar_weight : Weight → Bool
is_scalar_weight Container = false
is_scalar_weight (Scalar payload) = true

-- the payload of the object, which is 0 for a container
abbrev pub payload_of_weight : Weight → ℕ
payload_of_weight Container = 0
payload_of_weight (Scalar payload) = payload

-- the object can be decoded, and has this weight
pub record Weighs (f : List ℕ) (i : ℕ) (weight : Weight) : Type 0 where
  pub held : Content
  pub holds : Holds f i held
  pub is : weight ≡ weight_of held

-- these are the weights of the first objects
abbrev pub AreWeights : List ℕ → List Weight → Type 0
AreWeights f weights = (i : ℕ) → i < length weights
    → Weighs f i (slice_index_or weights i container)
