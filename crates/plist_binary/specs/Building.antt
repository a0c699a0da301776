-- Building the value of a validated file.
use Rattle.std.specs.Prelude.{◌≡◌, ℕ, ◌≤◌, List, length}
use Rattle.std.specs.List.{Contains, zip}
use Rattle.plist_value.specs.Plist.{Plist, Items, Pairs, IsPlist, AreItems}
use Rattle.plist_value.specs.Limits.{depth_of_pairs}
use Rattle.plist_object.specs.Objects.{Content}
use Rattle.plist_object.specs.Places.{Holds}
use Rattle.plist_object.specs.Spelled.{Spells, SpellItems, SpellsWithin}
use Rattle.plist_binary.specs.Readings.{PairsSpelled}

-- the object can be decoded
abbrev pub HoldsSome : List ℕ → ℕ → Type 0
HoldsSome f i = (held : Content) × Holds f i held

-- each of the references points to an object that encodes a value of at most `levels` levels
abbrev pub AllSpellWithin : List ℕ → List ℕ → ℕ → Type 0
AllSpellWithin f refs levels = (i : ℕ) → Contains refs i → SpellsWithin f i levels

-- the references to keys and to values give pairs that are at most `levels` deep
pub record SpellsPairsWithin (f keys values : List ℕ) (levels : ℕ) : Type 0 where
  pub pairs : Pairs
  pub long : length keys ≡ length values
  pub spelled : PairsSpelled f (zip keys values) pairs
  pub deep : depth_of_pairs pairs ≤ levels

-- the object encodes the value, and the references encode the items
pub record IsSpelled (f : List ℕ) (i : ℕ) (v : Plist) : Type 0 where
  pub spells : Spells f i v
  pub valid : IsPlist v

pub record AreSpelled (f refs : List ℕ) (vs : Items) : Type 0 where
  pub spell : SpellItems f refs vs
  pub valid : AreItems vs
