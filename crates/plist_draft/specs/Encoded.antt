-- The values that objects encode, by the content of each object.
use Rattle.std.specs.Prelude.{◌≡◌, ℕ, List, [], ◌∷◌, slice_get, Some}
use Rattle.std.specs.List.{zip}
use Rattle.std.specs.List.Sorted.{IsPermutation}
use Rattle.plist_value.specs.Plist.{text, Plist, scalar, list, table, Items, no_items, item, Pairs}
use Rattle.plist_value.specs.Plist.{no_pairs, pair}
use Rattle.plist_object.specs.Layout.{trailer_of}
use Rattle.plist_object.specs.Objects.{Content, holds_scalar, holds_list, holds_table}
use Rattle.plist_object.specs.Places.{Holds}

-- The object i encodes the value, if `HasContent i held` means that the object i has this content.
-- A dictionary has its entries in any order.
abbrev mutual
  pub SpellsBy : (ℕ → Content → Type 0) → ℕ → Plist → Type 0
  SpellsBy HasContent i (scalar s) = HasContent i (holds_scalar s)
  SpellsBy HasContent i (list vs) = (refs : List ℕ)
      × (HasContent i (holds_list refs) × SpellItemsBy HasContent refs vs)
  SpellsBy HasContent i (table ps) =
      (keys : List ℕ)
      × ((values : List ℕ)
      × ((rows : List (ℕ × ℕ))
      × (HasContent i (holds_table keys values)
      × (IsPermutation (zip keys values) rows × SpellPairsBy HasContent rows ps))))

  -- the references encode the items in order
  pub SpellItemsBy : (ℕ → Content → Type 0) → List ℕ → Items → Type 0
  SpellItemsBy HasContent refs no_items = refs ≡ []
  SpellItemsBy HasContent [] (item v vs) = ⊥
  SpellItemsBy HasContent (i ∷ refs) (item v vs) = SpellsBy HasContent i v
      × SpellItemsBy HasContent refs vs

  -- the references of each row encode a key and its value, in order
  pub SpellPairsBy : (ℕ → Content → Type 0) → List (ℕ × ℕ) → Pairs → Type 0
  SpellPairsBy HasContent rows no_pairs = rows ≡ []
  SpellPairsBy HasContent [] (pair key v ps) = ⊥
  SpellPairsBy HasContent (row ∷ rows) (pair key v ps) =
      HasContent row.0 (holds_scalar (text key)) × SpellsBy HasContent row.1 v
      × SpellPairsBy HasContent rows ps

-- the object i of these objects has this content
abbrev pub HasContent : List Content → ℕ → Content → Type 0
HasContent helds i held = slice_get helds i ≡ Some held

-- among these objects, object i encodes the value
abbrev pub SpellsIn : List Content → ℕ → Plist → Type 0
SpellsIn helds = SpellsBy (HasContent helds)

-- among these objects, those that the references point to encode the items in order
abbrev pub SpellItemsIn : List Content → List ℕ → Items → Type 0
SpellItemsIn helds = SpellItemsBy (HasContent helds)

-- among these objects, those that the rows point to encode the keys and values in order
abbrev pub SpellPairsIn : List Content → List (ℕ × ℕ) → Pairs → Type 0
SpellPairsIn helds = SpellPairsBy (HasContent helds)

-- whatever the old objects encode, the new ones encode under the same numbers
pub record Keeps (old new : List Content) : Type 0 where
  pub value : (i : ℕ) (v : Plist) → SpellsIn old i v → SpellsIn new i v
  pub items : (refs : List ℕ) (vs : Items) → SpellItemsIn old refs vs → SpellItemsIn new refs vs
  pub pairs : (rows : List (ℕ × ℕ)) (ps : Pairs) → SpellPairsIn old rows ps
      → SpellPairsIn new rows ps

-- the file contains each of the objects under its number, and this one is at its top
pub record Shows (f : List ℕ) (top : ℕ) (helds : List Content) : Type 0 where
  pub topmost : (trailer_of f).top ≡ top
  pub holds : (i : ℕ) (held : Content) → HasContent helds i held → Holds f i held
