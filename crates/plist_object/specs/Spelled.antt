-- Which property lists a file encodes.
use Rattle.std.specs.Prelude.{◌≡◌, ℕ, ◌≤◌, List, [], ◌∷◌}
use Rattle.std.specs.List.{zip}
use Rattle.std.specs.List.Sorted.{IsPermutation}
use Rattle.plist_value.specs.Plist.{text, Plist, scalar, list, table, Items, no_items, item, Pairs}
use Rattle.plist_value.specs.Plist.{no_pairs, pair, AreOctets, IsPlist}
use Rattle.plist_value.specs.Limits.{depth, Fits}
use Rattle.plist_object.specs.Layout.{trailer_of, IsLaid}
use Rattle.plist_object.specs.Objects.{holds_scalar, holds_list, holds_table}
use Rattle.plist_object.specs.Places.{Holds}

-- Object i encodes the value. A dictionary may contain the pairs in any order.
abbrev mutual
  pub Spells : List ℕ → ℕ → Plist → Type 0
  Spells f i (scalar s) = Holds f i (holds_scalar s)
  Spells f i (list vs) = (refs : List ℕ) × (Holds f i (holds_list refs) × SpellItems f refs vs)
  Spells f i (table ps) =
      (keys : List ℕ)
      × ((values : List ℕ)
      × ((rows : List (ℕ × ℕ))
      × (Holds f i (holds_table keys values)
      × (IsPermutation (zip keys values) rows × SpellPairs f rows ps))))

  -- the references encode the items in order
  pub SpellItems : List ℕ → List ℕ → Items → Type 0
  SpellItems f refs no_items = refs ≡ []
  SpellItems f [] (item v vs) = ⊥
  SpellItems f (i ∷ refs) (item v vs) = Spells f i v × SpellItems f refs vs

  -- the references of each row encode a key and its value, in order
  pub SpellPairs : List ℕ → List (ℕ × ℕ) → Pairs → Type 0
  SpellPairs f rows no_pairs = rows ≡ []
  SpellPairs f [] (pair key v ps) = ⊥
  SpellPairs f (row ∷ rows) (pair key v ps) = Holds f row.0 (holds_scalar (text key))
      × Spells f row.1 v × SpellPairs f rows ps

-- the object encodes a value of at most `levels` levels
pub record SpellsWithin (f : List ℕ) (i levels : ℕ) : Type 0 where
  pub value : Plist
  pub valid : IsPlist value
  pub spells : Spells f i value
  pub deep : depth value ≤ levels

-- the bytes are a binary property list that encodes the value
pub record IsBinary (f : List ℕ) (v : Plist) : Type 0 where
  pub octets : AreOctets f
  pub laid : IsLaid f
  pub spells : Spells f (trailer_of f).top v
  pub valid : IsPlist v
  pub fits : Fits v
