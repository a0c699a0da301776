-- What the objects of a file encode.
use Rattle.std.specs.Prelude.{◌≡◌, ℕ, ◌≤◌, List, length, map, ◌++◌}
use Rattle.std.specs.List.{zip}
use Rattle.std.specs.List.Sorted.{IsPermutation}
use Rattle.plist_value.specs.Plist.{Items, Pairs, AreItems, ArePairs}
use Rattle.plist_value.specs.Limits.{depth_of_items, depth_of_pairs}
use Rattle.plist_object.specs.Objects.{Content}
use Rattle.plist_object.specs.Places.{Holds}
use Rattle.plist_object.specs.Spelled.{SpellItems, SpellPairs}

-- the object can be decoded
pub record IsRead (f : List ℕ) (i : ℕ) : Type 0 where
  pub held : Content
  pub holds : Holds f i held

-- the objects encode items, in order, of at most `levels` levels
pub record SpellWithin (f refs : List ℕ) (levels : ℕ) : Type 0 where
  pub items : Items
  pub valid : AreItems items
  pub spell : SpellItems f refs items
  pub deep : depth_of_items items ≤ levels

-- the references to keys and to their values encode the pairs of a dictionary, in the order of the
-- rows
pub record SpellTable (f keys values : List ℕ) (rows : List (ℕ × ℕ)) (ps : Pairs) : Type 0 where
  pub moved : IsPermutation (zip keys values) rows
  pub spell : SpellPairs f rows ps
  pub valid : ArePairs ps

-- the references encode the pairs of a dictionary
pub record IsTableOf (f keys values : List ℕ) : Type 0 where
  pub rows : List (ℕ × ℕ)
  pub pairs : Pairs
  pub as_many : length keys ≡ length values
  pub spell : SpellTable f keys values rows pairs

-- the references to keys, and then those to their values, in the order of the rows
abbrev pub sorted_references : List (ℕ × ℕ) → List ℕ
sorted_references rows = map (λ row. row.0) rows ++ map (λ row. row.1) rows

-- the references encode a dictionary whose values have at most this many levels
pub record TableWithin (f keys values : List ℕ) (levels : ℕ) : Type 0 where
  pub rows : List (ℕ × ℕ)
  pub pairs : Pairs
  pub as_many : length keys ≡ length values
  pub spell : SpellTable f keys values rows pairs
  pub deep : depth_of_pairs pairs ≤ levels

-- the references point to keys, and then to values of at most this many levels
pub record PairsWithin (f refs : List ℕ) (levels : ℕ) : Type 0 where
  pub rows : List (ℕ × ℕ)
  pub pairs : Pairs
  pub turn : refs ≡ sorted_references rows
  pub spell : SpellPairs f rows pairs
  pub valid : ArePairs pairs
  pub deep : depth_of_pairs pairs ≤ levels
