-- Objects stored one after another after the header of a file.
use Rattle.std.specs.Prelude.{◌≡◌, ℕ, ◌<◌, ◌^◌, List, [], ◌++◌, length, map, drop, slice_get, Some}
use Rattle.std.specs.Prelude.{Result, Ok, Err}
use Rattle.std.specs.List.{AllByRecursion, concat}
use Rattle.plist_value.specs.Plist.{AllUnder, IsScalar}
use Rattle.plist_object.specs.declared.object.ObjectFault.{ObjectFault}
use Rattle.plist_object.specs.Layout.{header}
use Rattle.plist_object.specs.Objects.{Content, holds_scalar, holds_list, holds_table, object_in}
use Rattle.plist_object.specs.Shortest.{spelling_of}
use Rattle.plist_object.specs.Sizes.{IsSmall}
use Rattle.plist_object.specs.Files.{starts, file_with}

-- there are fewer than 2^32 references, and each has four bytes
pub record AreKept (refs : List ℕ) : Type 0 where
  pub few : length refs < 2 ^ 32
  pub fit : AllUnder 4294967296 refs

-- what a draft may contain: valid scalars, references of four bytes, as many keys as values
abbrev pub IsKept : Content → Type 0
IsKept (holds_scalar s) = IsScalar s × IsSmall s
IsKept (holds_list refs) = AreKept refs
IsKept (holds_table keys values) = (length keys ≡ length values) × AreKept keys × AreKept values

-- the encoding of each object, with references of four bytes
abbrev pub spellings : List Content → List (List ℕ)
spellings helds = map (spelling_of 4) helds

-- the file of these objects: offsets and references have four bytes
unfoldable pub draft_file : ℕ → List Content → List ℕ
draft_file top helds = file_with 4 4 top (spellings helds)

-- the object that was read, or an empty array if none was
abbrev pub held_or_none : Result (Content × List ℕ) ObjectFault → Content
held_or_none (Ok read) = read.0
held_or_none (Err fault) = holds_list []

-- the object at the offset
abbrev pub held_from : List ℕ → ℕ → Content
held_from octets offset = held_or_none (object_in 4 (drop offset octets))

-- the objects at the offsets
unfoldable pub helds_at : List ℕ → List ℕ → List Content
helds_at octets offsets = map (held_from octets) offsets

-- The bytes are the header and these objects one after another, and the offsets are those of the
-- objects.
pub record Stores (octets offsets : List ℕ) (helds : List Content) : Type 0 where
  pub spelled : octets ≡ header ++ concat (spellings helds)
  pub placed : offsets ≡ starts 8 (spellings helds)
  pub kept : AllByRecursion IsKept helds

-- the bytes and the offsets are those of the objects found there
abbrev pub IsDraft : List ℕ → List ℕ → Type 0
IsDraft octets offsets = Stores octets offsets (helds_at octets offsets)

-- the bytes at the offset of the object with this number begin with this encoding
pub record StandsAgain (octets offsets : List ℕ) (number : ℕ) (spelled : List ℕ) : Type 0 where
  pub offset : ℕ
  pub behind : List ℕ
  pub placed : slice_get offsets number ≡ Some offset
  pub stands : drop offset octets ≡ spelled ++ behind
