-- The content of the objects of the canonical file, given by objects of another file and a list of
-- references.
use Rattle.std.specs.Prelude.{ℕ, ◌+◌, ◌≤◌, List, [], ◌∷◌, length, map, take, drop, Result, Ok, Err}
use Rattle.std.specs.Prelude.{⊤, ◌<◌, ◌^◌}
use Rattle.plist_object.specs.declared.object.ObjectFault.{ObjectFault}
use Rattle.plist_object.specs.Objects.{Content, holds_scalar, holds_list, holds_table}
use Rattle.plist_object.specs.Places.{what_holds}
use Rattle.plist_object.specs.Shortest.{spelling_of}
use Rattle.plist_object.specs.Spelling.{least_width}
use Rattle.plist_write.specs.Canonical.{file_of}
use Rattle.plist_write.specs.Pieces.{CanSpellAll}
use Rattle.plist_write.specs.Spelling.{IsRead}
use Rattle.plist_write.specs.declared.plan.CanonicalObjects.{CanonicalObjects}

-- the decoded content, or an empty array if there is none
abbrev pub held_or_empty : Result Content ObjectFault → Content
held_or_empty (Ok held) = held
held_or_empty (Err e) = holds_list []

abbrev pub held_in : List ℕ → ℕ → Content
held_in f i = held_or_empty (what_holds f i)

-- the number of references in the content
abbrev pub reference_count : Content → ℕ
reference_count (holds_scalar s) = 0
reference_count (holds_list items) = length items
reference_count (holds_table keys values) = length keys + length keys

-- the content with the first of these references in place of its own
abbrev pub renumbered : Content → List ℕ → Content
renumbered (holds_scalar s) refs = holds_scalar s
renumbered (holds_list items) refs = holds_list (take (length items) refs)
renumbered (holds_table keys values) refs =
    holds_table (take (length keys) refs) (take (length keys) (drop (length keys) refs))

-- the content of these objects with these references, which they take in order
abbrev pub helds_of : List ℕ → List ℕ → List ℕ → List Content
helds_of f [] refs = []
helds_of f (i ∷ originals) refs =
    renumbered (held_in f i) refs ∷ helds_of f originals (drop (reference_count (held_in f i)) refs)

-- each object can be decoded, and there are enough references for all
abbrev pub AreSound : List ℕ → List ℕ → List ℕ → Type 0
AreSound f [] refs = ⊤
AreSound f (i ∷ originals) refs =
    IsRead f i
    × ((reference_count (held_in f i) ≤ length refs)
    × AreSound f originals (drop (reference_count (held_in f i)) refs))

-- the bytes of each object
abbrev pub octets_for : ℕ → List ℕ → List ℕ → List ℕ → List (List ℕ)
octets_for width f originals refs = map (spelling_of width) (helds_of f originals refs)

-- the bytes of each planned object
abbrev pub octets_planned : ℕ → List ℕ → CanonicalObjects → List (List ℕ)
octets_planned width f objects = octets_for width f objects.originals.items objects.references.items

-- the width of references to the planned objects
abbrev pub width_for : CanonicalObjects → ℕ
width_for objects = least_width (length objects.originals.items)

-- the bytes of each planned object in the canonical file
abbrev pub planned : List ℕ → CanonicalObjects → List (List ℕ)
planned f objects = octets_planned (width_for objects) f objects

-- the planned objects can be written, and so can a file of them
pub record CanSend (f : List ℕ) (objects : CanonicalObjects) : Type 0 where
  pub few : length objects.originals.items < 2 ^ 32
  pub sound : AreSound f objects.originals.items objects.references.items
  pub spellable : CanSpellAll (width_for objects)
      (helds_of f objects.originals.items objects.references.items)
  pub short : length (file_of (planned f objects)) < 2 ^ 64
