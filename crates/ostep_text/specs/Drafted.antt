-- What a draft encodes while a text is read into it.
use Rattle.std.specs.Prelude.{ℕ, List}
use Rattle.std.specs.List.{zip}
use Rattle.std.specs.List.Sorted.{IsPermutation}
use Rattle.plist_value.specs.Plist.{Plist, Pairs, text}
use Rattle.plist_object.specs.Objects.{Content, holds_scalar}
use Rattle.plist_draft.specs.Encoded.{HasContent, SpellsIn, SpellPairsIn}
use Rattle.ostep_text.specs.declared.entries.Entries.{Entries}
use Rattle.ostep_text.specs.Text.{IsText}

-- what was appended encodes something of which both hold: what it takes of the limits, and what was
-- read
pub record IsBuilt {N V : Type 0} (means : N → V → Type 0) (node : N)
    (Takes Reads : V → Type 0) : Type 0 where
  pub meant : V
  pub means_it : means node meant
  pub taken : Takes meant
  pub read : Reads meant

-- the row's objects encode the key and the value
abbrev pub SpellsRow : List Content → List ℕ → ℕ × ℕ → Plist → Type 0
SpellsRow helds key row v =
    HasContent helds row.0 (holds_scalar (text key)) × SpellsIn helds row.1 v

-- the rows, in some order, encode the pairs
pub record SpellsRows (helds : List Content) (rows : Entries) (pairs : Pairs) : Type 0 where
  pub moved : List (ℕ × ℕ)
  pub same : IsPermutation (zip rows.keys.items rows.values.items) moved
  pub spell : SpellPairsIn helds moved pairs

-- the object encodes a value of which the bytes are a text
abbrev pub IsDrafted : List ℕ → List Content → ℕ → Type 0
IsDrafted octets helds number = (v : Plist) × SpellsIn helds number v × IsText octets v
