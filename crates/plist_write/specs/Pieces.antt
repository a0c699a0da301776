-- The bytes of the objects that are sent, and the conditions for encoding them.
use Rattle.std.specs.Prelude.{◌≡◌, ℕ, ◌<◌, ◌^◌, List, length, All, ⊤}
use Rattle.std.specs.List.{AllByRecursion}
use Rattle.plist_value.specs.Scalars.{content_of}
use Rattle.plist_object.specs.Objects.{Content, holds_scalar, holds_list, holds_table}
use Rattle.plist_object.specs.Sizes.{IsSmall}
use Rattle.plist_object.specs.Spelling.{scalar_spelling, list_spelling, table_spelling}
use Rattle.plist_write.specs.declared.new_objects.NewObject.{NewObject}
use Rattle.plist_write.specs.declared.new_objects.NewObject.TheVariants as new

-- the bytes of an object with references of `width` bytes
abbrev pub octets_in_object : ℕ → NewObject → List ℕ
octets_in_object width (new.Spelled octets) = octets.now
octets_in_object width (new.Scalar s) = scalar_spelling (content_of s)
octets_in_object width (new.List refs) = list_spelling width refs.now
octets_in_object width (new.Table keys values) = table_spelling width keys.now values.now

-- there are fewer than 2^32 references, and each fits the width
pub record AreSpellable (width : ℕ) (refs : List ℕ) : Type 0 where
  pub few : length refs < 2 ^ 32
  pub fit : All (λ reference. reference < 256 ^ width) refs

abbrev pub CanSpell : ℕ → Content → Type 0
CanSpell width (holds_scalar s) = IsSmall s
CanSpell width (holds_list refs) = AreSpellable width refs
CanSpell width (holds_table keys values) = (length keys ≡ length values) × AreSpellable width keys
    × AreSpellable width values

abbrev pub CanSpellAll : ℕ → List Content → Type 0
CanSpellAll width helds = AllByRecursion (CanSpell width) helds

-- bytes that are already encoded have no condition
abbrev pub CanSpellObject : ℕ → NewObject → Type 0
CanSpellObject width (new.Spelled octets) = ⊤
CanSpellObject width (new.Scalar s) = CanSpell width (holds_scalar (content_of s))
CanSpellObject width (new.List refs) = CanSpell width (holds_list refs.now)
CanSpellObject width (new.Table keys values) = CanSpell width (holds_table keys.now values.now)
