-- The units of a string, however it is stored.
use Rattle.std.specs.Prelude.{ℕ, ◌+◌, ◌*◌, Bool, true, false, List, [], ◌∷◌}
use Rattle.plist_value.specs.declared.text_ref.Kept.{Kept}
use Rattle.plist_value.specs.declared.text_ref.Kept.TheVariants.{Units, Ascii, Wide}
use Rattle.plist_value.specs.declared.text_ref.TextRef.{TextRef}

-- the units of two bytes each, big-endian; an odd byte at the end is ignored
abbrev pub wide_units : List ℕ → List ℕ
wide_units [] = []
wide_units (x ∷ []) = []
wide_units (high ∷ low ∷ rest) = (256 * high + low) ∷ wide_units rest

abbrev pub units_kept : Kept → List ℕ
units_kept (Units units) = units.now
units_kept (Ascii ascii) = ascii.text.now
units_kept (Wide octets) = wide_units octets.now

abbrev pub units_of : TextRef → List ℕ
units_of t = units_kept t.kept

-- whether the units are stored as ASCII bytes
abbrev pub is_kept_as_octets : Kept → Bool
is_kept_as_octets (Units units) = false
is_kept_as_octets (Ascii text) = true
is_kept_as_octets (Wide octets) = false

abbrev pub is_ascii_kept : TextRef → Bool
is_ascii_kept t = is_kept_as_octets t.kept

-- whether the units are stored as they are
abbrev pub is_kept_as_units : Kept → Bool
is_kept_as_units (Units units) = true
is_kept_as_units (Ascii text) = false
is_kept_as_units (Wide octets) = false

abbrev pub is_units_kept : TextRef → Bool
is_units_kept t = is_kept_as_units t.kept

-- whether the units are stored as two bytes each
abbrev pub is_kept_as_pairs : Kept → Bool
is_kept_as_pairs (Units units) = false
is_kept_as_pairs (Ascii text) = false
is_kept_as_pairs (Wide octets) = true

abbrev pub is_wide_kept : TextRef → Bool
is_wide_kept t = is_kept_as_pairs t.kept
