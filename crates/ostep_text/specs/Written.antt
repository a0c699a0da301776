-- The text written for a value.
use Rattle.std.specs.Prelude.{ℕ, Bool, true, false, not, ◌&&◌, List, [], ◌∷◌, ◌++◌}
use Rattle.std.specs.Prelude.{Option, Some, None, nat_eq, if◌then◌else◌, codes, flat_map}
use Rattle.std.specs.Char.{is_ascii_alphanumeric}
use Rattle.std.specs.List.{starts_with}
use Rattle.plist_value.specs.Plist.{Scalar, text, bytes, Plist, scalar, list, table, Items}
use Rattle.plist_value.specs.Plist.{no_items, item, Pairs, no_pairs, pair}
use Rattle.plist_value.specs.Digits.{two_digits}
use Rattle.plist_value.specs.Escapes.{quoted_unit}
use Rattle.plist_value.specs.Writable.{is_writable}

-- `<`, the digits of the bytes, `>`
abbrev pub written_data : List ℕ → List ℕ
written_data xs = codes "<" ++ flat_map two_digits xs ++ codes ">"

abbrev pub are_alphanumeric : List ℕ → Bool
are_alphanumeric [] = true
are_alphanumeric (unit ∷ units) = is_ascii_alphanumeric unit && are_alphanumeric units

abbrev pub is_empty : List ℕ → Bool
is_empty [] = true
is_empty (unit ∷ units) = false

-- only ASCII letters and digits, at least one, and not beginning like a binary file
abbrev pub is_unquoted : List ℕ → Bool
is_unquoted units = not (is_empty units) && are_alphanumeric units
    && not (starts_with nat_eq units (codes "bplist"))

-- unchanged if the string needs no quotes, else between them
abbrev pub written_text : List ℕ → List ℕ
written_text units = if is_unquoted units then units
    else codes "\"" ++ flat_map quoted_unit units ++ codes "\""

abbrev pub written_scalar : Scalar → List ℕ
written_scalar (text units) = written_text units
written_scalar (bytes xs) = written_data xs
written_scalar _ = []

-- An array is `(` and a newline, each item followed by `,` and a newline, and `)`. A dictionary is
-- `{` and a newline, each key followed by ` = `, its value, `;` and a newline, and `}`.
abbrev mutual
  pub written : Plist → List ℕ
  written (scalar s) = written_scalar s
  written (list vs) = codes "(\n" ++ written_items vs ++ codes ")"
  written (table ps) = codes "{\n" ++ written_pairs ps ++ codes "}"

  pub written_items : Items → List ℕ
  written_items no_items = []
  written_items (item v vs) = written v ++ codes ",\n" ++ written_items vs

  pub written_pairs : Pairs → List ℕ
  written_pairs no_pairs = []
  written_pairs (pair key v ps) = written_text key ++ codes " = " ++ written v ++ codes ";\n"
      ++ written_pairs ps

-- the whole text, with a newline at its end: Some if and only if the value is writable
abbrev pub text_of : Plist → Option (List ℕ)
text_of v = if is_writable v then Some (written v ++ codes "\n") else None
