-- Small values for examples.
use Rattle.std.specs.Prelude.{ℕ, List, [], ◌∷◌}
use Rattle.plist_value.specs.Plist.{text, Plist, scalar, table, no_pairs, pair}

abbrev pub a : List ℕ
a = 97 ∷ []

abbrev pub b : List ℕ
b = 98 ∷ []

-- {"a" = "b"; "b" = "a";}
abbrev pub swapped : Plist
swapped = table (pair a (scalar (text b)) (pair b (scalar (text a)) no_pairs))

-- the same entries, the greater key first
abbrev pub unsorted : Plist
unsorted = table (pair b (scalar (text a)) (pair a (scalar (text b)) no_pairs))
