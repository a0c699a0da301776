-- Values that have an OpenStep text: they contain no other scalars than strings and data.
use Rattle.std.specs.Prelude.{Bool, true, false, ◌&&◌}
use Rattle.plist_value.specs.Plist.{Scalar, text, bytes, Plist, scalar, list, table, Items}
use Rattle.plist_value.specs.Plist.{no_items, item, Pairs, no_pairs, pair}

abbrev pub is_writable_scalar : Scalar → Bool
is_writable_scalar (text units) = true
is_writable_scalar (bytes xs) = true
is_writable_scalar _ = false

abbrev mutual
  pub is_writable : Plist → Bool
  is_writable (scalar s) = is_writable_scalar s
  is_writable (list vs) = are_writable_items vs
  is_writable (table ps) = are_writable_pairs ps

  pub are_writable_items : Items → Bool
  are_writable_items no_items = true
  are_writable_items (item v vs) = is_writable v && are_writable_items vs

  pub are_writable_pairs : Pairs → Bool
  are_writable_pairs no_pairs = true
  are_writable_pairs (pair key v ps) = is_writable v && are_writable_pairs ps
