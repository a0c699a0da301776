-- The property list that a `Value` is.
use Rattle.std.specs.Prelude.{ℕ, List, [], ◌∷◌, map}
use Rattle.plist_value.specs.Plist.{text, whole, flag, real4, real8, moment, bytes, Plist, scalar}
use Rattle.plist_value.specs.Plist.{list, table, Items, no_items, item, Pairs, no_pairs, pair}
use Rattle.plist_value.specs.Wholes.{integer_of}
use Rattle.plist_value.specs.declared.value.Value.{Value, fold-Value}
use Rattle.plist_value.specs.declared.value.Value.TheOpen.{Value-F}

abbrev pub items_of : List Plist → Items
items_of [] = no_items
items_of (v ∷ vs) = item v (items_of vs)

abbrev pub pairs_of : List (List ℕ × Plist) → Pairs
pairs_of [] = no_pairs
pairs_of (p ∷ ps) = pair p.0 p.1 (pairs_of ps)

-- one level; the values in it are already property lists
abbrev pub view_step : Value-F Plist → Plist
view_step (Value-F.Text units) = scalar (text units)
view_step (Value-F.Whole w) = scalar (whole (integer_of w))
view_step (Value-F.Flag b) = scalar (flag b)
view_step (Value-F.Real4 xs) = scalar (real4 xs)
view_step (Value-F.Real8 xs) = scalar (real8 xs)
view_step (Value-F.Moment xs) = scalar (moment xs)
view_step (Value-F.Bytes xs) = scalar (bytes xs.items)
view_step (Value-F.List vs) = list (items_of vs.items)
view_step (Value-F.Table ps) = table (pairs_of ps.entries)

abbrev pub view : Value → Plist
view = fold-Value Plist view_step

abbrev pub view_items : List Value → Items
view_items vs = items_of (map view vs)

abbrev pub view_pairs : List (List ℕ × Value) → Pairs
view_pairs ps = pairs_of (map (λ p. (p.0, view p.1)) ps)
