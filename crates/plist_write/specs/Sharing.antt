-- Which positions of a tree have their own object, and how objects are numbered: each container has
-- one, and equal scalars share the object of the first of them.
use Rattle.std.specs.Prelude.{ℕ, suc, ◌==◌, nat_lt, if◌then◌else◌, Bool, false, List, [], ◌∷◌}
use Rattle.std.specs.Prelude.{slice_index_or}
use Rattle.plist_value.specs.Plist.{Scalar, Plist, scalar, list, table, no_items}
use Rattle.plist_value.specs.Equality.{scalar_eq}

-- the value is this scalar
abbrev pub is_scalar : Scalar → Plist → Bool
is_scalar s (scalar t) = scalar_eq s t
is_scalar s (list vs) = false
is_scalar s (table ps) = false

-- the least position with this scalar
abbrev pub least_position : Scalar → List Plist → ℕ
least_position s [] = 0
least_position s (v ∷ vs) = let later = suc (least_position s vs) in if is_scalar s v then 0 else
    later

-- The first position that shares its object with position k, where v is: k itself for a container,
-- the least position with an equal scalar for a scalar.
abbrev pub first_position : List Plist → ℕ → Plist → ℕ
first_position all k (scalar s) = least_position s all
first_position all k (list vs) = k
first_position all k (table ps) = k

-- the positions from k on, where `rest` is, that have their own object, each with its value
abbrev pub kept_from : List Plist → ℕ → List Plist → List (ℕ × Plist)
kept_from all k [] = []
kept_from all k (v ∷ rest) =
    let others = kept_from all (suc k) rest in
    if first_position all k v == k then (k, v) ∷ others else others

abbrev pub kept_positions : List Plist → List (ℕ × Plist)
kept_positions all = kept_from all 0 all

-- the number of positions below n
abbrev pub count_below : ℕ → List (ℕ × Plist) → ℕ
count_below n [] = 0
count_below n (p ∷ positions) = let others = count_below n positions in if nat_lt p.0 n then suc
    others
    else others

-- the value at position k, an empty array past the end
abbrev pub value_at : List Plist → ℕ → Plist
value_at all k = slice_index_or all k (list no_items)

-- The number of the object of position k: the number of positions with their own object that are
-- below the first position that shares it.
abbrev pub number_among : List Plist → List (ℕ × Plist) → ℕ → ℕ
number_among all kept k = let first = first_position all k
    (value_at all k) in count_below first kept
