-- The content of the objects of the positions of a tree, and their numbers.
use Rattle.std.specs.Prelude.{◌≡◌, ℕ, suc, ◌+◌, nat_lt, if◌then◌else◌, List, ◌++◌, length, map}
use Rattle.std.specs.Prelude.{Option, Some, None}
use Rattle.plist_value.specs.Plist.{Scalar, Plist, scalar, list, table}
use Rattle.plist_object.specs.Objects.{Content, holds_scalar, holds_list, holds_table}
use Rattle.plist_write.specs.Tree.{key_texts, item_positions, key_positions, value_positions}
use Rattle.plist_write.specs.Sharing.{least_position, kept_from, kept_positions, count_below}
use Rattle.plist_write.specs.Sharing.{number_among}

-- The list `part` occurs in `all`, from position k on.
pub record OccursAt {X : Type 0} (all : List X) (k : ℕ) (part : List X) : Type 0 where
  pub before : List X
  pub after : List X
  pub whole : all ≡ before ++ (part ++ after)
  pub position : length before ≡ k

-- the content of the object of position k, where the value is
abbrev pub held_at : (ℕ → ℕ) → ℕ → Plist → Content
held_at number k (scalar s) = holds_scalar s
held_at number k (list vs) = holds_list (map number (item_positions (suc k) vs))
held_at number k (table ps) =
    holds_table (map number (key_positions (suc k) ps))
    (map number (value_positions (suc k + length (key_texts ps)) ps))

-- the number of a position
abbrev pub number_in : List Plist → ℕ → ℕ
number_in all k = number_among all (kept_positions all) k

-- the content of the objects of the positions of `part`, which is in `all` from position k on
abbrev pub found_in : List Plist → ℕ → List Plist → List Content
found_in all k part = map (λ p. held_at (number_in all) p.0 p.1) (kept_from all k part)

-- the number of a scalar that occurs before position k
abbrev pub number_known : List Plist → ℕ → Scalar → Option ℕ
number_known all k s =
    let first = least_position s all in if nat_lt first k
    then Some (count_below first (kept_positions all)) else None
