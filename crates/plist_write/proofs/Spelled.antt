-- A file encodes the value if the object of each position contains what is there.
use Rattle.std.proofs.Common.{◌≡◌, ℕ, suc, ◌+◌, ◌<◌, List, ◌++◌, length, map, refl}
use Rattle.std.specs.List.{zip}
use Rattle.std.proofs.lemmas.List.Sorted.{IsPermutation-refl}
use Rattle.plist_value.specs.Plist.{text, Plist, scalar, list, table, Items, no_items, item, Pairs, no_pairs, pair}
use Rattle.plist_object.specs.Places.{Holds}
use Rattle.plist_object.specs.Spelled.{Spells, SpellItems, SpellPairs}
use Rattle.plist_write.specs.Tree.{key_texts, preorder, preorder_items, preorder_values, item_positions, key_positions, value_positions}
use Rattle.plist_write.specs.Sharing.{value_at}
pub use Rattle.plist_write.specs.Found.{held_at}
use Rattle.plist_write.proofs.Trees.{length-preorder, OccursAt, OccursAt-front, OccursAt-rest, OccursAt-tail, OccursAt-head, OccursAt-tree}

module _ (f : List ℕ) (all : List Plist) (number : ℕ → ℕ)
    (reads : (k : ℕ) (v : Plist) → value_at all k ≡ v → k < length all → Holds f (number k) (held_at number k v)) where
  mutual
    pub Spells-tree : (v : Plist) (k : ℕ) → OccursAt all k (preorder v) → Spells f (number k) v
    Spells-tree (scalar s) k h = let at = OccursAt-tree (scalar s) h in reads k (scalar s) at.0 at.1
    Spells-tree (list vs) k h =
        let at = OccursAt-tree (list vs) h in
        let items = SpellItems-tree vs (suc k) (OccursAt-tail (list vs) (preorder_items vs) h) in
        (map number (item_positions (suc k) vs), (reads k (list vs) at.0 at.1, items))
    Spells-tree (table ps) k h =
        let at = OccursAt-tree (table ps) h in
        let keys = map number (key_positions (suc k) ps) in
        let values = map number (value_positions (suc k + length (key_texts ps)) ps) in
        let below = OccursAt-tail (table ps) (key_texts ps ++ preorder_values ps) h in
        let pairs = SpellPairs-tree ps (suc k) (suc k + length (key_texts ps)) (OccursAt-front (key_texts ps) (preorder_values ps) below) (OccursAt-rest (key_texts ps) (preorder_values ps) (length (key_texts ps)) refl below) in
        (keys, (values, (zip keys values, (reads k (table ps) at.0 at.1, (IsPermutation-refl (zip keys values), pairs)))))

    SpellItems-tree : (vs : Items) (k : ℕ) → OccursAt all k (preorder_items vs) → SpellItems f (map number (item_positions k vs)) vs
    SpellItems-tree no_items k h = refl
    SpellItems-tree (item v vs) k h =
        let first = Spells-tree v k (OccursAt-front (preorder v) (preorder_items vs) h) in
        (first, SpellItems-tree vs (k + _) (OccursAt-rest (preorder v) (preorder_items vs) _ (length-preorder v) h))

    SpellPairs-tree : (ps : Pairs) (j k : ℕ) → OccursAt all j (key_texts ps) → OccursAt all k (preorder_values ps) → SpellPairs f (zip (map number (key_positions j ps)) (map number (value_positions k ps))) ps
    SpellPairs-tree no_pairs j k keys values = refl
    SpellPairs-tree (pair key v ps) j k keys values =
        let at = OccursAt-head (scalar (text key)) (key_texts ps) keys in
        let first = Spells-tree v k (OccursAt-front (preorder v) (preorder_values ps) values) in
        let later = OccursAt-rest (preorder v) (preorder_values ps) _ (length-preorder v) values in
        (reads j (scalar (text key)) at.0 at.1, first, SpellPairs-tree ps (suc j) (k + _) (OccursAt-tail (scalar (text key)) (key_texts ps) keys) later)
