-- The sorted tree of a value, and where the children of its containers are in it.
use Rattle.std.specs.Prelude.{ℕ, suc, ◌+◌, List, [], ◌∷◌, ◌++◌}
use Rattle.plist_value.specs.Plist.{text, Plist, scalar, list, table, Items, no_items, item, Pairs}
use Rattle.plist_value.specs.Plist.{no_pairs, pair}
use Rattle.plist_value.specs.Limits.{nodes}

-- the keys of a dictionary as strings, in order
abbrev pub key_texts : Pairs → List Plist
key_texts no_pairs = []
key_texts (pair key v ps) = scalar (text key) ∷ key_texts ps

-- The tree in preorder: the value, and then the trees of its items, or its keys and then the trees
-- of its values. The positions of a tree are counted from 0.
abbrev mutual
  pub preorder : Plist → List Plist
  preorder (scalar s) = scalar s ∷ []
  preorder (list vs) = list vs ∷ preorder_items vs
  preorder (table ps) = table ps ∷ (key_texts ps ++ preorder_values ps)

  pub preorder_items : Items → List Plist
  preorder_items no_items = []
  preorder_items (item v vs) = preorder v ++ preorder_items vs

  pub preorder_values : Pairs → List Plist
  preorder_values no_pairs = []
  preorder_values (pair key v ps) = preorder v ++ preorder_values ps

-- The positions of items of which the first is at k: each item comes after the tree of the one
-- before.
abbrev pub item_positions : ℕ → Items → List ℕ
item_positions k no_items = []
item_positions k (item v vs) = k ∷ item_positions (k + nodes v) vs

-- the positions of keys of which the first is at k
abbrev pub key_positions : ℕ → Pairs → List ℕ
key_positions k no_pairs = []
key_positions k (pair key v ps) = k ∷ key_positions (suc k) ps

-- the positions of values of which the first is at k
abbrev pub value_positions : ℕ → Pairs → List ℕ
value_positions k no_pairs = []
value_positions k (pair key v ps) = k ∷ value_positions (k + nodes v) ps
