-- Each position of the tree of a value within the limits has a value within the limits.
use Rattle.std.proofs.Common.{ℕ, zero, suc, ◌<◌, ◌≤◌, List, [], ◌∷◌, ◌++◌, length, arith}
use Rattle.std.specs.List.{AllByRecursion}
use Rattle.plist_value.specs.Plist.{Scalar, text, bytes, Plist, scalar, list, table, Items, no_items, item, Pairs, no_pairs, pair, IsPlist, AreItems, ArePairs}
use Rattle.plist_value.specs.Limits.{nodes, nodes_of_items, nodes_of_pairs, payload, payload_of_items, payload_of_pairs, Fits}
use Rattle.plist_object.specs.Sizes.{IsSmall}
use Rattle.plist_write.specs.Tree.{key_texts, preorder, preorder_items, preorder_values}
use Rattle.plist_write.specs.Sharing.{value_at}

-- a value that is valid and within the limits of nodes and payload
pub record IsSound (v : Plist) : Type 0 where
  pub valid : IsPlist v
  pub nodes_fit : nodes v ≤ 16777216
  pub payload_fits : payload v ≤ 1073741824

abbrev pub EachSound : List Plist → Type 0
EachSound vs = AllByRecursion IsSound vs

pub EachSound-append : (xs ys : List Plist) → EachSound xs → EachSound ys → EachSound (xs ++ ys)
EachSound-append [] ys h k = k
EachSound-append (x ∷ xs) ys h k = (h.0, EachSound-append xs ys h.1 k)

EachSound-keys : (ps : Pairs) → ArePairs ps → nodes_of_pairs ps ≤ 16777216 → payload_of_pairs ps ≤ 1073741824 → EachSound (key_texts ps)
EachSound-keys no_pairs valid n p = tt
EachSound-keys (pair key v ps) valid n p =
    (record { valid = valid.0; nodes_fit = omega arith; payload_fits = omega arith }, EachSound-keys ps valid.3 (omega arith) (omega arith))

mutual
  pub EachSound-tree : (v : Plist) → IsSound v → EachSound (preorder v)
  EachSound-tree (scalar s) h = (h, tt)
  EachSound-tree (list vs) h = let n = h.nodes_fit in (h, EachSound-items vs h.valid (omega arith) h.payload_fits)
  EachSound-tree (table ps) h =
      let fit : nodes_of_pairs ps ≤ 16777216 = omega (arith, h.nodes_fit) in
      let keys = EachSound-keys ps h.valid fit h.payload_fits in
      (h, EachSound-append (key_texts ps) (preorder_values ps) keys (EachSound-values ps h.valid fit h.payload_fits))

  EachSound-items : (vs : Items) → AreItems vs → nodes_of_items vs ≤ 16777216 → payload_of_items vs ≤ 1073741824 → EachSound (preorder_items vs)
  EachSound-items no_items valid n p = tt
  EachSound-items (item v vs) valid n p =
      let first : IsSound v = record { valid = valid.0; nodes_fit = omega arith; payload_fits = omega arith } in
      EachSound-append (preorder v) (preorder_items vs) (EachSound-tree v first) (EachSound-items vs valid.1 (omega arith) (omega arith))

  EachSound-values : (ps : Pairs) → ArePairs ps → nodes_of_pairs ps ≤ 16777216 → payload_of_pairs ps ≤ 1073741824 → EachSound (preorder_values ps)
  EachSound-values no_pairs valid n p = tt
  EachSound-values (pair key v ps) valid n p =
      let first : IsSound v = record { valid = valid.1; nodes_fit = omega arith; payload_fits = omega arith } in
      EachSound-append (preorder v) (preorder_values ps) (EachSound-tree v first) (EachSound-values ps valid.3 (omega arith) (omega arith))

pub sound_from_Fits : (v : Plist) → IsPlist v → Fits v → IsSound v
sound_from_Fits v valid fits = record { valid = valid; nodes_fit = fits.nodes_fit; payload_fits = fits.payload_fits }

pub EachSound-at : (all : List Plist) (k : ℕ) → k < length all → EachSound all → IsSound (value_at all k)
EachSound-at [] k h each = absurd (omega arith)
EachSound-at (v ∷ vs) zero h each = each.0
EachSound-at (v ∷ vs) (suc k) h each = EachSound-at vs k (omega arith) each.1

pub IsSmall-sound : (s : Scalar) → payload (scalar s) ≤ 1073741824 → IsSmall s
IsSmall-sound (text units) h = omega arith
IsSmall-sound (bytes xs) h = omega arith
IsSmall-sound _ h = tt
