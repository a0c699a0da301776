-- The number of bytes of the objects of a value.
use Rattle.std.proofs.Common.{◌≡◌, ℕ, suc, ◌+◌, ◌*◌, ◌<◌, ◌≤◌, eqb, ltb, cond, true, false, ℤ, pos, negsuc, List, [], ◌∷◌, ◌++◌, length, map, replicate, refl, sym, ap, subst, arith, length-append, lt-ltb}
use Rattle.std.specs.List.{concat, list_all}
use Rattle.std.proofs.lemmas.List.{length-map}
use Rattle.std.proofs.lemmas.Bool.{cond_both}
use Rattle.std.proofs.Math.Nat.{mul-le-mul_right}
use Rattle.byteorder.specs.Endian.{big_bytes}
use Rattle.byteorder.specs.Numbers.{length-bytes_high_first}
use Rattle.plist_value.specs.Plist.{Scalar, text, whole, flag, real4, real8, moment, bytes, Plist, scalar, list, table, Items, no_items, item, Pairs, no_pairs, pair, IsScalar}
use Rattle.plist_value.specs.Limits.{nodes, nodes_of_items, nodes_of_pairs, payload, payload_of_scalar, payload_of_items, payload_of_pairs}
use Rattle.plist_object.specs.Spelling.{least_width, least_integer, head, references, whole_spelling, text_spelling, scalar_spelling}
use Rattle.plist_object.specs.Objects.{Content, holds_scalar, holds_list, holds_table}
use Rattle.plist_object.specs.Shortest.{spelling_of}
use Rattle.plist_object.specs.Sizes.{head_size}
use Rattle.plist_object.proofs.Counts.{length-head, length-references}
use Rattle.plist_write.specs.Tree.{key_texts, preorder, preorder_items, preorder_values, item_positions}
use Rattle.plist_write.specs.Sharing.{first_position, kept_from}
use Rattle.plist_write.specs.Canonical.{object_octets}
use Rattle.plist_write.proofs.Trees.{length-key_positions, length-value_positions}
use Rattle.plist_write.proofs.Sound.{IsSound, EachSound}

pub least_width-most : (n : ℕ) → least_width n ≤ 8
least_width-most n =
    cond_both (ltb n 256) 1 _ (λ w. w ≤ 8) (λ _. omega arith) (λ _.
    cond_both (ltb n 65536) 2 _ (λ w. w ≤ 8) (λ _. omega arith) (λ _.
    cond_both (ltb n 4294967296) 4 8 (λ w. w ≤ 8) (λ _. omega arith) (λ _. omega arith)))

pub least_width-small : (n : ℕ) → n < 4294967296 → least_width n ≤ 4
least_width-small n h =
    rw (lt-ltb n 4294967296 h)
    (cond_both (ltb n 256) 1 (cond (ltb n 65536) 2 4) (λ w. w ≤ 4) (λ _. omega arith) (λ _.
    cond_both (ltb n 65536) 2 4 (λ w. w ≤ 4) (λ _. omega arith) (λ _. omega arith)))

pub head_size-small : (n : ℕ) → n < 4294967296 → head_size n ≤ 6
head_size-small n h =
    cond_both (ltb n 15) 1 (2 + least_width n) (λ k. k ≤ 6) (λ _. omega (arith, least_width-small n h)) (λ _. omega (arith, least_width-small n h))

pub length-whole : (z : ℤ) → length (whole_spelling z) ≤ 17
length-whole (pos n) =
    cond_both (ltb n 9223372036854775808) (least_integer n) (20 ∷ (replicate 8 0 ++ big_bytes 8 n)) (λ octets. length octets ≤ 17) (λ _. omega (arith, length-bytes_high_first (least_width n) n, least_width-most n)) (λ _. omega (arith, length-bytes_high_first (least_width n) n, least_width-most n))
length-whole (negsuc n) = omega arith

pub length-text : (units : List ℕ) → length units < 4294967296 → length (text_spelling units) ≤ 6 + 2 * length units
length-text units h =
    cond_both (list_all (λ u. ltb u 128) units) (head 5 (length units) ++ units) (head 6 (length units) ++ references 2 units) (λ octets. length octets ≤ 6 + 2 * length units)
    (λ _. rw length-append (omega (arith, length-references 2 units, length-head 6 (length units), length-head 5 (length units), head_size-small (length units) h))) (λ _. rw length-append (omega (arith, length-references 2 units, length-head 6 (length units), length-head 5 (length units), head_size-small (length units) h)))

-- no object is encoded in 0 bytes
before-more : (a b : List ℕ) → 0 < length a → 0 < length (a ++ b)
before-more a b some = omega (arith, some, length-append a b)

head-some : (kind n : ℕ) → 0 < length (head kind n)
head-some kind n =
    subst (λ (k : ℕ). 0 < k) (sym (length-head kind n)) (cond_both (ltb n 15) 1 (2 + least_width n) (λ k. 0 < k) (λ _. omega arith) (λ _. omega arith))

whole-some : (z : ℤ) → 0 < length (whole_spelling z)
whole-some (pos n) =
    cond_both (ltb n 9223372036854775808) (least_integer n) (20 ∷ (replicate 8 0 ++ big_bytes 8 n)) (λ octets. 0 < length octets) (λ _. omega arith) (λ _. omega arith)
whole-some (negsuc n) = omega arith

scalar-some : (s : Scalar) → 0 < length (scalar_spelling s)
scalar-some (text units) =
    cond_both (list_all (λ u. ltb u 128) units) (head 5 (length units) ++ units) (head 6 (length units) ++ references 2 units) (λ octets. 0 < length octets)
    (λ _. before-more (head 5 (length units)) units (head-some 5 (length units)))
    (λ _. before-more (head 6 (length units)) (references 2 units) (head-some 6 (length units)))
scalar-some (whole z) = whole-some z
scalar-some (flag b) = omega arith
scalar-some (real4 xs) = omega arith
scalar-some (real8 xs) = omega arith
scalar-some (moment xs) = omega arith
scalar-some (bytes xs) = before-more (head 4 (length xs)) xs (head-some 4 (length xs))

pub spelling-some : (width : ℕ) (held : Content) → 0 < length (spelling_of width held)
spelling-some width (holds_scalar s) = scalar-some s
spelling-some width (holds_list refs) = before-more (head 10 (length refs)) (references width refs) (head-some 10 (length refs))
spelling-some width (holds_table keys values) =
    before-more (head 13 (length keys)) (references width keys ++ references width values) (head-some 13 (length keys))

abbrev pub item_count : Items → ℕ
item_count no_items = 0
item_count (item v vs) = suc (item_count vs)

pub length-item_positions : (k : ℕ) (vs : Items) → length (item_positions k vs) ≡ item_count vs
length-item_positions k no_items = refl
length-item_positions k (item v vs) = ap suc (length-item_positions (k + nodes v) vs)

pub item_count-nodes : (vs : Items) → item_count vs ≤ nodes_of_items vs
item_count-nodes no_items = omega arith
item_count-nodes (item (scalar s) vs) = let others = item_count-nodes vs in omega arith
item_count-nodes (item _ vs) = let others = item_count-nodes vs in omega arith

pub key_count-nodes : (ps : Pairs) → length (key_texts ps) ≤ nodes_of_pairs ps
key_count-nodes no_pairs = omega arith
key_count-nodes (pair key v ps) = let others = key_count-nodes ps in omega arith

-- a bound on the bytes of the object of a position
abbrev pub weight : Plist → ℕ
weight (scalar s) = 17 + payload_of_scalar s
weight (list vs) = 17 + 4 * item_count vs
weight (table ps) = 17 + 8 * length (key_texts ps)

length-scalar : (s : Scalar) → IsScalar s → payload_of_scalar s ≤ 1073741824 → length (scalar_spelling s) ≤ 17 + payload_of_scalar s
length-scalar (text units) valid h = let size = length-text units (omega arith) in omega arith
length-scalar (whole z) valid h = let size = length-whole z in omega arith
length-scalar (flag b) valid h = omega arith
length-scalar (bytes xs) valid h =
    let size = head_size-small (length xs) (omega arith) in
    rw (length-append, length-head) (omega arith)
length-scalar _ valid h = let long = valid.long in omega arith

product-le : (w n : ℕ) → w ≤ 4 → w * n ≤ 4 * n
product-le w n h = mul-le-mul_right n h

-- no object exceeds the bound of its position
pub length-object : (number : ℕ → ℕ) (width k : ℕ) (v : Plist) → width ≤ 4 → IsSound v → length (object_octets number width k v) ≤ weight v
length-object number width k (scalar s) narrow h = length-scalar s h.valid h.payload_fits
length-object number width k (list vs) narrow h =
    let size = head_size-small (item_count vs) (omega (arith, item_count-nodes vs, h.nodes_fit)) in
    rw (length-append, length-references, length-head, length-map, length-item_positions) (omega (arith, product-le width (item_count vs) narrow, item_count-nodes vs, h.nodes_fit))
length-object number width k (table ps) narrow h =
    let n = h.nodes_fit in
    let few = key_count-nodes ps in
    let keys = length-key_positions (suc k) ps in
    let values = length-value_positions (suc k + length (key_texts ps)) ps in
    let size = head_size-small (length (key_texts ps)) (omega arith) in
    let most = product-le width (length (key_texts ps)) narrow in
    simp (length-append, length-references, length-head, length-map, keys, values) (omega arith)

abbrev pub total : List Plist → ℕ
total [] = 0
total (v ∷ vs) = weight v + total vs

pub total-append : (xs ys : List Plist) → total (xs ++ ys) ≡ total xs + total ys
total-append [] ys = omega arith
total-append (x ∷ xs) ys = let others = total-append xs ys in omega arith

-- all positions together; a reference to each, of 4 bytes, is counted at its container
mutual
  pub total-tree : (v : Plist) → total (preorder v) + 4 ≤ payload v + 21 * nodes v
  total-tree (scalar s) = omega arith
  total-tree (list vs) = let items = total-items vs in omega arith
  total-tree (table ps) =
      omega (arith, total-append (key_texts ps) (preorder_values ps), total-pairs ps)

  total-items : (vs : Items) → total (preorder_items vs) + 4 * item_count vs ≤ payload_of_items vs + 21 * nodes_of_items vs
  total-items no_items = omega arith
  total-items (item v vs) =
      omega (arith, total-append (preorder v) (preorder_items vs), total-items vs, total-tree v)

  total-pairs : (ps : Pairs) → total (key_texts ps) + total (preorder_values ps) + 8 * length (key_texts ps) ≤ payload_of_pairs ps + 21 * nodes_of_pairs ps
  total-pairs no_pairs = omega arith
  total-pairs (pair key v ps) =
      omega (arith, total-append (preorder v) (preorder_values ps), total-pairs ps, total-tree v)

-- the objects of the kept positions have at most that many bytes
pub length-objects : (all : List Plist) (number : ℕ → ℕ) (width : ℕ) → width ≤ 4 → (k : ℕ) (rest : List Plist) → EachSound rest → length (concat (map (λ p. object_octets number width p.0 p.1) (kept_from all k rest))) ≤ total rest
length-objects all number width narrow k [] each = omega arith
length-objects all number width narrow k (v ∷ rest) each =
    elim (eqb (first_position all k v) k) as (λ t. length (concat (map (λ p. object_octets number width p.0 p.1) (cond t ((k, v) ∷ kept_from all (suc k) rest) (kept_from all (suc k) rest)))) ≤ weight v + total rest) [
      | true ↦ rw length-append (omega (arith, length-object number width k v narrow each.0, length-objects all number width narrow (suc k) rest each.1))
      | false ↦ omega (arith, length-object number width k v narrow each.0, length-objects all number width narrow (suc k) rest each.1)
    ]

pub length-kept : (all : List Plist) (k : ℕ) (rest : List Plist) → length (kept_from all k rest) ≤ length rest
length-kept all k [] = omega arith
length-kept all k (v ∷ rest) =
    elim (eqb (first_position all k v) k) as (λ t. length (cond t ((k, v) ∷ kept_from all (suc k) rest) (kept_from all (suc k) rest)) ≤ suc (length rest)) [
      | true ↦ omega (arith, length-kept all (suc k) rest)
      | false ↦ omega (arith, length-kept all (suc k) rest)
    ]

head_size-most : (n : ℕ) → head_size n ≤ 10
head_size-most n =
    cond_both (ltb n 15) 1 (2 + least_width n) (λ k. k ≤ 10) (λ _. omega (arith, least_width-most n)) (λ _. omega (arith, least_width-most n))

pub head-most : (kind n : ℕ) → length (head kind n) ≤ 10
head-most kind n =
    omega (arith, head_size-most n, length-head kind n)
