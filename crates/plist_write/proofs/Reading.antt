-- The objects of a canonical file are decoded to their content.
use Rattle.std.proofs.Common.{◌≡◌, ℕ, suc, ◌+◌, ◌^◌, ◌<◌, ◌≤◌, ltb, List, [], ◌∷◌, ◌++◌, length, map, replicate, pos, Ok, refl, sym, ◌∙◌, arith, length-append}
use Rattle.std.specs.List.{list_all}
use Rattle.std.proofs.lemmas.List.{length-map}
use Rattle.std.proofs.lemmas.Bool.{cond_both}
use Rattle.byteorder.specs.Endian.{big_bytes}
use Rattle.plist_value.specs.Plist.{Scalar, text, whole, bytes, Plist, scalar, list, table}
use Rattle.plist_object.specs.Objects.{object_in}
use Rattle.plist_object.specs.Sizes.{head_size}
use Rattle.plist_object.specs.Spelling.{least_width, least_integer, head, references, scalar_spelling}
use Rattle.plist_object.proofs.Counts.{length-head}
use Rattle.plist_object.proofs.ReadScalars.{object_in-scalar}
use Rattle.plist_object.proofs.ReadReferences.{AllFit, object_in-list, object_in-table}
use Rattle.plist_write.specs.Tree.{key_texts, item_positions, key_positions, value_positions}
use Rattle.plist_write.specs.Sharing.{first_position, count_below}
use Rattle.plist_write.specs.Canonical.{object_octets}
use Rattle.plist_write.proofs.Trees.{length-key_positions, length-value_positions}
use Rattle.plist_write.proofs.Sound.{IsSound, IsSmall-sound}
use Rattle.plist_write.proofs.Sizes.{item_count, length-item_positions, item_count-nodes, key_count-nodes}
use Rattle.plist_write.proofs.Spelled.{held_at}

AllFit-map : (width : ℕ) (number : ℕ → ℕ) (ks : List ℕ) → ((k : ℕ) → number k < 256 ^ width) → AllFit width (map number ks)
AllFit-map width number [] fit = tt
AllFit-map width number (k ∷ ks) fit = (fit k, AllFit-map width number ks fit)

pub object_in-octets : (number : ℕ → ℕ) (width k : ℕ) (v : Plist) (rest : List ℕ) → ((j : ℕ) → number j < 256 ^ width) → IsSound v → object_in width (object_octets number width k v ++ rest) ≡ Ok (held_at number k v, rest)
object_in-octets number width k (scalar s) rest fit h = object_in-scalar width s rest h.valid (IsSmall-sound s h.payload_fits)
object_in-octets number width k (list vs) rest fit h =
    let count : length (map number (item_positions (suc k) vs)) ≡ item_count vs = length-map (item_positions (suc k) vs) number ∙ length-item_positions (suc k) vs in
    object_in-list width (map number (item_positions (suc k) vs)) rest (omega (arith, item_count-nodes vs, h.nodes_fit)) (AllFit-map width number (item_positions (suc k) vs) fit)
object_in-octets number width k (table ps) rest fit h =
    let first = suc k + length (key_texts ps) in
    let keys = map number (key_positions (suc k) ps) in
    let values = map number (value_positions first ps) in
    let key_count : length keys ≡ length (key_texts ps) = length-map (key_positions (suc k) ps) number ∙ length-key_positions (suc k) ps in
    let value_count : length values ≡ length (key_texts ps) = length-map (value_positions first ps) number ∙ length-value_positions first ps in
    object_in-table width keys values rest (omega (arith, key_count-nodes ps, h.nodes_fit)) (key_count ∙ sym value_count) (AllFit-map width number (key_positions (suc k) ps) fit) (AllFit-map width number (value_positions first ps) fit)

-- positions that share an object have the same content
pub held_at-first : (all : List Plist) (number : ℕ → ℕ) (k : ℕ) (v : Plist) → held_at number (first_position all k v) v ≡ held_at number k v
held_at-first all number k (scalar s) = refl
held_at-first all number k _ = refl

some-head : (kind n : ℕ) (xs : List ℕ) → 1 ≤ length (head kind n ++ xs)
some-head kind n xs =
    let size : 1 ≤ head_size n = cond_both (ltb n 15) 1 (2 + least_width n) (λ k. 1 ≤ k) (λ _. omega arith) (λ _. omega arith) in
    rw (length-append, length-head) (omega arith)

some-scalar : (s : Scalar) → 1 ≤ length (scalar_spelling s)
some-scalar (text units) =
    cond_both (list_all (λ u. ltb u 128) units) (head 5 (length units) ++ units) (head 6 (length units) ++ references 2 units) (λ octets. 1 ≤ length octets)
    (λ _. some-head 5 (length units) units) (λ _. some-head 6 (length units) (references 2 units))
some-scalar (whole (pos n)) =
    cond_both (ltb n 9223372036854775808) (least_integer n) (20 ∷ (replicate 8 0 ++ big_bytes 8 n)) (λ octets. 1 ≤ length octets) (λ _. omega arith) (λ _. omega arith)
some-scalar (bytes xs) = some-head 4 (length xs) xs
some-scalar _ = omega arith

-- no object is empty
pub some-object : (number : ℕ → ℕ) (width k : ℕ) (v : Plist) → 1 ≤ length (object_octets number width k v)
some-object number width k (scalar s) = some-scalar s
some-object number width k (list vs) = some-head 10 _ (references width (map number (item_positions (suc k) vs)))
some-object number width k (table ps) = some-head 13 _ _

pub count_below-le : (n : ℕ) (kept : List (ℕ × Plist)) → count_below n kept ≤ length kept
count_below-le n [] = omega arith
count_below-le n (p ∷ kept) =
    cond_both (ltb p.0 n) (suc (count_below n kept)) (count_below n kept) (λ k. k ≤ suc (length kept)) (λ _. omega (arith, count_below-le n kept)) (λ _. omega (arith, count_below-le n kept))
