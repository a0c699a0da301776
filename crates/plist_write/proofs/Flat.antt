-- The keys of a dictionary, followed by its values, as items.
use Rattle.std.proofs.Common.{◌≡◌, ℕ, suc, ◌+◌, ◌≤◌, List, [], ◌∷◌, ◌++◌, length, map, refl, sym, ap, ◌∙◌, arith, add-one, add-zero}
use Rattle.std.specs.List.{zip}
use Rattle.std.specs.List.Sorted.{IsPermutation}
use Rattle.std.proofs.lemmas.List.Sorted.{length_permutation}
use Rattle.std.proofs.lemmas.Slice.Zip.{length-zip}
use Rattle.plist_value.specs.Plist.{text, scalar, Items, no_items, item, Pairs, no_pairs, pair, AreItems, ArePairs}
use Rattle.plist_value.specs.Limits.{nodes, depth_of_items, depth_of_pairs}
use Rattle.plist_object.specs.Spelled.{SpellItems, SpellPairs}
use Rattle.plist_write.specs.Tree.{key_texts, preorder, preorder_items, preorder_values, item_positions, key_positions, value_positions}
use Rattle.plist_write.specs.Spelling.{sorted_references}

abbrev pub values_of : Pairs → Items
values_of no_pairs = no_items
values_of (pair key v ps) = item v (values_of ps)

-- the keys as items before other items
abbrev pub keys_then : Pairs → Items → Items
keys_then no_pairs vs = vs
keys_then (pair key v ps) vs = item (scalar (text key)) (keys_then ps vs)

abbrev pub flat : Pairs → Items
flat ps = keys_then ps (values_of ps)

preorder-values : (ps : Pairs) → preorder_items (values_of ps) ≡ preorder_values ps
preorder-values no_pairs = refl
preorder-values (pair key v ps) = ap (λ rest. preorder v ++ rest) (preorder-values ps)

preorder-keys : (ps : Pairs) (vs : Items) → preorder_items (keys_then ps vs) ≡ key_texts ps ++ preorder_items vs
preorder-keys no_pairs vs = refl
preorder-keys (pair key v ps) vs = ap (λ rest. scalar (text key) ∷ rest) (preorder-keys ps vs)

pub preorder-flat : (ps : Pairs) → preorder_items (flat ps) ≡ key_texts ps ++ preorder_values ps
preorder-flat ps = preorder-keys ps (values_of ps) ∙ ap (λ rest. key_texts ps ++ rest) (preorder-values ps)

positions-values : (k : ℕ) (ps : Pairs) → item_positions k (values_of ps) ≡ value_positions k ps
positions-values k no_pairs = refl
positions-values k (pair key v ps) = ap (λ rest. k ∷ rest) (positions-values (k + nodes v) ps)

positions-keys : (k : ℕ) (ps : Pairs) (vs : Items) → item_positions k (keys_then ps vs) ≡ key_positions k ps ++ item_positions (k + length (key_texts ps)) vs
positions-keys k no_pairs vs = rw add-zero refl
positions-keys k (pair key v ps) vs =
    let far : suc k + length (key_texts ps) ≡ k + suc (length (key_texts ps)) = omega arith in
    let others = positions-keys (suc k) ps vs in
    ap (λ rest. k ∷ rest) (ap (λ n. item_positions n (keys_then ps vs)) (add-one k) ∙ rw far at others)

pub positions-flat : (k : ℕ) (ps : Pairs) → item_positions k (flat ps) ≡ key_positions k ps ++ value_positions (k + length (key_texts ps)) ps
positions-flat k ps =
    positions-keys k ps (values_of ps) ∙ ap (λ rest. key_positions k ps ++ rest) (positions-values (k + length (key_texts ps)) ps)

pub spell-values : (f : List ℕ) (rows : List (ℕ × ℕ)) (ps : Pairs) → SpellPairs f rows ps → SpellItems f (map (λ row. row.1) rows) (values_of ps)
spell-values f [] no_pairs h = refl
spell-values f (row ∷ rows) no_pairs h = absurd (let none : row ∷ rows ≡ [] = h in cc)
spell-values f [] (pair key v ps) h = absurd h
spell-values f (row ∷ rows) (pair key v ps) h = (h.1, spell-values f rows ps h.2)

spell-keys : (f : List ℕ) (rows : List (ℕ × ℕ)) (ps : Pairs) (refs : List ℕ) (vs : Items) → SpellPairs f rows ps → SpellItems f refs vs → SpellItems f (map (λ row. row.0) rows ++ refs) (keys_then ps vs)
spell-keys f [] no_pairs refs vs h k = k
spell-keys f (row ∷ rows) no_pairs refs vs h k = absurd (let none : row ∷ rows ≡ [] = h in cc)
spell-keys f [] (pair key v ps) refs vs h k = absurd h
spell-keys f (row ∷ rows) (pair key v ps) refs vs h k = (h.0, spell-keys f rows ps refs vs h.2 k)

pub spell-flat : (f : List ℕ) (rows : List (ℕ × ℕ)) (ps : Pairs) → SpellPairs f rows ps → SpellItems f (sorted_references rows) (flat ps)
spell-flat f rows ps h =
    spell-keys f rows ps (map (λ row. row.1) rows) (values_of ps) h (spell-values f rows ps h)

pub valid-values : (ps : Pairs) → ArePairs ps → AreItems (values_of ps)
valid-values no_pairs h = tt
valid-values (pair key v ps) h = (h.1, valid-values ps h.3)

valid-keys : (ps : Pairs) (vs : Items) → ArePairs ps → AreItems vs → AreItems (keys_then ps vs)
valid-keys no_pairs vs h k = k
valid-keys (pair key v ps) vs h k = (h.0, valid-keys ps vs h.3 k)

pub valid-flat : (ps : Pairs) → ArePairs ps → AreItems (flat ps)
valid-flat ps h = valid-keys ps (values_of ps) h (valid-values ps h)

pub deep-values : (ps : Pairs) (levels : ℕ) → depth_of_pairs ps ≤ levels → depth_of_items (values_of ps) ≤ levels
deep-values no_pairs levels h = omega arith
deep-values (pair key v ps) levels h = omega (arith, deep-values ps levels (omega arith))

deep-keys : (ps : Pairs) (vs : Items) (levels : ℕ) → depth_of_pairs ps ≤ levels → depth_of_items vs ≤ levels → depth_of_items (keys_then ps vs) ≤ levels
deep-keys no_pairs vs levels h k = k
deep-keys (pair key v ps) vs levels h k = omega (arith, deep-keys ps vs levels (omega arith) k)

pub deep-flat : (ps : Pairs) (levels : ℕ) → depth_of_pairs ps ≤ levels → depth_of_items (flat ps) ≤ levels
deep-flat ps levels h = deep-keys ps (values_of ps) levels h (deep-values ps levels h)

pub length-rows : (f : List ℕ) (rows : List (ℕ × ℕ)) (ps : Pairs) → SpellPairs f rows ps → length rows ≡ length (key_texts ps)
length-rows f [] no_pairs h = refl
length-rows f (row ∷ rows) no_pairs h = absurd (let none : row ∷ rows ≡ [] = h in cc)
length-rows f [] (pair key v ps) h = absurd h
length-rows f (row ∷ rows) (pair key v ps) h = ap suc (length-rows f rows ps h.2)

-- a dictionary has as many keys as its object
pub length-keys : (f keys values : List ℕ) (rows : List (ℕ × ℕ)) (ps : Pairs) → length keys ≡ length values → IsPermutation (zip keys values) rows → SpellPairs f rows ps → length (key_texts ps) ≡ length keys
length-keys f keys values rows ps pairs moved spell =
    let zipped = length-zip keys values in
    sym (length-rows f rows ps spell) ∙ length_permutation (zip keys values) rows moved ∙ omega (arith, zipped, pairs)
