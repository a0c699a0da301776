-- The entries of a walk as the numbers of positions, and the contents of the objects with these
-- numbers.
use Rattle.std.proofs.Common.{◌≡◌, ℕ, zero, suc, ◌+◌, ◌<◌, ◌≤◌, List, [], ◌∷◌, ◌++◌, length, get_or, sym, subst, ◌∙◌, arith, nat_cmp, map, refl, ap, add-zero, add-one}
use Rattle.std.specs.Prelude.{⊤}
use Rattle.std.proofs.lemmas.List.{get_or_at}
use Rattle.plist_value.specs.Plist.{Plist, text, scalar, Items, no_items, item, Pairs, no_pairs, pair, AreItems, ArePairs, IsKeyBelow}
use Rattle.plist_object.specs.Places.{Holds}
use Rattle.plist_write.specs.Sharing.{value_at}
use Rattle.plist_write.specs.Found.{OccursAt, held_at}
use Rattle.plist_write.proofs.Trees.{OccursAt-tail, OccursAt-all}
use Rattle.std.specs.Cmp.Lexicographic.{slice_cmp}
use Rattle.std.specs.List.Sorted.{IsStrictlySortedBy}
use Rattle.plist_value.specs.Limits.{nodes}
use Rattle.plist_write.specs.Tree.{key_texts, preorder, preorder_items, preorder_values, item_positions, key_positions, value_positions}
use Rattle.plist_write.proofs.Sizes.{item_count}

-- the positions from k on have the entries as their numbers
abbrev pub AreNumbers : (ℕ → ℕ) → ℕ → List ℕ → Type 0
AreNumbers number k [] = ⊤
AreNumbers number k (entry ∷ entries) = (number k ≡ entry) × AreNumbers number (suc k) entries

-- the objects of the positions from k on, where the values are, contain these values
abbrev pub PositionsHold : List ℕ → (ℕ → ℕ) → ℕ → List Plist → Type 0
PositionsHold f number k [] = ⊤
PositionsHold f number k (v ∷ vs) = Holds f (number k) (held_at number k v) × PositionsHold f number (suc k) vs

pub AreNumbers-front : (number : ℕ → ℕ) (k : ℕ) (xs ys : List ℕ) → AreNumbers number k (xs ++ ys) → AreNumbers number k xs
AreNumbers-front number k [] ys h = tt
AreNumbers-front number k (x ∷ xs) ys h = (h.0, AreNumbers-front number (suc k) xs ys h.1)

pub AreNumbers-rest : (number : ℕ → ℕ) (k n : ℕ) (xs ys : List ℕ) → k + length xs ≡ n → AreNumbers number k (xs ++ ys) → AreNumbers number n ys
AreNumbers-rest number k n [] ys far h = let here : k ≡ n = omega arith in subst (λ m. AreNumbers number m ys) here h
AreNumbers-rest number k n (x ∷ xs) ys far h = AreNumbers-rest number (suc k) n xs ys (omega arith) h.1

-- other numbers that agree at the entries
pub AreNumbers-same : (number other : ℕ → ℕ) (k : ℕ) (entries : List ℕ) → ((j : ℕ) → k ≤ j → j < k + length entries → number j ≡ other j) → AreNumbers number k entries → AreNumbers other k entries
AreNumbers-same number other k [] same h = tt
AreNumbers-same number other k (entry ∷ entries) same h =
    (sym (same k (omega arith) (omega arith)) ∙ h.0, AreNumbers-same number other (suc k) entries (λ j from below. same j (omega arith) (omega arith)) h.1)

AreNumbers-stand : (all : List ℕ) (d k : ℕ) (rest : List ℕ) → OccursAt all k rest → AreNumbers (λ j. get_or all j d) k rest
AreNumbers-stand all d k [] h = tt
AreNumbers-stand all d k (x ∷ xs) h =
    (rw h.whole (get_or_at h.before x (xs ++ h.after) d k h.position), AreNumbers-stand all d (suc k) xs (OccursAt-tail x xs h))

-- entries are the numbers of their own positions
pub AreNumbers-own : (entries : List ℕ) → AreNumbers (λ k. get_or entries k 0) 0 entries
AreNumbers-own entries = AreNumbers-stand entries 0 0 entries (OccursAt-all entries)

pub PositionsHold-append : (f : List ℕ) (number : ℕ → ℕ) (k n : ℕ) (xs ys : List Plist) → k + length xs ≡ n → PositionsHold f number k xs → PositionsHold f number n ys → PositionsHold f number k (xs ++ ys)
PositionsHold-append f number k n [] ys far first later = let here : n ≡ k = omega arith in subst (λ m. PositionsHold f number m ys) here later
PositionsHold-append f number k n (x ∷ xs) ys far first later = (first.0, PositionsHold-append f number (suc k) n xs ys (omega arith) first.1 later)

pub PositionsHold-at : (f : List ℕ) (number : ℕ → ℕ) (k j n : ℕ) (part : List Plist) → PositionsHold f number k part → j < length part → k + j ≡ n → Holds f (number n) (held_at number n (value_at part j))
PositionsHold-at f number k j n [] h below far = absurd (omega arith)
PositionsHold-at f number k zero n (v ∷ vs) h below far = let here : k ≡ n = omega arith in subst (λ m. Holds f (number m) (held_at number m v)) here h.0
PositionsHold-at f number k (suc j) n (v ∷ vs) h below far = PositionsHold-at f number (suc k) j n vs h.1 (omega arith) (omega arith)

-- The pairs of a dictionary from its keys and its values.

abbrev pub pairs_of : List (List ℕ) → Items → Pairs
pairs_of [] vs = no_pairs
pairs_of (key ∷ keys) no_items = no_pairs
pairs_of (key ∷ keys) (item v vs) = pair key v (pairs_of keys vs)

-- strings as items before other items
abbrev pub put_texts : List (List ℕ) → Items → Items
put_texts [] vs = vs
put_texts (key ∷ keys) vs = item (scalar (text key)) (put_texts keys vs)

abbrev texts : List (List ℕ) → List Plist
texts keys = map (λ key. scalar (text key)) keys

preorder-put_texts : (keys : List (List ℕ)) (vs : Items) → preorder_items (put_texts keys vs) ≡ texts keys ++ preorder_items vs
preorder-put_texts [] vs = refl
preorder-put_texts (key ∷ keys) vs = ap (λ rest. scalar (text key) ∷ rest) (preorder-put_texts keys vs)

pub key_texts-pairs_of : (keys : List (List ℕ)) (vs : Items) → item_count vs ≡ length keys → key_texts (pairs_of keys vs) ≡ texts keys
key_texts-pairs_of [] vs even = refl
key_texts-pairs_of (key ∷ keys) no_items even = absurd (omega arith)
key_texts-pairs_of (key ∷ keys) (item v vs) even = ap (λ rest. scalar (text key) ∷ rest) (key_texts-pairs_of keys vs (omega arith))

preorder_values-pairs_of : (keys : List (List ℕ)) (vs : Items) → item_count vs ≡ length keys → preorder_values (pairs_of keys vs) ≡ preorder_items vs
preorder_values-pairs_of [] no_items even = refl
preorder_values-pairs_of (key ∷ keys) (item v vs) even = ap (λ rest. preorder v ++ rest) (preorder_values-pairs_of keys vs (omega arith))
preorder_values-pairs_of _ _ even = absurd (omega arith)

-- the positions of the pairs are those of the keys followed by those of the values
pub preorder-pairs_of : (keys : List (List ℕ)) (vs : Items) → item_count vs ≡ length keys → preorder_items (put_texts keys vs) ≡ key_texts (pairs_of keys vs) ++ preorder_values (pairs_of keys vs)
preorder-pairs_of keys vs even =
    rw (preorder-put_texts keys vs, key_texts-pairs_of keys vs even, preorder_values-pairs_of keys vs even) refl

key_positions-pairs_of : (k : ℕ) (keys : List (List ℕ)) (vs others : Items) → item_count vs ≡ length keys → item_positions k (put_texts keys others) ≡ key_positions k (pairs_of keys vs) ++ item_positions (k + length keys) others
key_positions-pairs_of k [] vs others even = rw add-zero refl
key_positions-pairs_of k (key ∷ keys) no_items others even = absurd (omega arith)
key_positions-pairs_of k (key ∷ keys) (item v vs) others even =
    let later = key_positions-pairs_of (suc k) keys vs others (omega arith) in
    let far : suc k + length keys ≡ k + suc (length keys) = omega arith in
    ap (λ rest. k ∷ rest) (rw add-one (rw far at later))

value_positions-pairs_of : (k : ℕ) (keys : List (List ℕ)) (vs : Items) → item_count vs ≡ length keys → value_positions k (pairs_of keys vs) ≡ item_positions k vs
value_positions-pairs_of k [] no_items even = refl
value_positions-pairs_of k (key ∷ keys) (item v vs) even = ap (λ rest. k ∷ rest) (value_positions-pairs_of (k + nodes v) keys vs (omega arith))
value_positions-pairs_of k _ _ even = absurd (omega arith)

-- the positions of the keys precede those of the values
pub positions-pairs_of : (k : ℕ) (keys : List (List ℕ)) (vs : Items) → item_count vs ≡ length keys → item_positions k (put_texts keys vs) ≡ key_positions k (pairs_of keys vs) ++ value_positions (k + length keys) (pairs_of keys vs)
positions-pairs_of k keys vs even =
    key_positions-pairs_of k keys vs vs even ∙ ap (λ positions. key_positions k (pairs_of keys vs) ++ positions) (sym (value_positions-pairs_of (k + length keys) keys vs even))

pub AreItems-put_texts : (keys : List (List ℕ)) (vs : Items) → AreItems (put_texts keys vs) → AreItems vs
AreItems-put_texts [] vs valid = valid
AreItems-put_texts (key ∷ keys) vs valid = AreItems-put_texts keys vs valid.1

IsKeyBelow-pairs_of : (key : List ℕ) (keys : List (List ℕ)) (vs : Items) → IsStrictlySortedBy (slice_cmp nat_cmp) (key ∷ keys) → IsKeyBelow key (pairs_of keys vs) × IsStrictlySortedBy (slice_cmp nat_cmp) keys
unfolding IsStrictlySortedBy
IsKeyBelow-pairs_of key [] vs sorted = (tt, tt)
IsKeyBelow-pairs_of key (next ∷ keys) no_items sorted = (tt, sorted.1)
IsKeyBelow-pairs_of key (next ∷ keys) (item v vs) sorted = (sorted.0.0, sorted.1)

-- with ascending keys the pairs are those of a dictionary
pub ArePairs-pairs_of : (keys : List (List ℕ)) (vs others : Items) → AreItems (put_texts keys others) → AreItems vs → IsStrictlySortedBy (slice_cmp nat_cmp) keys → ArePairs (pairs_of keys vs)
ArePairs-pairs_of (key ∷ keys) (item v vs) others units valid sorted =
    let order = IsKeyBelow-pairs_of key keys vs sorted in
    (units.0, valid.0, order.0, ArePairs-pairs_of keys vs others units.1 valid.1 order.1)
ArePairs-pairs_of _ _ others units valid sorted = tt
