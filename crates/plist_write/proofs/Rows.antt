-- The canonical files of worked values, by computing.
use Rattle.std.proofs.Common.{◌≡◌, ℕ, zero, suc, ◌+◌, ◌/◌, ◌%◌, pos, List, [], ◌∷◌, ◌++◌, length, replicate, refl}
use Rattle.plist_object.specs.Layout.{header}
use Rattle.plist_value.specs.Plist.{text, whole, bytes, Plist, scalar, list, table, Items, no_items, item, no_pairs, pair}
use Rattle.plist_write.specs.Canonical.{canon}

-- the end of a file of fewer than 256 bytes, with `count` objects and the offset table at `offset`
end_of : ℕ → ℕ → List ℕ
end_of count offset = replicate 6 0 ++ (1 ∷ 1 ∷ (replicate 7 0 ++ (count ∷ (replicate 15 0 ++ (offset ∷ [])))))

a : Plist
a = scalar (text (97 ∷ []))

b : Plist
b = scalar (text (98 ∷ []))

empty-table : canon (table no_pairs) ≡ header ++ (208 ∷ 8 ∷ end_of 1 9)
unfolding canon end_of
empty-table = refl

-- keys ascend, and the values share the objects of the keys
two-pairs : canon (table (pair (97 ∷ []) b (pair (98 ∷ []) a no_pairs))) ≡ header ++ (210 ∷ 1 ∷ 2 ∷ 2 ∷ 1 ∷ 81 ∷ 97 ∷ 81 ∷ 98 ∷ 8 ∷ 13 ∷ 15 ∷ end_of 3 17)
unfolding canon a b end_of
two-pairs = refl

-- equal bytes of two kinds are two objects
text-and-data : canon (list (item a (item (scalar (bytes (97 ∷ []))) no_items))) ≡ header ++ (162 ∷ 1 ∷ 2 ∷ 81 ∷ 97 ∷ 65 ∷ 97 ∷ 8 ∷ 11 ∷ 13 ∷ end_of 3 15)
unfolding canon a end_of
text-and-data = refl

five : canon (scalar (whole (pos 5))) ≡ header ++ (16 ∷ 5 ∷ 8 ∷ end_of 1 10)
unfolding canon end_of
five = refl

-- equal containers are not shared
empty-lists : canon (list (item (list no_items) (item (list no_items) no_items))) ≡ header ++ (162 ∷ 1 ∷ 2 ∷ 160 ∷ 160 ∷ 8 ∷ 11 ∷ 12 ∷ end_of 3 13)
unfolding canon end_of
empty-lists = refl

-- keys ascend by units, and all keys come before the values
wide-keys : canon (table (pair (55296 ∷ 56320 ∷ []) b (pair (65377 ∷ []) a no_pairs))) ≡ header ++ (210 ∷ 1 ∷ 2 ∷ 3 ∷ 4 ∷ 98 ∷ 216 ∷ 0 ∷ 220 ∷ 0 ∷ 97 ∷ 255 ∷ 97 ∷ 81 ∷ 98 ∷ 81 ∷ 97 ∷ 8 ∷ 13 ∷ 18 ∷ 21 ∷ 23 ∷ end_of 5 25)
unfolding canon a b end_of
wide-keys = refl

-- n strings of three digits, counted from k
three_digits : ℕ → ℕ → Items
three_digits zero k = no_items
three_digits (suc n) k = item (scalar (text ((48 + k / 100) ∷ (48 + k / 10 % 10) ∷ (48 + k % 10) ∷ []))) (three_digits n (suc k))

-- 255 objects, with references of one byte
least-references : length (canon (list (three_digits 254 0))) ≡ 1823
unfolding canon three_digits
least-references = refl

-- 256 objects: the width of a reference depends on their number, not on the greatest reference
wider-references : length (canon (list (three_digits 255 0))) ≡ 2085
unfolding canon three_digits
wider-references = refl

-- offsets of one byte, and of two
least-offsets : length (canon (scalar (bytes (replicate 244 0)))) ≡ 288
unfolding canon
least-offsets = refl

wider-offsets : length (canon (scalar (bytes (replicate 245 0)))) ≡ 290
unfolding canon
wider-offsets = refl
