-- Encodings consist of bytes.
use Rattle.std.proofs.Common.{◌≡◌, ℕ, zero, suc, ◌+◌, ◌-◌, ◌*◌, ◌<◌, ltb, true, false, ℤ, pos, negsuc, List, [], ◌∷◌, ◌++◌, length, map, replicate, arith}
use Rattle.std.specs.List.{concat, list_all}
use Rattle.std.specs.Int.{byte_at}
use Rattle.std.proofs.lemmas.Bool.{cond_both, ltb-true, and_parts}
use Rattle.byteorder.specs.Endian.{big_bytes}
use Rattle.plist_value.specs.Plist.{Scalar, text, whole, flag, real4, real8, moment, bytes, Plist, scalar, list, table, AllUnder, AreOctets, IsScalar}
use Rattle.plist_object.specs.Layout.{header}
use Rattle.plist_object.specs.Spelling.{least_width, integer_marker, least_integer, head, references, whole_spelling, text_spelling, scalar_spelling}
use Rattle.plist_write.specs.Tree.{key_texts, item_positions, key_positions, value_positions}
use Rattle.plist_write.specs.Sharing.{kept_from}
use Rattle.plist_object.specs.Files.{starts}
use Rattle.plist_write.specs.Canonical.{object_octets, trailer_octets, file_of}
use Rattle.plist_write.proofs.Sizes.{least_width-most}
use Rattle.plist_write.proofs.Sound.{IsSound, EachSound}

none_under : (b : ℕ) → 0 < b → AllUnder b []
none_under b h i = h

pub under-cons : (b x : ℕ) (xs : List ℕ) → x < b → AllUnder b xs → AllUnder b (x ∷ xs)
under-cons b x xs h others zero = h
under-cons b x xs h others (suc i) = others i

pub under-append : (b : ℕ) (xs ys : List ℕ) → AllUnder b xs → AllUnder b ys → AllUnder b (xs ++ ys)
under-append b [] ys h k = k
under-append b (x ∷ xs) ys h k = under-cons b x (xs ++ ys) (h 0) (under-append b xs ys (λ i. h (suc i)) k)

byte_at-octet : (k x : ℕ) → byte_at k x < 256
byte_at-octet zero x = omega arith
byte_at-octet (suc k) x = omega arith

octets-big_bytes : (n x : ℕ) → AreOctets (big_bytes n x)
octets-big_bytes zero x = none_under 256 (omega arith)
octets-big_bytes (suc n) x = under-cons 256 (byte_at n x) (big_bytes n x) (byte_at-octet n x) (octets-big_bytes n x)

octets-references : (width : ℕ) (refs : List ℕ) → AreOctets (references width refs)
octets-references width [] = none_under 256 (omega arith)
octets-references width (r ∷ refs) = under-append 256 (big_bytes width r) (references width refs) (octets-big_bytes width r) (octets-references width refs)

octets-integer : (n : ℕ) → AreOctets (least_integer n)
octets-integer n =
    let marker : integer_marker n < 256 =
    cond_both (ltb n 256) 16 _ (λ m. m < 256) (λ _. omega arith) (λ _.
    cond_both (ltb n 65536) 17 _ (λ m. m < 256) (λ _. omega arith) (λ _.
    cond_both (ltb n 4294967296) 18 19 (λ m. m < 256) (λ _. omega arith) (λ _. omega arith))) in
    under-cons 256 (integer_marker n) (big_bytes (least_width n) n) marker (octets-big_bytes (least_width n) n)

octets-head : (kind n : ℕ) → kind < 16 → AreOctets (head kind n)
octets-head kind n h =
    cond_both (ltb n 15) ((16 * kind + n) ∷ []) ((16 * kind + 15) ∷ least_integer n) AreOctets
    (λ e. let short = ltb-true n 15 e in under-cons 256 _ [] (omega arith) (none_under 256 (omega arith)))
    (λ _. under-cons 256 _ (least_integer n) (omega arith) (octets-integer n))

octets-whole : (z : ℤ) → AreOctets (whole_spelling z)
octets-whole (pos n) =
    cond_both (ltb n 9223372036854775808) (least_integer n) (20 ∷ (replicate 8 0 ++ big_bytes 8 n)) AreOctets
    (λ _. octets-integer n)
    (λ _. under-cons 256 20 (replicate 8 0 ++ big_bytes 8 n) (omega arith) (under-append 256 (replicate 8 0) (big_bytes 8 n) (octets-big_bytes 8 0) (octets-big_bytes 8 n)))
octets-whole (negsuc n) = under-cons 256 19 (big_bytes 8 (18446744073709551615 - n)) (omega arith) (octets-big_bytes 8 (18446744073709551615 - n))

octets-ascii : (units : List ℕ) → list_all (λ u. ltb u 128) units ≡ true → AreOctets units
octets-ascii [] h = none_under 256 (omega arith)
octets-ascii (u ∷ us) h =
    let parts = and_parts (ltb u 128) (list_all (λ u. ltb u 128) us) h in
    under-cons 256 u us (omega (arith, ltb-true u 128 parts.0)) (octets-ascii us parts.1)

octets-text : (units : List ℕ) → AreOctets (text_spelling units)
octets-text units =
    cond_both (list_all (λ u. ltb u 128) units) (head 5 (length units) ++ units) (head 6 (length units) ++ references 2 units) AreOctets
    (λ e. under-append 256 (head 5 (length units)) units (octets-head 5 (length units) (omega arith)) (octets-ascii units e))
    (λ _. under-append 256 (head 6 (length units)) (references 2 units) (octets-head 6 (length units) (omega arith)) (octets-references 2 units))

octets-scalar : (s : Scalar) → IsScalar s → AreOctets (scalar_spelling s)
octets-scalar (text units) h = octets-text units
octets-scalar (whole z) h = octets-whole z
octets-scalar (flag true) h = under-cons 256 9 [] (omega arith) (none_under 256 (omega arith))
octets-scalar (flag false) h = under-cons 256 8 [] (omega arith) (none_under 256 (omega arith))
octets-scalar (real4 xs) h = under-cons 256 34 xs (omega arith) h.octets
octets-scalar (real8 xs) h = under-cons 256 35 xs (omega arith) h.octets
octets-scalar (moment xs) h = under-cons 256 51 xs (omega arith) h.octets
octets-scalar (bytes xs) h = under-append 256 (head 4 (length xs)) xs (octets-head 4 (length xs) (omega arith)) h

octets-object : (number : ℕ → ℕ) (width k : ℕ) (v : Plist) → IsSound v → AreOctets (object_octets number width k v)
octets-object number width k (scalar s) h = octets-scalar s h.valid
octets-object number width k (list vs) h =
    under-append 256 (head 10 _) _ (octets-head 10 _ (omega arith)) (octets-references width (map number (item_positions (suc k) vs)))
octets-object number width k (table ps) h =
    let keys = map number (key_positions (suc k) ps) in
    let values = map number (value_positions (suc k + length (key_texts ps)) ps) in
    under-append 256 (head 13 _) _ (octets-head 13 _ (omega arith))
    (under-append 256 (references width keys) (references width values) (octets-references width keys) (octets-references width values))

pub octets-objects : (all : List Plist) (number : ℕ → ℕ) (width k : ℕ) (rest : List Plist) → EachSound rest → AreOctets (concat (map (λ p. object_octets number width p.0 p.1) (kept_from all k rest)))
octets-objects all number width k [] each = none_under 256 (omega arith)
octets-objects all number width k (v ∷ rest) each =
    let others = octets-objects all number width (suc k) rest each.1 in
    cond_both _ ((k, v) ∷ kept_from all (suc k) rest) (kept_from all (suc k) rest) (λ kept. AreOctets (concat (map (λ p. object_octets number width p.0 p.1) kept)))
    (λ _. under-append 256 (object_octets number width k v) _ (octets-object number width k v each.0) others)
    (λ _. others)

octets-trailer : (n t : ℕ) → AreOctets (trailer_octets n t)
octets-trailer n t =
    let numbers = big_bytes 8 n ++ (big_bytes 8 0 ++ big_bytes 8 t) in
    let octets = under-append 256 (big_bytes 8 n) (big_bytes 8 0 ++ big_bytes 8 t) (octets-big_bytes 8 n) (under-append 256 (big_bytes 8 0) (big_bytes 8 t) (octets-big_bytes 8 0) (octets-big_bytes 8 t)) in
    under-append 256 (replicate 6 0) (least_width t ∷ least_width n ∷ numbers) (octets-big_bytes 6 0)
    (under-cons 256 (least_width t) (least_width n ∷ numbers) (omega (arith, least_width-most t, least_width-most n)) (under-cons 256 (least_width n) numbers (omega (arith, least_width-most t, least_width-most n)) octets))

-- the header is the bytes of one number
octets-header : AreOctets header
octets-header = octets-big_bytes 8 7093288613272891440

pub octets-file_of : (objects : List (List ℕ)) → AreOctets (concat objects) → AreOctets (file_of objects)
octets-file_of objects h =
    let t = 8 + length (concat objects) in
    under-append 256 header _ octets-header
    (under-append 256 (concat objects) _ h
    (under-append 256 (references (least_width t) (starts 8 objects)) _ (octets-references (least_width t) (starts 8 objects)) (octets-trailer (length objects) t)))
