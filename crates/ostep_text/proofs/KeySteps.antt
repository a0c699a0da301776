-- Sets of keys, in which short keys are kept as numbers.
use Rattle.std.proofs.Common.{◌≡◌, ℕ, zero, suc, ◌+◌, ◌-◌, ◌%◌, ◌*◌, ◌^◌, ◌<◌, ◌≤◌, Bool, true, false, ◌&&◌, ◌||◌, cond, List, [], ◌∷◌, ◌++◌, length, drop, length-drop, nat_cmp, refl, sym, ap, ◌∙◌, arith}
use Rattle.std.specs.Prelude.{nat_eq, nat_lt, if◌then◌else◌}
use Rattle.std.specs.List.{list_any, list_all}
use Rattle.std.specs.BTreeMap.{is_at}
use Rattle.std.specs.BTreeSet.{BTreeSet, contains}
use Rattle.std.specs.Cmp.Lexicographic.{pointwise, bytes_decides}
use Rattle.std.specs.Cmp.{unsigned_ties}
use Rattle.std.specs.Global.{Global}
use Rattle.std.specs.Prelude.{Vec}
use Rattle.std.proofs.lemmas.Bool.{and_parts, false_from_ne_true}
use Rattle.std.proofs.lemmas.Bool.Decides.{nat_tests, same_from_decides}
use Rattle.std.proofs.Math.Bool.{or_assoc}
use Rattle.plist_value.specs.Plist.{AreUnits}
use Rattle.ostep_text.specs.Key.{is_short_key, packed, number_of, key_cmp}
use Rattle.ostep_text.specs.KeyOrder.{key_ties}
use Rattle.ostep_text.specs.KeySet.{in_set}
use Rattle.ostep_text.specs.declared.key_set.KeySet.{KeySet}
use Rattle.ostep_text.proofs.SortingSteps.{or-swap}

-- the base of the number of a key with few units, and of another
abbrev base : Bool → ℕ
base true = 65536
base false = 256

-- the numbers of n units are below this
abbrev bound : Bool → ℕ → ℕ
bound wide zero = 2
bound wide (suc n) = base wide * bound wide n

bound-some : (wide : Bool) (n : ℕ) → 1 < bound wide n
bound-some wide zero = omega arith
bound-some true (suc n) = omega (arith, bound-some true n)
bound-some false (suc n) = omega (arith, bound-some false n)

packed-below : (wide : Bool) (xs : List ℕ) (n : ℕ) → length xs ≤ n → packed (base wide) xs < bound wide n
packed-below wide [] n h = bound-some wide n
packed-below wide (x ∷ xs) zero h = absurd (omega arith)
packed-below true (x ∷ xs) (suc n) h = omega (arith, packed-below true xs n (omega arith))
packed-below false (x ∷ xs) (suc n) h = omega (arith, packed-below false xs n (omega arith))

-- the number of fewer than 15 units leaves space for one more
pub narrow_fits : (xs : List ℕ) (i : ℕ) → length xs - 15 < i → packed 256 (drop i xs) < 2 ^ 113
narrow_fits xs i h = packed-below false (drop i xs) 14 (rw (length-drop i xs) (omega arith))

-- that of fewer than 7 units too, and that of 7 is below the numbers of other keys
pub wide_fits : (xs : List ℕ) (i : ℕ) → length xs ≤ 7 → 0 < i → packed 65536 (drop i xs) < 2 ^ 97
wide_fits xs i h some = packed-below true (drop i xs) 6 (rw (length-drop i xs) (omega arith))

pub wide_most : (xs : List ℕ) (i : ℕ) → length xs ≤ 7 → packed 65536 (drop i xs) < 2 ^ 113
wide_most xs i h = packed-below true (drop i xs) 7 (rw (length-drop i xs) (omega arith))

pub ruleset few_units = (wide_fits, wide_most)

-- each unit is below the bound
abbrev AreBelow : ℕ → List ℕ → Type 0
AreBelow n xs = list_all (λ unit. nat_lt unit n) xs ≡ true

both-are : (a b : Bool) → a ≡ true → b ≡ true → (a && b) ≡ true
both-are true b e f = f
both-are false b e f = absurd (cc e)

pub below-more : (m n : ℕ) (xs : List ℕ) → m ≤ n → AreBelow m xs → AreBelow n xs
below-more m n [] h u = refl
below-more m n (x ∷ xs) h u =
    let s = and_parts (nat_lt x m) (list_all (λ unit. nat_lt unit m) xs) u in
    let is = s.0 in
    let less : x < m = grind (arith, nat_tests) in
    let more : x < n = omega arith in both-are (nat_lt x n) (list_all (λ unit. nat_lt unit n) xs) (grind (arith, nat_tests)) (below-more m n xs h s.1)

pub units-below : (xs : List ℕ) → AreUnits xs → AreBelow 65536 xs
units-below [] u = refl
units-below (x ∷ xs) u =
    let less : x < 65536 = u 0 in both-are (nat_lt x 65536) (list_all (λ unit. nat_lt unit 65536) xs) (grind (arith, nat_tests)) (units-below xs (λ i. u (suc i)))

-- few units make a short key
pub few_short : (key : List ℕ) → length key ≤ 7 → AreUnits key → is_short_key key ≡ true
few_short key few u =
    let is : nat_lt (length key) 8 ≡ true = grind (arith, nat_tests) in
    ap (λ b. if b then list_all (λ unit. nat_lt unit 65536) key else nat_lt (length key) 16 && list_all (λ unit. nat_lt unit 256) key) is ∙ units-below key u

packed-some : (wide : Bool) (xs : List ℕ) → 1 ≤ packed (base wide) xs
packed-some wide [] = omega arith
packed-some true (x ∷ xs) = omega (arith, packed-some true xs)
packed-some false (x ∷ xs) = omega (arith, packed-some false xs)

-- numbers of two digits and more are not 1
digit-more : (wide : Bool) (x p : ℕ) → 1 ≤ p → x % base wide + base wide * p ≡ 1 → ⊥
digit-more true x p h e = omega arith
digit-more false x p h e = omega arith

digit-one : (wide : Bool) (x y p q : ℕ) → x < base wide → y < base wide → x % base wide + base wide * p ≡ y % base wide + base wide * q → (x ≡ y) × (p ≡ q)
digit-one true x y p q few less e = (omega arith, omega arith)
digit-one false x y p q few less e = (omega arith, omega arith)

-- units below the base have one number
packed-one : (wide : Bool) (xs ys : List ℕ) → AreBelow (base wide) xs → AreBelow (base wide) ys → packed (base wide) xs ≡ packed (base wide) ys → xs ≡ ys
packed-one wide [] [] u v e = refl
packed-one wide [] (y ∷ ys) u v e = absurd (digit-more wide y (packed (base wide) ys) (packed-some wide ys) (sym e))
packed-one wide (x ∷ xs) [] u v e = absurd (digit-more wide x (packed (base wide) xs) (packed-some wide xs) e)
packed-one wide (x ∷ xs) (y ∷ ys) u v e =
    let n = base wide in
    let s = and_parts (nat_lt x n) (list_all (λ unit. nat_lt unit n) xs) u in
    let t = and_parts (nat_lt y n) (list_all (λ unit. nat_lt unit n) ys) v in
    let few : x < n = (let is = s.0 in grind (arith, nat_tests)) in
    let less : y < n = (let is = t.0 in grind (arith, nat_tests)) in
    let one = digit-one wide x y (packed n xs) (packed n ys) few less e in
    let first : x ≡ y = one.0 in
    let others : xs ≡ ys = packed-one wide xs ys s.1 t.1 one.1 in cc (first, others)

-- a short key, by whether it has few units
IsShort : Bool → List ℕ → Type 0
IsShort true key = AreBelow 65536 key
IsShort false key = (length key < 16) × AreBelow 256 key

-- its number
number-by : Bool → List ℕ → ℕ
number-by true key = 2 ^ 125 + packed 65536 key
number-by false key = packed 256 (drop (length key - 15) key)

short-by : (few : Bool) (key : List ℕ) → nat_lt (length key) 8 ≡ few → is_short_key key ≡ true → IsShort few key
unfolding IsShort
short-by true key e s = sym (ap (λ b. if b then list_all (λ unit. nat_lt unit 65536) key else nat_lt (length key) 16 && list_all (λ unit. nat_lt unit 256) key) e) ∙ s
short-by false key e s =
    let t = and_parts (nat_lt (length key) 16) (list_all (λ unit. nat_lt unit 256) key)
    (sym (ap (λ b. if b then list_all (λ unit. nat_lt unit 65536) key else nat_lt (length key) 16 && list_all (λ unit. nat_lt unit 256) key) e) ∙ s) in
    let is : nat_lt (length key) 16 ≡ true = t.0 in
    let less : length key < 16 = grind (arith, nat_tests) in (less, t.1)

number-is : (few : Bool) (key : List ℕ) → nat_lt (length key) 8 ≡ few → number_of key ≡ number-by few key
unfolding number-by
number-is true key e = ap (λ b. if b then 2 ^ 125 + packed 65536 key else packed 256 (drop (length key - 15) key)) e
number-is false key e = ap (λ b. if b then 2 ^ 125 + packed 65536 key else packed 256 (drop (length key - 15) key)) e

-- the last 15 units of a short key are all
all-units : (key : List ℕ) → length key < 16 → drop (length key - 15) key ≡ key
all-units key less = (let none : length key - 15 ≡ 0 = omega arith in ap (λ n. drop n key) none)

narrow-below : (key : List ℕ) → packed 256 (drop (length key - 15) key) < 2 ^ 125
narrow-below key = (let less = packed-below false (drop (length key - 15) key) 15 (rw (length-drop (length key - 15) key) (omega arith)) in omega arith)

number-one : (few less : Bool) (key other : List ℕ) → IsShort few key → IsShort less other → number-by few key ≡ number-by less other → key ≡ other
unfolding IsShort number-by
number-one true true key other s t e = packed-one true key other s t (omega arith)
number-one true false key other s t e = absurd (omega (arith, narrow-below other))
number-one false true key other s t e = absurd (omega (arith, narrow-below key))
number-one false false key other s t e =
    packed-one false key other s.1 t.1 (sym (ap (packed 256) (all-units key s.0)) ∙ e ∙ ap (packed 256) (all-units other t.0))

-- the tests of the sets tell keys apart
same-short : (key other : List ℕ) → is_short_key key ≡ true → is_short_key other ≡ true → nat_eq (number_of key) (number_of other) ≡ pointwise nat_eq other key
same-short key other s t =
    let few = nat_lt (length key) 8 in
    let less = nat_lt (length other) 8 in
    same_from_decides _ _ (
      λ e. let is : number_of key ≡ number_of other = grind (arith, nat_tests) in
          sym (number-one few less key other (short-by few key refl s) (short-by less other refl t) (sym (number-is few key refl) ∙ is ∙ number-is less other refl)),
      λ e. let is : number_of key ≡ number_of other = ap number_of (sym e) in grind (arith, nat_tests),
    ) (bytes_decides other key)

same-long : (key other : List ℕ) → is_at (key_cmp key) other ≡ pointwise nat_eq other key
same-long key other =
    sym (key_ties key other) ∙ same_from_decides _ _ (λ e. sym ((bytes_decides key other).0 e), λ e. (bytes_decides key other).1 (sym e)) (bytes_decides other key)

-- keys that a test tells apart are not equal
other-key : (key other : List ℕ) (b c : Bool) → is_short_key key ≡ b → is_short_key other ≡ c → (c ≡ b → ⊥) → pointwise nat_eq other key ≡ false
other-key key other b c e g n =
    false_from_ne_true (pointwise nat_eq other key) (λ s. n (sym g ∙ ap is_short_key ((bytes_decides other key).0 s) ∙ e))

cond-or : (p q : Bool) → cond p true q ≡ (p || q)
cond-or true q = refl
cond-or false q = refl

-- one key more on either side, where p says whether the other key is the same
then-side : (b p x y new : Bool) → (b ≡ true → new ≡ (p || x)) → (b ≡ false → p ≡ false) → (if b then new else y) ≡ (p || (if b then x else y))
then-side true p x y new more others = more refl
then-side false p x y new more others = sym (ap (λ q. q || y) (others refl))

else-side : (b p x y new : Bool) → (b ≡ false → new ≡ (p || y)) → (b ≡ true → p ≡ false) → (if b then x else new) ≡ (p || (if b then x else y))
else-side true p x y new more others = sym (ap (λ q. q || x) (others refl))
else-side false p x y new more others = more refl

any-push : (m k : ℕ) (few : List ℕ) → list_any (λ n. nat_eq n m) (few ++ k ∷ []) ≡ (nat_eq k m || list_any (λ n. nat_eq n m) few)
any-push m k [] = refl
any-push m k (n ∷ few) = ap (λ q. nat_eq n m || q) (any-push m k few) ∙ or-swap (nat_eq n m) (nat_eq k m) (list_any (λ n. nat_eq n m) few)

pub few_more : (old new : Vec ℕ Global) (short : BTreeSet ℕ) (long : BTreeSet (List ℕ)) (key other : List ℕ) → is_short_key key ≡ true → new.items ≡ old.items ++ number_of key ∷ []
    → in_set (record { few = new; short = short; long = long }) other ≡ (pointwise nat_eq other key || in_set (record { few = old; short = short; long = long }) other)
few_more old new short long key other s more =
    let p = pointwise nat_eq other key in
    let n = number_of other in
    let few = list_any (λ k. nat_eq k n) old.items in
    let rest = contains nat_cmp short n in
    then-side (is_short_key other) p _ _ _
    (λ t. ap (λ ks. list_any (λ k. nat_eq k n) ks || rest) more ∙ ap (λ q. q || rest) (any-push n (number_of key) old.items ∙ ap (λ q. q || few) (same-short key other s t)) ∙ or_assoc p few rest)
    (λ t. other-key key other true false s t (λ n. cc n))

pub short_more : (few : Vec ℕ Global) (old new : BTreeSet ℕ) (long : BTreeSet (List ℕ)) (key other : List ℕ) → is_short_key key ≡ true
    → contains nat_cmp new (number_of other) ≡ cond (is_at (nat_cmp (number_of key)) (number_of other)) true (contains nat_cmp old (number_of other))
    → in_set (record { few = few; short = new; long = long }) other ≡ (pointwise nat_eq other key || in_set (record { few = few; short = old; long = long }) other)
short_more few old new long key other s more =
    let p = pointwise nat_eq other key in
    let first = list_any (λ k. nat_eq k (number_of other)) few.items in
    let rest = contains nat_cmp old (number_of other) in
    then-side (is_short_key other) p _ _ _
    (λ t. ap (λ q. first || q) (more ∙ ap (λ q. cond q true rest) (sym (unsigned_ties (number_of key) (number_of other)) ∙ same-short key other s t) ∙ cond-or p rest) ∙ or-swap first p rest)
    (λ t. other-key key other true false s t (λ n. cc n))

pub long_more : (few : Vec ℕ Global) (short : BTreeSet ℕ) (old new : BTreeSet (List ℕ)) (key other : List ℕ) → is_short_key key ≡ false
    → contains key_cmp new other ≡ cond (is_at (key_cmp key) other) true (contains key_cmp old other)
    → in_set (record { few = few; short = short; long = new }) other ≡ (pointwise nat_eq other key || in_set (record { few = few; short = short; long = old }) other)
long_more few short old new key other s more =
    let p = pointwise nat_eq other key in
    else-side (is_short_key other) p _ _ _
    (λ t. more ∙ ap (λ q. cond q true (contains key_cmp old other)) (same-long key other) ∙ cond-or p (contains key_cmp old other))
    (λ t. other-key key other false true s t (λ n. cc n))

or-known : (p q : Bool) → (p ≡ true → q ≡ true) → q ≡ (p || q)
or-known true q known = known refl
or-known false q known = refl

-- a key that is in the set adds nothing
pub known_stays : (set : KeySet) (key other : List ℕ) → in_set set key ≡ true → in_set set other ≡ (pointwise nat_eq other key || in_set set other)
known_stays set key other known =
    or-known (pointwise nat_eq other key) (in_set set other) (λ e. ap (in_set set) ((bytes_decides other key).0 e) ∙ known)

-- where a short key and another key are looked for
pub short_in : (set : KeySet) (key : List ℕ) → is_short_key key ≡ true
    → in_set set key ≡ (list_any (λ n. nat_eq n (number_of key)) set.few.items || contains nat_cmp set.short (number_of key))
short_in set key s =
    let few = list_any (λ n. nat_eq n (number_of key)) set.few.items || contains nat_cmp set.short (number_of key) in
    ap (λ b. if b then few else contains key_cmp set.long key) s

pub long_in : (set : KeySet) (key : List ℕ) → is_short_key key ≡ false → in_set set key ≡ contains key_cmp set.long key
long_in set key s =
    let few = list_any (λ n. nat_eq n (number_of key)) set.few.items || contains nat_cmp set.short (number_of key) in
    ap (λ b. if b then few else contains key_cmp set.long key) s

-- the keys after one more
pub ruleset one_more = (few_more, short_more, long_more, known_stays, short_in, long_in)
