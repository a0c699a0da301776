-- Printed reals and dates are determined by the start of the text.
use Rattle.std.proofs.Common.{◌≡◌, ℕ, zero, suc, ◌+◌, ◌*◌, ◌/◌, ◌%◌, ◌^◌, ◌<◌, ◌≤◌, Bool, true, false, Option, Some, None, List, [], ◌∷◌, ◌++◌, length, refl, sym, ap, subst, ◌∙◌, arith, append_assoc, inl, inr}
use Rattle.std.specs.Prelude.{nat_le, nat_lt, ◌==◌, codes, decimal, flat_map}
use Rattle.std.specs.Char.{digit_value}
use Rattle.std.specs.Fmt.{sign_text}
use Rattle.std.specs.Str.Parse.{digits_value, AllDigits}
use Rattle.std.proofs.lemmas.Bool.{cases_Bool}
use Rattle.std.proofs.lemmas.Bool.Decides.{nat_tests}
use Rattle.std.proofs.lemmas.Fmt.{decimal_is_IsNumeral_wide}
use Rattle.std.proofs.lemmas.List.{append_cancel_left, take_all}
use Rattle.std.proofs.lemmas.Nat.{mul-le, div-add-mod'}
use Rattle.std.proofs.Math.Nat.{div-div-eq-div-mul}
use Rattle.byteorder.specs.Endian.{big_number, big_bytes}
use Rattle.byteorder.specs.Numbers.{big_from-lt}
use Rattle.plist_value.specs.Plist.{AreOctets, IsOctetsOf}
use Rattle.plist_object.proofs.SameOctets.{big_bytes-big_number}
use Rattle.plist_print.specs.Units.{printed_data}
use Rattle.plist_value.specs.Digits.{two_digits}
use Rattle.plist_print.specs.declared.numbers.Format.{Format}
use Rattle.plist_print.specs.Reals.{double, reads_as, scaled_in, decimal_of, last_digits, printed_decimal, printed_size, printed_real}
use Rattle.plist_print.specs.Dates.{second_of, in_brackets, printed_date}
use Rattle.plist_print.proofs.Fronts.{head_of, tail_of, heads, tails, EndsDigits, digits-front, kind_of_head, digits-kind}
use Rattle.plist_print.proofs.UnitFronts.{data-front}
use Rattle.plist_print.proofs.Neighbours.{one-real, decimal-is, decimal-short, IsFormat, double-format}
use Rattle.plist_print.proofs.Compared.{equal}

-- the ways to print a real without its sign
pub data Shape : Type 0 where
  as_decimal : ℕ → ℕ → Shape
  as_octets : List ℕ → Shape
  endless : Shape
  no_number : List ℕ → Shape

abbrev pub text_of : Shape → List ℕ
text_of (as_decimal n k) = printed_decimal n k
text_of (as_octets xs) = codes "real " ++ printed_data xs
text_of endless = codes "infinity"
text_of (no_number xs) = codes "nan " ++ printed_data xs

abbrev pub IsShape : Shape → Type 0
IsShape (as_decimal n k) = n < 2 ^ 128
IsShape (as_octets xs) = AreOctets xs
IsShape endless = Unit {0}
IsShape (no_number xs) = AreOctets xs

-- the last digits of a number are digits, and together with the digits before them they are the
-- number
digit-low : (d : ℕ) → d < 10 → digit_value (48 + d) ≡ d
digit-low d h = grind (arith, nat_tests)

last-are_digits : (k n : ℕ) → AllDigits 10 (last_digits k n)
unfolding last_digits
last-are_digits zero n = tt
last-are_digits (suc k) n =
    let low : n / 10 ^ k % 10 < 10 = omega arith in
    let is = digit-low (n / 10 ^ k % 10) low in
    (omega (arith, is, low), last-are_digits k n)

quotient-le : (n m : ℕ) → 0 < m → n / m ≤ n
quotient-le n m h =
    let e = div-add-mod' n m in
    let f : n / m * 1 ≤ n / m * m = mul-le (n / m) 1 (n / m) m (omega arith) h in
    omega arith

power-pos : (k : ℕ) → 0 < 10 ^ k
power-pos zero = omega arith
power-pos (suc k) = let e : 10 ^ suc k ≡ 10 * 10 ^ k = omega arith in let h = power-pos k in omega arith

next-quotient : (n k : ℕ) → n / 10 ^ suc k ≡ n / 10 ^ k / 10
next-quotient n k =
    let e : 10 ^ suc k ≡ 10 ^ k * 10 = omega arith in
    ap (λ m. n / m) e ∙ sym (div-div-eq-div-mul n (10 ^ k) 10)

last-same : (k n m : ℕ) → n / 10 ^ k ≡ m / 10 ^ k → last_digits k n ≡ last_digits k m → n ≡ m
unfolding last_digits
last-same zero n m e f = let a : n / 10 ^ 0 ≡ n = omega arith in let b : m / 10 ^ 0 ≡ m = omega arith in sym a ∙ e ∙ b
last-same (suc k) n m e f =
    let x = n / 10 ^ k in
    let y = m / 10 ^ k in
    let low = heads (48 + x % 10) (48 + y % 10) (last_digits k n) (last_digits k m) f in
    let high : x / 10 ≡ y / 10 = sym (next-quotient n k) ∙ e ∙ next-quotient m k in
    let same : x ≡ y = omega arith in
    last-same k n m same (tails (48 + x % 10) (48 + y % 10) (last_digits k n) (last_digits k m) f)

pub last-long : (k n : ℕ) → length (last_digits k n) ≡ k
unfolding last_digits
last-long zero n = refl
last-long (suc k) n = let e = last-long k n in omega arith

whole-digits : (n k : ℕ) → n < 2 ^ 128 → (0 < length (decimal (n / 10 ^ k))) × (AllDigits 10 (decimal (n / 10 ^ k))) × (digits_value 10 (decimal (n / 10 ^ k)) ≡ n / 10 ^ k)
whole-digits n k h =
    let le = quotient-le n (10 ^ k) (power-pos k) in
    let told = decimal_is_IsNumeral_wide (n / 10 ^ k) (omega arith) in
    (told.0.0, told.0.1, told.1)

spread : (n k : ℕ) (x : List ℕ) → printed_decimal n k ++ x ≡ decimal (n / 10 ^ k) ++ (46 ∷ (last_digits k n ++ x))
spread n k x = append_assoc (decimal (n / 10 ^ k)) (46 ∷ last_digits k n) x

-- a decimal does not begin like a word
no-word : (n k h : ℕ) (x y : List ℕ) → n < 2 ^ 128 → EndsDigits h → (h ≡ 46 → ⊥) → printed_decimal n k ++ x ≡ h ∷ y → ⊥
no-word n k h x y short ends apart same =
    let parts = digits-front (decimal (n / 10 ^ k)) [] 46 h (last_digits k n ++ x) y (whole-digits n k short).1 tt (omega arith) ends (sym (spread n k x) ∙ same) in
    apart (sym (heads 46 h (last_digits k n ++ x) y parts.1))

abbrev after_5 : List ℕ → List ℕ
after_5 l = tail_of (tail_of (tail_of (tail_of (tail_of l))))

data-parts : (xs ys : List ℕ) (x y : List ℕ) → AreOctets xs → AreOctets ys → (flat_map two_digits xs ++ codes ">") ++ x ≡ (flat_map two_digits ys ++ codes ">") ++ y → (xs ≡ ys) × (x ≡ y)
data-parts xs ys x y h k same =
    data-front 62 xs ys x y (omega arith) h k (sym (append_assoc (flat_map two_digits xs) (codes ">") x) ∙ same ∙ append_assoc (flat_map two_digits ys) (codes ">") y)

shape-front : (a b : Shape) (c d : ℕ) (r s : List ℕ) → IsShape a → IsShape b → EndsDigits c → EndsDigits d → text_of a ++ (c ∷ r) ≡ text_of b ++ (d ∷ s) → (a ≡ b) × (c ∷ r ≡ d ∷ s)
shape-front (as_decimal n k) (as_decimal m j) c d r s h g p q same =
    let left = whole-digits n k h in
    let right = whole-digits m j g in
    let whole = digits-front (decimal (n / 10 ^ k)) (decimal (m / 10 ^ j)) 46 46 (last_digits k n ++ (c ∷ r)) (last_digits j m ++ (d ∷ s)) left.1 right.1 (omega arith) (omega arith) (sym (spread n k (c ∷ r)) ∙ same ∙ spread m j (d ∷ s)) in
    let value : n / 10 ^ k ≡ m / 10 ^ j = sym left.2 ∙ ap (digits_value 10) whole.0 ∙ right.2 in
    let behind = digits-front (last_digits k n) (last_digits j m) c d r s (last-are_digits k n) (last-are_digits j m) p q (tails 46 46 (last_digits k n ++ (c ∷ r)) (last_digits j m ++ (d ∷ s)) whole.1) in
    let long : k ≡ j = sym (last-long k n) ∙ ap length behind.0 ∙ last-long j m in
    let number : n ≡ m = last-same k n m (value ∙ ap (λ i. m / 10 ^ i) (sym long)) (behind.0 ∙ ap (λ i. last_digits i m) (sym long)) in
    (ap (λ i. as_decimal i k) number ∙ ap (as_decimal m) long, behind.1)
shape-front (as_decimal n k) (as_octets ys) c d r s h g p q same =
    absurd (no-word n k 114 (c ∷ r) _ h (omega arith) (λ e. omega arith) same)
shape-front (as_decimal n k) endless c d r s h g p q same =
    absurd (no-word n k 105 (c ∷ r) _ h (omega arith) (λ e. omega arith) same)
shape-front (as_decimal n k) (no_number ys) c d r s h g p q same =
    absurd (no-word n k 110 (c ∷ r) _ h (omega arith) (λ e. omega arith) same)
shape-front (as_octets xs) (as_decimal m j) c d r s h g p q same =
    absurd (no-word m j 114 (d ∷ s) _ g (omega arith) (λ e. omega arith) (sym same))
shape-front (as_octets xs) (as_octets ys) c d r s h g p q same =
    let parts = data-parts xs ys (c ∷ r) (d ∷ s) h g (ap (λ l. tail_of (after_5 l)) same) in
    (ap as_octets parts.0, parts.1)
shape-front (as_octets xs) endless c d r s h g p q same = absurd (let e : 114 ≡ 105 = ap head_of same in omega arith)
shape-front (as_octets xs) (no_number ys) c d r s h g p q same = absurd (let e : 114 ≡ 110 = ap head_of same in omega arith)
shape-front endless (as_decimal m j) c d r s h g p q same =
    absurd (no-word m j 105 (d ∷ s) _ g (omega arith) (λ e. omega arith) (sym same))
shape-front endless (as_octets ys) c d r s h g p q same = absurd (let e : 105 ≡ 114 = ap head_of same in omega arith)
shape-front endless endless c d r s h g p q same = (refl, append_cancel_left (codes "infinity") (c ∷ r) (d ∷ s) same)
shape-front endless (no_number ys) c d r s h g p q same = absurd (let e : 105 ≡ 110 = ap head_of same in omega arith)
shape-front (no_number xs) (as_decimal m j) c d r s h g p q same =
    absurd (no-word m j 110 (d ∷ s) _ g (omega arith) (λ e. omega arith) (sym same))
shape-front (no_number xs) (as_octets ys) c d r s h g p q same = absurd (let e : 110 ≡ 114 = ap head_of same in omega arith)
shape-front (no_number xs) endless c d r s h g p q same = absurd (let e : 110 ≡ 105 = ap head_of same in omega arith)
shape-front (no_number xs) (no_number ys) c d r s h g p q same =
    let parts = data-parts xs ys (c ∷ r) (d ∷ s) h g (ap after_5 same) in
    (ap no_number parts.0, parts.1)

no-minus : (a : Shape) (x y : List ℕ) → IsShape a → text_of a ++ x ≡ 45 ∷ y → ⊥
no-minus (as_decimal n k) x y h same = no-word n k 45 x y h (omega arith) (λ e. omega arith) same
no-minus (as_octets xs) x y h same = absurd (let e : 114 ≡ 45 = ap head_of same in omega arith)
no-minus endless x y h same = absurd (let e : 105 ≡ 45 = ap head_of same in omega arith)
no-minus (no_number xs) x y h same = absurd (let e : 110 ≡ 45 = ap head_of same in omega arith)

signed-front : (b b' : Bool) (a a' : Shape) (c d : ℕ) (r s : List ℕ) → IsShape a → IsShape a' → EndsDigits c → EndsDigits d
    → (sign_text b ++ text_of a) ++ (c ∷ r) ≡ (sign_text b' ++ text_of a') ++ (d ∷ s) → (b ≡ b') × (a ≡ a') × (c ∷ r ≡ d ∷ s)
signed-front true true a a' c d r s h g p q same =
    let rest = shape-front a a' c d r s h g p q (tails 45 45 (text_of a ++ (c ∷ r)) (text_of a' ++ (d ∷ s)) same) in (refl, rest.0, rest.1)
signed-front true false a a' c d r s h g p q same = absurd (no-minus a' (d ∷ s) (text_of a ++ (c ∷ r)) g (sym same))
signed-front false true a a' c d r s h g p q same = absurd (no-minus a (c ∷ r) (text_of a' ++ (d ∷ s)) h same)
signed-front false false a a' c d r s h g p q same =
    let rest = shape-front a a' c d r s h g p q same in (refl, rest.0, rest.1)

-- the shape of a real, and its reason
data Sized (f : Format) (xs : List ℕ) (bits : ℕ) : Shape → Type 0 where
  finite : (n k : ℕ) → reads_as (scaled_in f bits) (10 ^ k) n ≡ true → Sized f xs bits (as_decimal n k)
  far : Sized f xs bits (as_octets xs)
  infinite : bits ≡ f.infinite → Sized f xs bits endless
  none : Sized f xs bits (no_number xs)

record Shaped (f : Format) (xs : List ℕ) (bits : ℕ) : Type 0 where
  shape : Shape
  sized : Sized f xs bits shape
  valid : IsShape shape
  is : printed_size f xs bits ≡ text_of shape

shaped-finite : (f : Format) (xs : List ℕ) (bits : ℕ) → IsFormat f → AreOctets xs → nat_lt bits f.infinite ≡ true → (o : Option (ℕ × ℕ)) → decimal_of f bits ≡ o → Shaped f xs bits
shaped-finite f xs bits format octets low (Some d) e =
    let is = decimal-is f bits d.0 d.1 e in
    record {
      shape = as_decimal d.0 d.1;
      sized = finite d.0 d.1 is.reads;
      valid = decimal-short f bits d.0 d.1 format is;
      is = rw (low, e) refl;
    }
shaped-finite f xs bits format octets low None e =
    record { shape = as_octets xs; sized = far; valid = octets; is = rw (low, e) refl }

shaped : (f : Format) (xs : List ℕ) (bits : ℕ) → IsFormat f → AreOctets xs → Shaped f xs bits
shaped f xs bits format octets = elim (cases_Bool (nat_lt bits f.infinite)) [
  | inl low ↦ shaped-finite f xs bits format octets low (decimal_of f bits) refl
  | inr high ↦ elim (cases_Bool (bits == f.infinite)) [
    | inl is ↦ record { shape = endless; sized = infinite (equal bits f.infinite is); valid = tt; is = rw (high, is) refl }
    | inr not ↦ record { shape = no_number xs; sized = none; valid = octets; is = rw (high, not) refl }
  ]
]

same-bits : (f : Format) (xs ys : List ℕ) (a b : ℕ) (s t : Shape) → 0 < f.hidden → (xs ≡ ys → a ≡ b) → s ≡ t → Sized f xs a s → Sized f ys b t → a ≡ b
same-bits f xs ys a b _ _ pos h e (finite n k reads) (finite m j also) =
    let same_n : n ≡ m = cc in
    let same_k : k ≡ j = cc in
    one-real f a b (10 ^ j) m pos (subst (λ (i : ℕ). reads_as (scaled_in f a) (10 ^ i) m ≡ true) same_k (subst (λ (i : ℕ). reads_as (scaled_in f a) (10 ^ k) i ≡ true) same_n reads)) also
same-bits f xs ys a b _ _ pos h e far far = h cc
same-bits f xs ys a b _ _ pos h e (infinite is) (infinite was) = is ∙ sym was
same-bits f xs ys a b _ _ pos h e none none = h cc
same-bits f xs ys a b _ _ pos h e _ _ = absurd cc

-- if printed reals are equal up to what ends their digits, whatever their formats, then what
-- follows is equal
record Parts (f g : Format) (xs ys : List ℕ) (x y : List ℕ) : Type 0 where
  signs : nat_le f.sign (big_number f.octets xs) ≡ nat_le g.sign (big_number g.octets ys)
  left : Shape
  right : Shape
  sized_left : Sized f xs (big_number f.octets xs % f.sign) left
  sized_right : Sized g ys (big_number g.octets ys % g.sign) right
  shapes : left ≡ right
  behind : x ≡ y

parts : (f g : Format) (xs ys : List ℕ) (c d : ℕ) (r s : List ℕ) → IsFormat f → IsFormat g → AreOctets xs → AreOctets ys → EndsDigits c → EndsDigits d
    → printed_real f xs ++ (c ∷ r) ≡ printed_real g ys ++ (d ∷ s) → Parts f g xs ys (c ∷ r) (d ∷ s)
parts f g xs ys c d r s u v h k p q same =
    let a = shaped f xs (big_number f.octets xs % f.sign) u h in
    let b = shaped g ys (big_number g.octets ys % g.sign) v k in
    let minus = nat_le f.sign (big_number f.octets xs) in
    let minus' = nat_le g.sign (big_number g.octets ys) in
    let texts = sym (ap (λ t. (sign_text minus ++ t) ++ (c ∷ r)) a.is) ∙ same ∙ ap (λ t. (sign_text minus' ++ t) ++ (d ∷ s)) b.is in
    let three = signed-front minus minus' a.shape b.shape c d r s a.valid b.valid p q texts in
    record { signs = three.0; left = a.shape; right = b.shape; sized_left = a.sized; sized_right = b.sized; shapes = three.1; behind = three.2 }

pub reals-part : (f g : Format) (xs ys : List ℕ) (c d : ℕ) (r s : List ℕ) → IsFormat f → IsFormat g → AreOctets xs → AreOctets ys → EndsDigits c → EndsDigits d
    → printed_real f xs ++ (c ∷ r) ≡ printed_real g ys ++ (d ∷ s) → c ∷ r ≡ d ∷ s
reals-part f g xs ys c d r s u v h k p q same = (parts f g xs ys c d r s u v h k p q same).behind

octets-same : (n : ℕ) (xs ys : List ℕ) → IsOctetsOf n xs → IsOctetsOf n ys → big_number n xs ≡ big_number n ys → xs ≡ ys
octets-same n xs ys h k same =
    let long = h.long in
    let long' = k.long in
    let a = big_bytes-big_number n xs h.octets (omega arith) in
    let b = big_bytes-big_number n ys k.octets (omega arith) in
    let c = take_all n xs (omega arith) in
    let d = take_all n ys (omega arith) in
    sym (a ∙ c) ∙ ap (big_bytes n) same ∙ b ∙ d

pub real-front : (f : Format) (xs ys : List ℕ) (c d : ℕ) (r s : List ℕ) → IsFormat f → IsOctetsOf f.octets xs → IsOctetsOf f.octets ys → EndsDigits c → EndsDigits d
    → printed_real f xs ++ (c ∷ r) ≡ printed_real f ys ++ (d ∷ s) → (xs ≡ ys) × (c ∷ r ≡ d ∷ s)
real-front f xs ys c d r s format h k p q same =
    let all = parts f f xs ys c d r s format format h.octets k.octets p q same in
    let x = big_number f.octets xs in
    let y = big_number f.octets ys in
    let sizes : x % f.sign ≡ y % f.sign = same-bits f xs ys (x % f.sign) (y % f.sign) all.left all.right format.positive (ap (λ zs. big_number f.octets zs % f.sign)) all.shapes all.sized_left all.sized_right in
    let numbers = format.halves x y (big_from-lt 0 f.octets xs h.octets) (big_from-lt 0 f.octets ys k.octets) all.signs sizes in
    (octets-same f.octets xs ys h k numbers, all.behind)

-- a real begins like a number
shape-kind : (a : Shape) (x : List ℕ) → IsShape a → kind_of_head (head_of (text_of a ++ x)) ≡ 1
shape-kind (as_decimal n k) x h =
    ap (λ l. kind_of_head (head_of l)) (spread n k x) ∙ digits-kind (decimal (n / 10 ^ k)) 46 (last_digits k n ++ x) (whole-digits n k h).1 refl
shape-kind _ x h = refl

signed-kind : (b : Bool) (a : Shape) (x : List ℕ) → IsShape a → kind_of_head (head_of ((sign_text b ++ text_of a) ++ x)) ≡ 1
signed-kind true a x h = refl
signed-kind false a x h = shape-kind a x h

pub real-kind : (f : Format) (xs x : List ℕ) → IsFormat f → AreOctets xs → kind_of_head (head_of (printed_real f xs ++ x)) ≡ 1
real-kind f xs x format h =
    let a = shaped f xs (big_number f.octets xs % f.sign) format h in
    let minus = nat_le f.sign (big_number f.octets xs) in
    ap (λ t. kind_of_head (head_of ((sign_text minus ++ t) ++ x))) a.is ∙ signed-kind minus a.shape x a.valid

-- the digits of an integer are not followed by a decimal point, and begin no word
shape-whole : (ds : List ℕ) (a : Shape) (r x : List ℕ) → AllDigits 10 ds → IsShape a → ds ++ (10 ∷ r) ≡ text_of a ++ x → ⊥
shape-whole ds (as_decimal n k) r x h g same =
    let both = digits-front ds (decimal (n / 10 ^ k)) 10 46 r (last_digits k n ++ x) h (whole-digits n k g).1 (omega arith) (omega arith) (same ∙ spread n k x) in
    absurd (let e : 10 ≡ 46 = heads 10 46 r (last_digits k n ++ x) both.1 in omega arith)
shape-whole ds (as_octets xs) r x h g same =
    let both = digits-front ds [] 10 114 r (tail_of (text_of (as_octets xs) ++ x)) h tt (omega arith) (omega arith) same in
    absurd (let e : 10 ≡ 114 = ap head_of both.1 in omega arith)
shape-whole ds endless r x h g same =
    let both = digits-front ds [] 10 105 r (tail_of (text_of endless ++ x)) h tt (omega arith) (omega arith) same in
    absurd (let e : 10 ≡ 105 = ap head_of both.1 in omega arith)
shape-whole ds (no_number xs) r x h g same =
    let both = digits-front ds [] 10 110 r (tail_of (text_of (no_number xs) ++ x)) h tt (omega arith) (omega arith) same in
    absurd (let e : 10 ≡ 110 = ap head_of both.1 in omega arith)

signed-whole : (negative b : Bool) (ds : List ℕ) (a : Shape) (r x : List ℕ) → AllDigits 10 ds → IsShape a → (sign_text negative ++ ds) ++ (10 ∷ r) ≡ (sign_text b ++ text_of a) ++ x → ⊥
signed-whole true true ds a r x h g same = shape-whole ds a r x h g (tails 45 45 (ds ++ (10 ∷ r)) (text_of a ++ x) same)
signed-whole true false ds a r x h g same = no-minus a x (ds ++ (10 ∷ r)) g (sym same)
signed-whole false true ds a r x h g same =
    let both = digits-front ds [] 10 45 r (text_of a ++ x) h tt (omega arith) (omega arith) same in
    absurd (let e : 10 ≡ 45 = ap head_of both.1 in omega arith)
signed-whole false false ds a r x h g same = shape-whole ds a r x h g same

-- no real is printed like an integer
pub real-whole : (f : Format) (negative : Bool) (ds xs r x : List ℕ) → IsFormat f → AllDigits 10 ds → AreOctets xs → (sign_text negative ++ ds) ++ (10 ∷ r) ≡ printed_real f xs ++ x → ⊥
real-whole f negative ds xs r x format h k same =
    let a = shaped f xs (big_number f.octets xs % f.sign) format k in
    let minus = nat_le f.sign (big_number f.octets xs) in
    signed-whole negative minus ds a.shape r x h a.valid (same ∙ ap (λ t. (sign_text minus ++ t) ++ x) a.is)

-- what follows the seconds does not begin with a digit
record Behind (moment : Option ℕ) (r : List ℕ) : Type 0 where
  head : ℕ
  rest : List ℕ
  ends : EndsDigits head
  is : in_brackets moment ++ (10 ∷ r) ≡ head ∷ rest

behind : (moment : Option ℕ) (r : List ℕ) → Behind moment r
behind None r = record { head = 10; rest = r; ends = omega arith; is = refl }
behind (Some second) r =
    record { head = 32; rest = tail_of (in_brackets (Some second) ++ (10 ∷ r)); ends = omega arith; is = refl }

seconds-first : (xs r : List ℕ) (b : Behind (second_of xs) r) → printed_date xs ++ (10 ∷ r) ≡ printed_real double xs ++ (b.head ∷ b.rest)
seconds-first xs r b =
    append_assoc (printed_real double xs) (in_brackets (second_of xs)) (10 ∷ r) ∙ ap (λ t. printed_real double xs ++ t) b.is

-- the seconds determine the bytes, and these determine date and time
pub date-front : (xs ys r s : List ℕ) → IsOctetsOf 8 xs → IsOctetsOf 8 ys → printed_date xs ++ (10 ∷ r) ≡ printed_date ys ++ (10 ∷ s) → (xs ≡ ys) × (r ≡ s)
date-front xs ys r s h k same =
    let a = behind (second_of xs) r in
    let b = behind (second_of ys) s in
    let both = real-front double xs ys a.head b.head a.rest b.rest double-format h k a.ends b.ends (sym (seconds-first xs r a) ∙ same ∙ seconds-first ys s b) in
    let moment = ap (λ zs. in_brackets (second_of zs) ++ (10 ∷ s)) (sym both.0) in
    (both.0, tails 10 10 r s (append_cancel_left (in_brackets (second_of xs)) (10 ∷ r) (10 ∷ s) (a.is ∙ both.1 ∙ sym b.is ∙ moment)))
