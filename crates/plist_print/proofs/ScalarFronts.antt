-- The line of a scalar is determined by the start of the text.
use Rattle.std.proofs.Common.{◌≡◌, ℕ, suc, ◌/◌, ◌^◌, ◌<◌, Bool, true, false, List, [], ◌∷◌, ◌++◌, length, inl, inr, refl, sym, ap, ◌∙◌, arith, append_assoc}
use Rattle.std.specs.Prelude.{codes, decimal, ℤ, pos, negsuc, flat_map}
use Rattle.std.specs.Str.Parse.{digits_value, AllDigits}
use Rattle.std.specs.Fmt.{signed_decimal}
use Rattle.std.proofs.lemmas.Fmt.{decimal_is_IsNumeral_wide}
use Rattle.std.proofs.lemmas.Bool.{cases_lt}
use Rattle.std.proofs.lemmas.List.{append_cancel_left}
use Rattle.std.proofs.lemmas.Int.{ints}
use Rattle.plist_value.specs.Plist.{Scalar, text, whole, flag, real4, real8, moment, bytes, AreOctets, IsScalar, IsWhole}
use Rattle.plist_print.specs.Units.{printed_units, printed_text}
use Rattle.plist_value.specs.Digits.{two_digits}
use Rattle.plist_print.specs.declared.numbers.Format.{Format}
use Rattle.plist_print.specs.Reals.{single, double, printed_real}
use Rattle.plist_print.specs.Dates.{printed_date}
use Rattle.plist_print.specs.Printed.{indent, enclosed, octet_lines, printed_scalar, printed_line}
use Rattle.plist_print.proofs.Fronts.{head_of, tail_of, heads, tails, EndsDigits, digits-front, kind_of_head, digits-kind}
use Rattle.plist_print.proofs.UnitFronts.{units-front, data-front, digit-no_end}
use Rattle.plist_print.proofs.Compared.{unlike}
use Rattle.plist_print.proofs.DataLines.{if-told, if-denied}
use Rattle.plist_print.proofs.DataFronts.{lines-front}
use Rattle.plist_print.proofs.RealFronts.{date-front, real-front, reals-part, real-kind, real-whole}
use Rattle.plist_print.proofs.Neighbours.{IsFormat, single-format, double-format}

-- the digits of an integer, without its sign
abbrev size_of : ℤ → ℕ
size_of (pos n) = n
size_of (negsuc n) = suc n

size-small : (z : ℤ) → IsWhole z → size_of z < 10 ^ 64
size-small (pos n) h = let most = h.most in omega (arith, ints)
size-small (negsuc n) h = let least = h.least in omega (arith, ints)

size-digits : (z : ℤ) → IsWhole z → (AllDigits 10 (decimal (size_of z))) × (digits_value 10 (decimal (size_of z)) ≡ size_of z)
size-digits z h = let told = decimal_is_IsNumeral_wide (size_of z) (size-small z h) in (told.0.1, told.1)

size-front : (n m : ℕ) (c d : ℕ) (r s : List ℕ) → (AllDigits 10 (decimal n)) × (digits_value 10 (decimal n) ≡ n) → (AllDigits 10 (decimal m)) × (digits_value 10 (decimal m) ≡ m) → EndsDigits c → EndsDigits d
    → decimal n ++ (c ∷ r) ≡ decimal m ++ (d ∷ s) → (n ≡ m) × (c ∷ r ≡ d ∷ s)
size-front n m c d r s h k p q same =
    let both = digits-front (decimal n) (decimal m) c d r s h.0 k.0 p q same in
    (sym h.1 ∙ ap (digits_value 10) both.0 ∙ k.1, both.1)

no-minus : (n : ℕ) (c : ℕ) (r y : List ℕ) → AllDigits 10 (decimal n) → EndsDigits c → (c ≡ 45 → ⊥) → decimal n ++ (c ∷ r) ≡ 45 ∷ y → ⊥
no-minus n c r y h p apart same =
    let both = digits-front (decimal n) [] c 45 r y h tt p (omega arith) same in apart (heads c 45 r y both.1)

whole-front : (y z : ℤ) (c d : ℕ) (r s : List ℕ) → IsWhole y → IsWhole z → EndsDigits c → EndsDigits d → (c ≡ 45 → ⊥) → (d ≡ 45 → ⊥)
    → signed_decimal y ++ (c ∷ r) ≡ signed_decimal z ++ (d ∷ s) → (y ≡ z) × (c ∷ r ≡ d ∷ s)
whole-front (pos n) (pos m) c d r s h k p q u v same =
    let both = size-front n m c d r s (size-digits (pos n) h) (size-digits (pos m) k) p q same in (ap pos both.0, both.1)
whole-front (pos n) (negsuc m) c d r s h k p q u v same =
    absurd (no-minus n c r (decimal (suc m) ++ (d ∷ s)) (size-digits (pos n) h).0 p u same)
whole-front (negsuc n) (pos m) c d r s h k p q u v same =
    absurd (no-minus m d s (decimal (suc n) ++ (c ∷ r)) (size-digits (pos m) k).0 q v (sym same))
whole-front (negsuc n) (negsuc m) c d r s h k p q u v same =
    let both = size-front (suc n) (suc m) c d r s (size-digits (negsuc n) h) (size-digits (negsuc m) k) p q (tails 45 45 (decimal (suc n) ++ (c ∷ r)) (decimal (suc m) ++ (d ∷ s)) same) in
    let less : n ≡ m = let e = both.0 in omega arith in
    (ap negsuc less, both.1)

-- the kind of a scalar, which the first byte of its text determines
abbrev pub kind_of : Scalar → ℕ
kind_of (text units) = 0
kind_of (whole z) = 1
kind_of (flag b) = 2
kind_of (real4 xs) = 1
kind_of (real8 xs) = 1
kind_of (moment xs) = 3
kind_of (bytes xs) = 4

line-4 : (xs r : List ℕ) → (printed_real single xs ++ codes "f") ++ r ≡ printed_real single xs ++ (102 ∷ r)
line-4 xs r = append_assoc (printed_real single xs) (codes "f") r

whole-kind : (z : ℤ) (r : List ℕ) → IsWhole z → kind_of_head (head_of (signed_decimal z ++ (10 ∷ r))) ≡ 1
whole-kind (pos n) r h = digits-kind (decimal n) 10 r (size-digits (pos n) h).0 refl
whole-kind (negsuc n) r h = refl

flag-kind : (b : Bool) (r : List ℕ) → kind_of_head (head_of (printed_scalar (flag b) ++ (10 ∷ r))) ≡ 2
flag-kind true r = refl
flag-kind false r = refl

pub scalar-kind : (v : Scalar) (r : List ℕ) → IsScalar v → kind_of_head (head_of (printed_scalar v ++ (10 ∷ r))) ≡ kind_of v
scalar-kind (whole z) r h = whole-kind z r h
scalar-kind (flag b) r h = flag-kind b r
scalar-kind (real4 xs) r h = ap (λ l. kind_of_head (head_of l)) (line-4 xs (10 ∷ r)) ∙ real-kind single xs (102 ∷ 10 ∷ r) single-format h.octets
scalar-kind (real8 xs) r h = real-kind double xs (10 ∷ r) double-format h.octets
scalar-kind _ r h = refl

apart : {A : Type 0} (v w : Scalar) (r s : List ℕ) → IsScalar v → IsScalar w → printed_scalar v ++ (10 ∷ r) ≡ printed_scalar w ++ (10 ∷ s) → (kind_of v ≡ kind_of w → ⊥) → A
apart v w r s h k same differ =
    absurd (differ (sym (scalar-kind v r h) ∙ ap (λ l. kind_of_head (head_of l)) same ∙ scalar-kind w s k))

pub text-front : (us ws r s : List ℕ) → IsScalar (text us) → IsScalar (text ws) → printed_text us ++ r ≡ printed_text ws ++ s → (us ≡ ws) × (r ≡ s)
text-front us ws r s h k same =
    let inner = tails 34 34 ((printed_units us ++ codes "\"") ++ r) ((printed_units ws ++ codes "\"") ++ s) same in
    units-front us ws r s h k (sym (append_assoc (printed_units us) (codes "\"") r) ∙ inner ∙ append_assoc (printed_units ws) (codes "\"") s)

bytes-front : (xs ys r s : List ℕ) → IsScalar (bytes xs) → IsScalar (bytes ys) → printed_scalar (bytes xs) ++ r ≡ printed_scalar (bytes ys) ++ s → (xs ≡ ys) × (r ≡ s)
bytes-front xs ys r s h k same =
    let inner = tails 60 60 ((flat_map two_digits xs ++ codes ">") ++ r) ((flat_map two_digits ys ++ codes ">") ++ s) same in
    data-front 62 xs ys r s (omega arith) h k (sym (append_assoc (flat_map two_digits xs) (codes ">") r) ∙ inner ∙ append_assoc (flat_map two_digits ys) (codes ">") s)

flag-front : (a b : Bool) (r s : List ℕ) → printed_scalar (flag a) ++ (10 ∷ r) ≡ printed_scalar (flag b) ++ (10 ∷ s) → (a ≡ b) × (r ≡ s)
flag-front true true r s same = (refl, append_cancel_left (codes "true\n") r s same)
flag-front true false r s same = absurd (let e : 116 ≡ 102 = ap head_of same in omega arith)
flag-front false true r s same = absurd (let e : 102 ≡ 116 = ap head_of same in omega arith)
flag-front false false r s same = (refl, append_cancel_left (codes "false\n") r s same)

no-whole : (f : Format) (z : ℤ) (xs r x : List ℕ) → IsFormat f → IsWhole z → AreOctets xs → signed_decimal z ++ (10 ∷ r) ≡ printed_real f xs ++ x → ⊥
no-whole f (pos n) xs r x format h k same = real-whole f false (decimal n) xs r x format (size-digits (pos n) h).0 k same
no-whole f (negsuc n) xs r x format h k same = real-whole f true (decimal (suc n)) xs r x format (size-digits (negsuc n) h).0 k same

pub scalar-front : (v w : Scalar) (r s : List ℕ) → IsScalar v → IsScalar w → printed_scalar v ++ (10 ∷ r) ≡ printed_scalar w ++ (10 ∷ s) → (v ≡ w) × (r ≡ s)
scalar-front (text us) (text ws) r s h k same =
    let both = text-front us ws (10 ∷ r) (10 ∷ s) h k same in (ap text both.0, tails 10 10 r s both.1)
scalar-front (whole y) (whole z) r s h k same =
    let both = whole-front y z 10 10 r s h k (omega arith) (omega arith) (λ e. omega arith) (λ e. omega arith) same in (ap whole both.0, tails 10 10 r s both.1)
scalar-front (flag a) (flag b) r s h k same = let both = flag-front a b r s same in (ap flag both.0, both.1)
scalar-front (real4 xs) (real4 ys) r s h k same =
    let both = real-front single xs ys 102 102 (10 ∷ r) (10 ∷ s) single-format h k (omega arith) (omega arith) (sym (line-4 xs (10 ∷ r)) ∙ same ∙ line-4 ys (10 ∷ s)) in
    (ap real4 both.0, ap (λ l. tail_of (tail_of l)) both.1)
scalar-front (real8 xs) (real8 ys) r s h k same =
    let both = real-front double xs ys 10 10 r s double-format h k (omega arith) (omega arith) same in (ap real8 both.0, tails 10 10 r s both.1)
scalar-front (real4 xs) (real8 ys) r s h k same =
    absurd (let e : 102 ≡ 10 = ap head_of (reals-part single double xs ys 102 10 (10 ∷ r) s single-format double-format h.octets k.octets (omega arith) (omega arith) (sym (line-4 xs (10 ∷ r)) ∙ same)) in omega arith)
scalar-front (real8 xs) (real4 ys) r s h k same =
    absurd (let e : 10 ≡ 102 = ap head_of (reals-part double single xs ys 10 102 r (10 ∷ s) double-format single-format h.octets k.octets (omega arith) (omega arith) (same ∙ line-4 ys (10 ∷ s))) in omega arith)
scalar-front (whole z) (real4 ys) r s h k same = absurd (no-whole single z ys r (102 ∷ 10 ∷ s) single-format h k.octets (same ∙ line-4 ys (10 ∷ s)))
scalar-front (whole z) (real8 ys) r s h k same = absurd (no-whole double z ys r (10 ∷ s) double-format h k.octets same)
scalar-front (real4 xs) (whole z) r s h k same = absurd (no-whole single z xs s (102 ∷ 10 ∷ r) single-format k h.octets (sym same ∙ line-4 xs (10 ∷ r)))
scalar-front (real8 xs) (whole z) r s h k same = absurd (no-whole double z xs s (10 ∷ r) double-format k h.octets (sym same))
scalar-front (moment xs) (moment ys) r s h k same =
    let both = date-front xs ys r s h k (append_cancel_left (codes "date ") (printed_date xs ++ (10 ∷ r)) (printed_date ys ++ (10 ∷ s)) same) in (ap moment both.0, both.1)
scalar-front (bytes xs) (bytes ys) r s h k same =
    let both = bytes-front xs ys (10 ∷ r) (10 ∷ s) h k same in (ap bytes both.0, tails 10 10 r s both.1)
scalar-front v w r s h k same = apart v w r s h k same (λ e. omega arith)

pub small-kind : (s : Scalar) → kind_of s < 5
small-kind (text units) = omega arith
small-kind _ = omega arith

-- data of more than 32 bytes does not begin like a single line
no-line : {A : Type 0} (a : Scalar) (r y : List ℕ) → IsScalar a → printed_scalar a ++ (10 ∷ r) ≡ 60 ∷ 10 ∷ y → (kind_of a ≡ 4 → ⊥) → A
no-line a r y h same differ =
    absurd (differ (sym (scalar-kind a r h) ∙ ap (λ l. kind_of_head (head_of l)) same))

no-long : (a : Scalar) (r y : List ℕ) → IsScalar a → printed_scalar a ++ (10 ∷ r) ≡ 60 ∷ 10 ∷ y → ⊥
no-long (bytes []) r y h same = unlike 62 10 refl (ap (λ l. head_of (tail_of l)) same)
no-long (bytes (x ∷ xs)) r y h same =
    let b = h 0 in digit-no_end 10 (x / 16) (omega arith) (omega arith) (ap (λ l. head_of (tail_of l)) same)
no-long a r y h same = no-line a r y h same (λ e. omega arith)

-- a scalar is printed in one of two ways
data Line (level : ℕ) : Scalar → Type 0 where
  short : (s : Scalar) → printed_line level s ≡ printed_scalar s ++ codes "\n" → Line level s
  long : (xs : List ℕ) → printed_line level (bytes xs) ≡ enclosed level 60 62 (octet_lines (indent (suc level)) xs) → Line level (bytes xs)

line-of : (level : ℕ) (s : Scalar) → Line level s
line-of level (bytes xs) = elim (cases_lt 32 (length xs)) [
  | inl more ↦ long xs (if-denied _ _ (length xs) 32 more)
  | inr few ↦ short (bytes xs) (if-told _ _ (length xs) 32 few)
]
line-of level s = short s refl

shortened : (level : ℕ) (s : Scalar) (r : List ℕ) → printed_line level s ≡ printed_scalar s ++ codes "\n" → printed_line level s ++ r ≡ printed_scalar s ++ (10 ∷ r)
shortened level s r is = ap (λ l. l ++ r) is ∙ append_assoc (printed_scalar s) (codes "\n") r

fronts-by : (level : ℕ) (a b : Scalar) (r s : List ℕ) → IsScalar a → IsScalar b → Line level a → Line level b → printed_line level a ++ r ≡ printed_line level b ++ s → (a ≡ b) × (r ≡ s)
fronts-by level _ _ r s h k (short a is) (short b was) same =
    scalar-front a b r s h k (sym (shortened level a r is) ∙ same ∙ shortened level b s was)
fronts-by level _ _ r s h k (short a is) (long ys was) same =
    absurd (no-long a r _ h (sym (shortened level a r is) ∙ same ∙ ap (λ l. l ++ s) was))
fronts-by level _ _ r s h k (long xs is) (short b was) same =
    absurd (no-long b s _ k (sym (shortened level b s was) ∙ sym same ∙ ap (λ l. l ++ r) is))
fronts-by level _ _ r s h k (long xs is) (long ys was) same =
    let left = octet_lines (indent (suc level)) xs in
    let right = octet_lines (indent (suc level)) ys in
    let all : enclosed level 60 62 left ++ r ≡ enclosed level 60 62 right ++ s = sym (ap (λ l. l ++ r) is) ∙ same ∙ ap (λ l. l ++ s) was in
    let inner : (left ++ (indent level ++ (62 ∷ 10 ∷ []))) ++ r ≡ (right ++ (indent level ++ (62 ∷ 10 ∷ []))) ++ s = ap (λ l. tail_of (tail_of l)) all in
    let both = lines-front level xs ys r s h k (sym (append_assoc left (indent level ++ (62 ∷ 10 ∷ [])) r) ∙ inner ∙ append_assoc right (indent level ++ (62 ∷ 10 ∷ [])) s) in
    (ap bytes both.0, both.1)

pub line-front : (level : ℕ) (a b : Scalar) (r s : List ℕ) → IsScalar a → IsScalar b → printed_line level a ++ r ≡ printed_line level b ++ s → (a ≡ b) × (r ≡ s)
line-front level a b r s h k same = fronts-by level a b r s h k (line-of level a) (line-of level b) same

kind-by : (level : ℕ) (s : Scalar) (r : List ℕ) → IsScalar s → Line level s → kind_of_head (head_of (printed_line level s ++ r)) ≡ kind_of s
kind-by level _ r h (short s is) = ap (λ l. kind_of_head (head_of l)) (shortened level s r is) ∙ scalar-kind s r h
kind-by level _ r h (long xs is) = ap (λ l. kind_of_head (head_of (l ++ r))) is

pub line-kind : (level : ℕ) (s : Scalar) (r : List ℕ) → IsScalar s → kind_of_head (head_of (printed_line level s ++ r)) ≡ kind_of s
line-kind level s r h = kind-by level s r h (line-of level s)
