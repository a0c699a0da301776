-- Printed strings and data are determined by the start of the text.
use Rattle.std.proofs.Common.{◌≡◌, ℕ, zero, suc, ◌/◌, ◌%◌, ◌<◌, ◌≤◌, Bool, true, false, List, [], ◌∷◌, ◌++◌, length, refl, sym, ap, subst, ◌∙◌, arith, append_assoc, inl, inr}
use Rattle.std.specs.Prelude.{◌==◌, flat_map, if◌then◌else◌}
use Rattle.std.specs.Char.{digit_char, digit_value, encode_utf8}
use Rattle.std.specs.Char.Utf16.{is_high_surrogate, is_low_surrogate, surrogate_pair_char}
use Rattle.std.proofs.lemmas.Bool.{cases_Bool, and_parts}
use Rattle.std.proofs.lemmas.Bool.Decides.{nat_tests}
use Rattle.std.proofs.lemmas.List.{append-nil}
use Rattle.std.proofs.lemmas.Str.{digit_value-digit_char, encode_same, encode_ascii}
use Rattle.plist_value.specs.Plist.{AreUnits, AreOctets}
use Rattle.plist_print.specs.Units.{is_invisible, is_visible_pair, printed_unit, printed_units}
use Rattle.plist_value.specs.Digits.{two_digits}
use Rattle.plist_print.proofs.Fronts.{heads, tails}
use Rattle.plist_print.proofs.Compared.{equal, unlike}

-- the unit that an escape of one letter encodes
abbrev unescaped : ℕ → ℕ
unescaped e = if e == 110 then 10 else (if e == 116 then 9 else (if e == 114 then 13 else e))

-- a single unit is printed in one of three ways
data Shown : ℕ → List ℕ → Type 0 where
  letter : (e : ℕ) → (e ≡ 85 → ⊥) → Shown (unescaped e) (92 ∷ e ∷ [])
  number : (u : ℕ) → Shown u (92 ∷ 85 ∷ (two_digits (u / 256) ++ two_digits (u % 256)))
  itself : (u : ℕ) → (u ≡ 34 → ⊥) → (u ≡ 92 → ⊥) → Shown u (encode_utf8 u)

if-shown : (b : Bool) (u : ℕ) (xs ys : List ℕ) → (b ≡ true → Shown u xs) → (b ≡ false → Shown u ys) → Shown u (if b then xs else ys)
if-shown true u xs ys h k = h refl
if-shown false u xs ys h k = k refl

by_letter : (u e : ℕ) → (e ≡ 85 → ⊥) → u ≡ unescaped e → Shown u (92 ∷ e ∷ [])
by_letter u e h is = subst (λ (v : ℕ). Shown v (92 ∷ e ∷ [])) (sym is) (letter e h)

shown : (u : ℕ) → Shown u (printed_unit u)
unfolding printed_unit
shown u =
    if-shown (u == 34) u _ _ (λ e. by_letter u 34 (λ h. omega arith) (equal u 34 e)) (λ q.
    if-shown (u == 92) u _ _ (λ e. by_letter u 92 (λ h. omega arith) (equal u 92 e)) (λ b.
    if-shown (u == 10) u _ _ (λ e. by_letter u 110 (λ h. omega arith) (equal u 10 e)) (λ n.
    if-shown (u == 9) u _ _ (λ e. by_letter u 116 (λ h. omega arith) (equal u 9 e)) (λ t.
    if-shown (u == 13) u _ _ (λ e. by_letter u 114 (λ h. omega arith) (equal u 13 e)) (λ r.
    if-shown (is_invisible u) u _ _ (λ e. number u) (λ e. itself u (unlike u 34 q) (unlike u 92 b)))))))

two-front : (x y : ℕ) (r s : List ℕ) → x < 256 → y < 256 → two_digits x ++ r ≡ two_digits y ++ s → (x ≡ y) × (r ≡ s)
two-front x y r s h k e =
    let high = ap digit_value (heads (digit_char (x / 16)) (digit_char (y / 16)) (digit_char (x % 16) ∷ r) (digit_char (y % 16) ∷ s) e) in
    let rest = tails (digit_char (x / 16)) (digit_char (y / 16)) (digit_char (x % 16) ∷ r) (digit_char (y % 16) ∷ s) e in
    let low = ap digit_value (heads (digit_char (x % 16)) (digit_char (y % 16)) r s rest) in
    let a = digit_value-digit_char (x / 16) (omega (arith, h)) in
    let b = digit_value-digit_char (y / 16) (omega (arith, k)) in
    let c = digit_value-digit_char (x % 16) (omega (arith, h)) in
    let d = digit_value-digit_char (y % 16) (omega (arith, k)) in
    let same_high : x / 16 ≡ y / 16 = sym a ∙ high ∙ b in
    let same_low : x % 16 ≡ y % 16 = sym c ∙ low ∙ d in
    (omega (arith, same_high, same_low), tails (digit_char (x % 16)) (digit_char (y % 16)) r s rest)

-- a character that begins with an ASCII byte is this ASCII character
begins : (c u : ℕ) (r s : List ℕ) → c < 128 → c ∷ r ≡ encode_utf8 u ++ s → c ≡ u
begins c u r s h e = (encode_same c u r s (ap (λ xs. xs ++ r) (encode_ascii c h) ∙ e)).0

shown-front : (u w : ℕ) (p q x y : List ℕ) → u < 65536 → w < 65536 → Shown u p → Shown w q → p ++ x ≡ q ++ y → (u ≡ w) × (x ≡ y)
shown-front _ _ _ _ x y h k (letter e g) (letter f i) same =
    let rest = tails 92 92 (e ∷ x) (f ∷ y) same in (ap unescaped (heads e f x y rest), tails e f x y rest)
shown-front _ _ _ _ x y h k (letter e g) (number w) same =
    absurd (g (heads e 85 x (two_digits (w / 256) ++ two_digits (w % 256) ++ y) (tails 92 92 _ _ same)))
shown-front _ _ _ _ x y h k (letter e g) (itself w i j) same =
    absurd (j (sym (begins 92 w (e ∷ x) y (omega arith) same)))
shown-front _ _ _ _ x y h k (number u) (letter f i) same =
    absurd (i (sym (heads 85 f (two_digits (u / 256) ++ two_digits (u % 256) ++ x) y (tails 92 92 _ _ same))))
shown-front _ _ _ _ x y h k (number u) (number w) same =
    let four = tails 85 85 (two_digits (u / 256) ++ (two_digits (u % 256) ++ x)) (two_digits (w / 256) ++ (two_digits (w % 256) ++ y)) (tails 92 92 _ _ same) in
    let high = two-front (u / 256) (w / 256) (two_digits (u % 256) ++ x) (two_digits (w % 256) ++ y) (omega (arith, h)) (omega (arith, k)) four in
    let low = two-front (u % 256) (w % 256) x y (omega arith) (omega arith) high.1 in
    (omega (arith, high.0, low.0), low.1)
shown-front _ _ _ _ x y h k (number u) (itself w i j) same =
    absurd (j (sym (begins 92 w (85 ∷ (two_digits (u / 256) ++ two_digits (u % 256) ++ x)) y (omega arith) same)))
shown-front _ _ _ _ x y h k (itself u i j) (letter f g) same =
    absurd (j (sym (begins 92 u (f ∷ y) x (omega arith) (sym same))))
shown-front _ _ _ _ x y h k (itself u i j) (number w) same =
    absurd (j (sym (begins 92 u (85 ∷ (two_digits (w / 256) ++ two_digits (w % 256) ++ y)) x (omega arith) (sym same))))
shown-front _ _ _ _ x y h k (itself u i j) (itself w f g) same = encode_same u w x y same

-- no unit begins like the closing quote
shown-quote : (u : ℕ) (p x y : List ℕ) → Shown u p → 34 ∷ x ≡ p ++ y → ⊥
shown-quote _ _ x y (letter e g) same = let h = heads 34 92 x (e ∷ y) same in omega arith
shown-quote _ _ x y (number u) same = let h = heads 34 92 x (85 ∷ (two_digits (u / 256) ++ two_digits (u % 256) ++ y)) same in omega arith
shown-quote _ _ x y (itself u i j) same = i (sym (begins 34 u x y (omega arith) same))

-- the character of a pair is not that of a single unit
shown-pair : (u c : ℕ) (p x y : List ℕ) → u < 65536 → 65536 ≤ c → Shown u p → p ++ x ≡ encode_utf8 c ++ y → ⊥
shown-pair _ c _ x y h k (letter e g) same = let is = begins 92 c (e ∷ x) y (omega arith) same in omega arith
shown-pair _ c _ x y h k (number u) same =
    let is = begins 92 c (85 ∷ (two_digits (u / 256) ++ two_digits (u % 256) ++ x)) y (omega arith) same in omega arith
shown-pair _ c _ x y h k (itself u i j) same = let is = (encode_same u c x y same).0 in omega arith

-- the first character of a string
data First : List ℕ → Type 0 where
  none : First []
  single : (u : ℕ) (us : List ℕ) → printed_units (u ∷ us) ≡ printed_unit u ++ printed_units us → First (u ∷ us)
  double : (u v : ℕ) (us : List ℕ) → is_high_surrogate u ≡ true → is_low_surrogate v ≡ true → printed_units (u ∷ v ∷ us) ≡ encode_utf8 (surrogate_pair_char u v) ++ printed_units us → First (u ∷ v ∷ us)

first : (us : List ℕ) → First us
first [] = none
first (u ∷ []) = single u [] (sym (append-nil (printed_unit u)))
first (u ∷ v ∷ us) =
    elim (cases_Bool (is_visible_pair u v)) [
      | inl is ↦ (
          let both = and_parts (is_high_surrogate u) _ is in
          double u v us both.0 (and_parts (is_low_surrogate v) _ both.1).0 (rw is refl)
          )
      | inr not ↦ single u (v ∷ us) (rw not refl)
    ]

pair-large : (u v : ℕ) → 65536 ≤ surrogate_pair_char u v
pair-large u v = omega arith

pair-same : (u v w x : ℕ) → is_high_surrogate u ≡ true → is_low_surrogate v ≡ true → is_high_surrogate w ≡ true → is_low_surrogate x ≡ true → surrogate_pair_char u v ≡ surrogate_pair_char w x → (u ≡ w) × (v ≡ x)
pair-same u v w x a b c d e =
    let a1 : 0xD800 ≤ u = grind (arith, nat_tests) in
    let b1 : 0xDC00 ≤ v = grind (arith, nat_tests) in
    let b2 : v < 0xE000 = grind (arith, nat_tests) in
    let c1 : 0xD800 ≤ w = grind (arith, nat_tests) in
    let d1 : 0xDC00 ≤ x = grind (arith, nat_tests) in
    let d2 : x < 0xE000 = grind (arith, nat_tests) in
    (omega arith, omega arith)

abbrev Same : List ℕ → List ℕ → List ℕ → List ℕ → Type 0
Same us ws r s = printed_units us ++ (34 ∷ r) ≡ printed_units ws ++ (34 ∷ s) → (us ≡ ws) × (r ≡ s)

front-by : (n : ℕ) (us ws r s : List ℕ) → length us ≤ n → AreUnits us → AreUnits ws → First us → First ws → Same us ws r s
front-by n _ _ r s long h k none none same = (refl, tails 34 34 r s same)
front-by n _ _ r s long h k none (single w ws is) same =
    absurd (shown-quote w (printed_unit w) r (printed_units ws ++ (34 ∷ s)) (shown w) (same ∙ ap (λ xs. xs ++ (34 ∷ s)) is ∙ append_assoc (printed_unit w) (printed_units ws) (34 ∷ s)))
front-by n _ _ r s long h k none (double w x ws high low is) same =
    absurd (let c = begins 34 (surrogate_pair_char w x) r (printed_units ws ++ (34 ∷ s)) (omega arith) (same ∙ ap (λ xs. xs ++ (34 ∷ s)) is ∙ append_assoc (encode_utf8 (surrogate_pair_char w x)) (printed_units ws) (34 ∷ s)) in let large = pair-large w x in omega arith)
front-by n _ _ r s long h k (single u us is) none same =
    absurd (shown-quote u (printed_unit u) s (printed_units us ++ (34 ∷ r)) (shown u) (sym same ∙ ap (λ xs. xs ++ (34 ∷ r)) is ∙ append_assoc (printed_unit u) (printed_units us) (34 ∷ r)))
front-by n _ _ r s long h k (double u v us high low is) none same =
    absurd (let c = begins 34 (surrogate_pair_char u v) s (printed_units us ++ (34 ∷ r)) (omega arith) (sym same ∙ ap (λ xs. xs ++ (34 ∷ r)) is ∙ append_assoc (encode_utf8 (surrogate_pair_char u v)) (printed_units us) (34 ∷ r)) in let large = pair-large u v in omega arith)
front-by zero _ _ r s long h k (single u us is) (single w ws was) same = absurd (omega arith)
front-by (suc n) _ _ r s long h k (single u us is) (single w ws was) same =
    let left = ap (λ xs. xs ++ (34 ∷ r)) is ∙ append_assoc (printed_unit u) (printed_units us) (34 ∷ r) in
    let right = ap (λ xs. xs ++ (34 ∷ s)) was ∙ append_assoc (printed_unit w) (printed_units ws) (34 ∷ s) in
    let one = shown-front u w (printed_unit u) (printed_unit w) (printed_units us ++ (34 ∷ r)) (printed_units ws ++ (34 ∷ s)) (h 0) (k 0) (shown u) (shown w) (sym left ∙ same ∙ right) in
    let rest = front-by n us ws r s (omega arith) (λ i. h (suc i)) (λ i. k (suc i)) (first us) (first ws) one.1 in
    (rw (one.0, rest.0) refl, rest.1)
front-by n _ _ r s long h k (single u us is) (double w x ws high low was) same =
    let left = ap (λ xs. xs ++ (34 ∷ r)) is ∙ append_assoc (printed_unit u) (printed_units us) (34 ∷ r) in
    let right = ap (λ xs. xs ++ (34 ∷ s)) was ∙ append_assoc (encode_utf8 (surrogate_pair_char w x)) (printed_units ws) (34 ∷ s) in
    absurd (shown-pair u (surrogate_pair_char w x) (printed_unit u) (printed_units us ++ (34 ∷ r)) (printed_units ws ++ (34 ∷ s)) (h 0) (pair-large w x) (shown u) (sym left ∙ same ∙ right))
front-by n _ _ r s long h k (double u v us high low is) (single w ws was) same =
    let left = ap (λ xs. xs ++ (34 ∷ r)) is ∙ append_assoc (encode_utf8 (surrogate_pair_char u v)) (printed_units us) (34 ∷ r) in
    let right = ap (λ xs. xs ++ (34 ∷ s)) was ∙ append_assoc (printed_unit w) (printed_units ws) (34 ∷ s) in
    absurd (shown-pair w (surrogate_pair_char u v) (printed_unit w) (printed_units ws ++ (34 ∷ s)) (printed_units us ++ (34 ∷ r)) (k 0) (pair-large u v) (shown w) (sym right ∙ sym same ∙ left))
front-by zero _ _ r s long h k (double u v us high low is) (double w x ws high' low' was) same = absurd (omega arith)
front-by (suc n) _ _ r s long h k (double u v us high low is) (double w x ws high' low' was) same =
    let left = ap (λ xs. xs ++ (34 ∷ r)) is ∙ append_assoc (encode_utf8 (surrogate_pair_char u v)) (printed_units us) (34 ∷ r) in
    let right = ap (λ xs. xs ++ (34 ∷ s)) was ∙ append_assoc (encode_utf8 (surrogate_pair_char w x)) (printed_units ws) (34 ∷ s) in
    let one = encode_same (surrogate_pair_char u v) (surrogate_pair_char w x) (printed_units us ++ (34 ∷ r)) (printed_units ws ++ (34 ∷ s)) (sym left ∙ same ∙ right) in
    let pair = pair-same u v w x high low high' low' one.0 in
    let rest = front-by n us ws r s (omega arith) (λ i. h (suc (suc i))) (λ i. k (suc (suc i))) (first us) (first ws) one.1 in
    (rw (pair.0, pair.1, rest.0) refl, rest.1)

pub units-front : (us ws r s : List ℕ) → AreUnits us → AreUnits ws → printed_units us ++ (34 ∷ r) ≡ printed_units ws ++ (34 ∷ s) → (us ≡ ws) × (r ≡ s)
units-front us ws r s h k same = front-by (length us) us ws r s (omega arith) h k (first us) (first ws) same

-- a byte that is no digit
pub digit-no_end : (e d : ℕ) → 16 ≤ digit_value e → d < 16 → digit_char d ≡ e → ⊥
digit-no_end e d ends h is = let f = digit_value-digit_char d (omega arith) in let g = ap digit_value is in omega arith

-- data up to the first byte that is no digit
pub data-front : (e : ℕ) (xs ys r s : List ℕ) → 16 ≤ digit_value e → AreOctets xs → AreOctets ys → flat_map two_digits xs ++ (e ∷ r) ≡ flat_map two_digits ys ++ (e ∷ s) → (xs ≡ ys) × (r ≡ s)
data-front e [] [] r s ends h k same = (refl, tails e e r s same)
data-front e [] (y ∷ ys) r s ends h k same =
    absurd (let b = k 0 in digit-no_end e (y / 16) ends (omega arith) (sym (heads e (digit_char (y / 16)) _ _ same)))
data-front e (x ∷ xs) [] r s ends h k same =
    absurd (let b = h 0 in digit-no_end e (x / 16) ends (omega arith) (heads (digit_char (x / 16)) e _ _ same))
data-front e (x ∷ xs) (y ∷ ys) r s ends h k same =
    let one = two-front x y (flat_map two_digits xs ++ (e ∷ r)) (flat_map two_digits ys ++ (e ∷ s)) (h 0) (k 0) same in
    let rest = data-front e xs ys r s ends (λ i. h (suc i)) (λ i. k (suc i)) one.1 in
    (rw (one.0, rest.0) refl, rest.1)
