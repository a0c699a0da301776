-- The common start of two equal lists.
use Rattle.std.proofs.Common.{◌≡◌, ℕ, ◌<◌, ◌≤◌, false, cond, ◌||◌, List, [], ◌∷◌, ◌++◌, refl, sym, ap, subst, arith}
use Rattle.std.specs.Prelude.{◌==◌}
use Rattle.std.specs.Char.{digit_value}
use Rattle.std.specs.Str.Parse.{AllDigits}
use Rattle.plist_print.proofs.Compared.{is-denied}

abbrev pub head_of : List ℕ → ℕ
head_of [] = 0
head_of (x ∷ xs) = x

abbrev pub tail_of : List ℕ → List ℕ
tail_of [] = []
tail_of (x ∷ xs) = xs

pub heads : (x y : ℕ) (xs ys : List ℕ) → x ∷ xs ≡ y ∷ ys → x ≡ y
heads x y xs ys e = ap head_of e

pub tails : (x y : ℕ) (xs ys : List ℕ) → x ∷ xs ≡ y ∷ ys → xs ≡ ys
tails x y xs ys e = ap tail_of e

-- c is no decimal digit
abbrev pub EndsDigits : ℕ → Type 0
EndsDigits c = 10 ≤ digit_value c

unlike : (c d : ℕ) → EndsDigits c → digit_value d < 10 → c ≡ d → ⊥
unlike c d ends digit same = let at_d : EndsDigits d = subst EndsDigits same ends in omega arith

-- digits up to the first that is none
pub digits-front : (ds es : List ℕ) (c d : ℕ) (r s : List ℕ) → AllDigits 10 ds → AllDigits 10 es → EndsDigits c → EndsDigits d
    → ds ++ (c ∷ r) ≡ es ++ (d ∷ s) → (ds ≡ es) × (c ∷ r ≡ d ∷ s)
digits-front [] [] c d r s p q h k e = (refl, e)
digits-front [] (y ∷ es) c d r s p q h k e = absurd (unlike c y h q.0 (heads c y r (es ++ (d ∷ s)) e))
digits-front (x ∷ ds) [] c d r s p q h k e = absurd (unlike d x k p.0 (sym (heads x d (ds ++ (c ∷ r)) s e)))
digits-front (x ∷ ds) (y ∷ es) c d r s p q h k e =
    let first = heads x y (ds ++ (c ∷ r)) (es ++ (d ∷ s)) e in
    let rest = digits-front ds es c d r s p.1 q.1 h k (tails x y (ds ++ (c ∷ r)) (es ++ (d ∷ s)) e) in
    (rw (first, rest.0) refl, rest.1)

-- the kind of the value that begins with this byte; 1 is a number, 7 none
abbrev pub kind_of_head : ℕ → ℕ
kind_of_head h =
    cond (h == 93) 7 (cond (h == 34) 0 (cond (h == 116 || h == 102) 2 (cond (h == 100) 3 (cond (h == 60) 4 (cond (h == 91) 5 (cond (h == 123) 6 1))))))

no-digit : (d c : ℕ) → digit_value d < 10 → EndsDigits c → (d == c) ≡ false
no-digit d c h ends = is-denied d c (λ same. unlike c d ends h (sym same))

digit-kind : (d : ℕ) → digit_value d < 10 → kind_of_head d ≡ 1
digit-kind d h =
    rw (no-digit d 93 h (omega arith), no-digit d 34 h (omega arith), no-digit d 116 h (omega arith), no-digit d 102 h (omega arith), no-digit d 100 h (omega arith), no-digit d 60 h (omega arith), no-digit d 91 h (omega arith), no-digit d 123 h (omega arith)) refl

-- digits, and what ends them, begin a number
pub digits-kind : (ds : List ℕ) (c : ℕ) (x : List ℕ) → AllDigits 10 ds → kind_of_head c ≡ 1 → kind_of_head (head_of (ds ++ (c ∷ x))) ≡ 1
digits-kind [] c x p h = h
digits-kind (d ∷ ds) c x p h = digit-kind d p.0
