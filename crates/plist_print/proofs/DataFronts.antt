-- Lines of data are determined by the start of the text.
use Rattle.std.proofs.Common.{◌≡◌, ℕ, zero, suc, ◌+◌, ◌/◌, ◌<◌, List, [], ◌∷◌, ◌++◌, length, take, drop, refl, sym, ap, ◌∙◌, arith, length-drop}
use Rattle.std.specs.Prelude.{flat_map}
use Rattle.std.proofs.lemmas.List.{append_cancel_left, take-append-drop}
use Rattle.plist_value.specs.Plist.{AreOctets}
use Rattle.plist_value.specs.Digits.{two_digits}
use Rattle.plist_print.specs.Printed.{indent, octet_lines}
use Rattle.plist_print.proofs.Endings.{regrouped, ending, endings-front, ending-no_row}
use Rattle.plist_print.proofs.DataLines.{data_lines, lines-joined}
use Rattle.plist_print.proofs.UnitFronts.{data-front, digit-no_end}

octet_at : (x n : ℕ) (xs : List ℕ) → x < 256 → AreOctets (take n xs) → AreOctets (x ∷ take n xs)
octet_at x n xs below h zero = below
octet_at x n xs below h (suc i) = h i

taken : (n : ℕ) (xs : List ℕ) → AreOctets xs → AreOctets (take n xs)
taken zero xs h = λ i. omega arith
taken (suc n) [] h = h
taken (suc n) (x ∷ xs) h = octet_at x n xs (h 0) (taken n xs (λ k. h (suc k)))

dropped : (n : ℕ) (xs : List ℕ) → AreOctets xs → AreOctets (drop n xs)
dropped (suc n) (x ∷ xs) h = dropped n xs (λ i. h (suc i))
dropped _ _ h = h

-- the rest of the lines
less : (n : ℕ) (xs : List ℕ) → suc n ≡ (length xs + 31) / 32 → n ≡ (length (drop 32 xs) + 31) / 32
less n xs e = let left = length-drop 32 xs in omega (arith, e, left)

front-by : (level n m : ℕ) (xs ys r s : List ℕ) → n ≡ (length xs + 31) / 32 → m ≡ (length ys + 31) / 32 → AreOctets xs → AreOctets ys
    → data_lines (indent (suc level)) n xs ++ ending level 62 r ≡ data_lines (indent (suc level)) m ys ++ ending level 62 s → (xs ≡ ys) × (r ≡ s)
front-by level zero zero [] [] r s p q h k same = (refl, endings-front level 62 r s same)
front-by level n zero xs (y ∷ ys) r s p q h k same = absurd (omega (arith, q))
front-by level n (suc m) xs [] r s p q h k same = absurd (omega (arith, q))
front-by level zero (suc m) [] (y ∷ ys) r s p q h k same =
    absurd (ending-no_row level 62 r _ (ending level 62 s) (λ e. omega arith) (λ e. let b = k 0 in digit-no_end 62 (y / 16) (omega arith) (omega arith) (sym e)) same)
front-by level (suc n) zero (x ∷ xs) [] r s p q h k same =
    absurd (ending-no_row level 62 s _ (ending level 62 r) (λ e. omega arith) (λ e. let b = h 0 in digit-no_end 62 (x / 16) (omega arith) (omega arith) (sym e)) (sym same))
front-by level (suc n) (suc m) (x ∷ xs) (y ∷ ys) r s p q h k same =
    let left = flat_map two_digits (take 32 (x ∷ xs)) in
    let right = flat_map two_digits (take 32 (y ∷ ys)) in
    let after = data_lines (indent (suc level)) n (drop 32 (x ∷ xs)) in
    let behind = data_lines (indent (suc level)) m (drop 32 (y ∷ ys)) in
    let whole = sym (regrouped (indent (suc level)) left (10 ∷ after) (ending level 62 r)) ∙ same ∙ regrouped (indent (suc level)) right (10 ∷ behind) (ending level 62 s) in
    let line = append_cancel_left (indent (suc level)) (left ++ (10 ∷ (after ++ ending level 62 r))) (right ++ (10 ∷ (behind ++ ending level 62 s))) whole in
    let first = data-front 10 (take 32 (x ∷ xs)) (take 32 (y ∷ ys)) (after ++ ending level 62 r) (behind ++ ending level 62 s) (omega arith) (taken 32 (x ∷ xs) h) (taken 32 (y ∷ ys) k) line in
    let rest = front-by level n m (drop 32 (x ∷ xs)) (drop 32 (y ∷ ys)) r s (less n (x ∷ xs) p) (less m (y ∷ ys) q) (dropped 32 (x ∷ xs) h) (dropped 32 (y ∷ ys) k) first.1 in
    (sym (take-append-drop 32 (x ∷ xs)) ∙ ap (λ t. t ++ drop 32 (x ∷ xs)) first.0 ∙ ap (λ t. take 32 (y ∷ ys) ++ t) rest.0 ∙ take-append-drop 32 (y ∷ ys), rest.1)
front-by level _ m _ ys r s p q h k same = absurd (omega (arith, p))

pub lines-front : (level : ℕ) (xs ys r s : List ℕ) → AreOctets xs → AreOctets ys
    → octet_lines (indent (suc level)) xs ++ ending level 62 r ≡ octet_lines (indent (suc level)) ys ++ ending level 62 s → (xs ≡ ys) × (r ≡ s)
lines-front level xs ys r s h k same =
    let left = lines-joined (indent (suc level)) ((length xs + 31) / 32) xs in
    let right = lines-joined (indent (suc level)) ((length ys + 31) / 32) ys in
    front-by level ((length xs + 31) / 32) ((length ys + 31) / 32) xs ys r s refl refl h k (sym (ap (λ t. t ++ ending level 62 r) left) ∙ same ∙ ap (λ t. t ++ ending level 62 s) right)
