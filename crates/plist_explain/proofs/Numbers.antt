-- No word of a number is `refused` or `broken`.
use Rattle.std.proofs.Common.{ap, append-nil, arith, refl, subst, sym, true, false, true≢false, zero, suc, Bool, List, None, [], ◌∷◌, ◌++◌, ◌∙◌, ◌≡◌, ◌<◌, ◌/◌, ◌%◌, ◌==◌, ◌&&◌, ℕ, not}
use Rattle.std.specs.Prelude.{if◌then◌else◌}
use Rattle.std.specs.Char.{is_ascii_whitespace}
use Rattle.std.specs.Fmt.{decimal, digit_glyph, digits, digits_onto}
use Rattle.std.specs.Option.{option_or}
use Rattle.std.proofs.lemmas.Nat.{mod_below}
use Rattle.plist_explain.specs.Topics.{cut, first_of, is_mark, reported, with_word, words}

-- neither white space nor the first letter of a mark
abbrev is_plain : ℕ → Bool
is_plain c = not (is_ascii_whitespace c) && (not (c == 114) && not (c == 98))

abbrev are_plain : List ℕ → Bool
are_plain [] = true
are_plain (c ∷ text) = is_plain c && are_plain text

digit_plain : (d : ℕ) → d < 10 → is_plain (digit_glyph false d) ≡ true
digit_plain (suc (suc (suc (suc (suc (suc (suc (suc (suc (suc d)))))))))) below = absurd (omega (arith, below))
digit_plain _ below = refl

either : (test : Bool) (xs ys : List ℕ) → are_plain xs ≡ true → are_plain ys ≡ true → are_plain (if test then xs else ys) ≡ true
either true xs ys first second = first
either false xs ys first second = second

one_digit : (n : ℕ) (ds : List ℕ) → are_plain ds ≡ true → are_plain (digit_glyph false (n % 10) ∷ ds) ≡ true
one_digit n ds plain = rw (digit_plain (n % 10) (mod_below n 10 (omega arith))) plain

more_digits : (k n : ℕ) (ds : List ℕ) → are_plain ds ≡ true → are_plain (digits_onto k 10 false n ds) ≡ true
more_digits zero n ds plain = plain
more_digits (suc k) n ds plain =
    either (n / 10 == 0) _ _ (one_digit n ds plain)
    (more_digits k (n / 10) (digit_glyph false (n % 10) ∷ ds) (one_digit n ds plain))

number_plain : (n : ℕ) → are_plain (decimal n) ≡ true
unfolding digits
number_plain n = more_digits 64 n [] refl

both : (a b : Bool) → (a && b) ≡ true → (a ≡ true) × (b ≡ true)
both true b e = (refl, e)
both false b e = absurd (true≢false (sym e))

untrue : (a : Bool) → not a ≡ true → a ≡ false
untrue true e = absurd (true≢false (sym e))
untrue false e = refl

cut_plain : (text back : List ℕ) → are_plain text ≡ true → cut (text ++ back) ≡ (text ++ (cut back).0, (cut back).1)
cut_plain [] back plain = refl
cut_plain (c ∷ text) back plain =
    let parts = both _ _ plain in
    let solid = untrue (is_ascii_whitespace c) (both _ _ parts.0).0 in
    rw solid (ap (λ rest. (c ∷ rest.0, rest.1)) (cut_plain text back parts.1))

no_mark : (text : List ℕ) → are_plain text ≡ true → is_mark text ≡ false
no_mark [] plain = refl
no_mark (c ∷ text) plain =
    let letters = both _ _ (both _ _ (both _ _ plain).0).1 in
    rw (untrue (c == 114) letters.0, untrue (c == 98) letters.1) refl

unmarked : (text : List ℕ) (ws : List (List ℕ)) → are_plain text ≡ true → reported ws ≡ None → reported (with_word text ws) ≡ None
unmarked [] ws plain none = none
unmarked (c ∷ text) ws plain none =
    ap (λ r. option_or r (if is_mark (c ∷ text) then first_of ws else None)) none
    ∙ ap (λ mark. if mark then first_of ws else None) (no_mark (c ∷ text) plain)

-- a number that white space or nothing follows
pub quiet_before : (n : ℕ) (back : List ℕ) → (cut back).0 ≡ [] → reported (cut back).1 ≡ None → reported (words (decimal n ++ back)) ≡ None
quiet_before n back ends none =
    ap (λ parts. reported (with_word parts.0 parts.1)) (cut_plain (decimal n) back (number_plain n))
    ∙ ap (λ rest. reported (with_word (decimal n ++ rest) (cut back).1)) ends
    ∙ ap (λ text. reported (with_word text (cut back).1)) (append-nil (decimal n))
    ∙ unmarked (decimal n) (cut back).1 (number_plain n) none

pub quiet_number : (n : ℕ) → reported (words (decimal n)) ≡ None
quiet_number n = subst (λ text. reported (words text) ≡ None) (append-nil (decimal n)) (quiet_before n [] refl refl)
