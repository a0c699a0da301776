-- The words of a text, by its parts.
use Rattle.std.proofs.Common.{ap, append-nil, arith, inl, inr, refl, suc, sym, true, false, Bool, List, None, Option, Some, [], ◌∷◌, ◌++◌, ◌∙◌, ◌≡◌, ◌<◌, ◌≤◌, ℕ, get_or, length}
use Rattle.std.specs.Prelude.{if◌then◌else◌, unwrap_or}
use Rattle.std.specs.Borrow.{Bor}
use Rattle.std.specs.Char.{is_ascii_whitespace}
use Rattle.std.specs.List.{AllPass}
use Rattle.std.specs.Option.{option_or}
use Rattle.std.specs.Str.{NoCharPasses}
use Rattle.std.specs.Str.Iter.{CutsAsciiWord, IsAsciiSeparator}
use Rattle.std.proofs.lemmas.Bool.{cases_lt}
use Rattle.std.proofs.lemmas.Str.{NoCharPasses-byte}
use Rattle.plist_explain.specs.Topics.{cut, first_of, is_mark, reported, with_word, words}

with_more : (word : List ℕ) (ws vs : List (List ℕ)) → with_word word (ws ++ vs) ≡ with_word word ws ++ vs
with_more [] ws vs = refl
with_more (c ∷ word) ws vs = refl

abbrev Parts : Type 0
Parts = List ℕ × List (List ℕ)

abbrev cut_at : Bool → ℕ → Parts → Parts
cut_at test d rest = if test then ([], with_word rest.0 rest.1) else (d ∷ rest.0, rest.1)

more_after : (test : Bool) (d : ℕ) (rest : Parts) (vs : List (List ℕ))
    → cut_at test d (rest.0, rest.1 ++ vs) ≡ ((cut_at test d rest).0, (cut_at test d rest).1 ++ vs)
more_after true d rest vs = ap (λ ws. ([], ws)) (with_more rest.0 rest.1 vs)
more_after false d rest vs = refl

cut_before : (front : List ℕ) (c : ℕ) (back : List ℕ) → is_ascii_whitespace c ≡ true
    → cut (front ++ (c ∷ back)) ≡ ((cut front).0, (cut front).1 ++ words back)
cut_before [] c back blank = rw blank refl
cut_before (d ∷ front) c back blank =
    ap (cut_at (is_ascii_whitespace d) d) (cut_before front c back blank)
    ∙ more_after (is_ascii_whitespace d) d (cut front) (words back)

-- white space separates what is before it from what is after it
pub words_before : (front : List ℕ) (c : ℕ) (back : List ℕ) → is_ascii_whitespace c ≡ true
    → words (front ++ (c ∷ back)) ≡ words front ++ words back
words_before front c back blank =
    ap (λ parts. with_word parts.0 parts.1) (cut_before front c back blank)
    ∙ with_more (cut front).0 (cut front).1 (words back)

-- white space in front of a text is skipped
pub words_behind : (gap rest : List ℕ) → AllPass is_ascii_whitespace gap → words (gap ++ rest) ≡ words rest
words_behind [] rest blank = refl
words_behind (c ∷ gap) rest blank =
    let first : is_ascii_whitespace c ≡ true = blank 0 0 (omega arith) in
    rw first (words_behind gap rest (λ k d l. blank (suc k) d (omega arith)))

-- no byte is white space
abbrev pub IsSolid : List ℕ → Type 0
IsSolid word = (k : ℕ) → k < length word → is_ascii_whitespace (get_or word k 0) ≡ false

pub cut_solid : (word rest : List ℕ) → IsSolid word → cut (word ++ rest) ≡ (word ++ (cut rest).0, (cut rest).1)
cut_solid [] rest solid = refl
cut_solid (c ∷ word) rest solid =
    let first : is_ascii_whitespace c ≡ false = solid 0 (omega arith) in
    rw first (ap (λ parts. (c ∷ parts.0, parts.1)) (cut_solid word rest (λ k l. solid (suc k) (omega arith))))

-- the text begins with the word
pub word_first : (word sep rest : List ℕ) → 0 < length word → IsSolid word → IsAsciiSeparator sep rest
    → words (word ++ (sep ++ rest)) ≡ word ∷ words rest
word_first [] sep rest some solid parted = absurd (omega arith)
word_first (c ∷ word) [] [] some solid parted =
    ap (λ parts. with_word parts.0 parts.1) (cut_solid (c ∷ word) [] solid)
    ∙ ap (λ text. text ∷ []) (append-nil (c ∷ word))
word_first (c ∷ word) [] (d ∷ rest) some solid parted =
    let none : length (d ∷ rest) ≡ 0 = parted.2 refl in
    absurd (omega arith)
word_first (c ∷ word) (d ∷ []) rest some solid parted =
    let blank : is_ascii_whitespace d ≡ true = parted.0 0 0 (omega arith) in
    let after : cut (d ∷ rest) ≡ ([], words rest) = rw blank refl in
    ap (λ parts. with_word parts.0 parts.1) (cut_solid (c ∷ word) (d ∷ rest) solid)
    ∙ ap (λ parts. with_word ((c ∷ word) ++ parts.0) parts.1) after
    ∙ ap (λ text. text ∷ words rest) (append-nil (c ∷ word))
word_first (c ∷ word) (d ∷ e ∷ sep) rest some solid parted =
    let few = parted.1 in
    absurd (omega arith)

-- no byte above the ASCII ones is white space
above : (b : ℕ) → 128 ≤ b → is_ascii_whitespace b ≡ false
above b high = grind arith

solid : (word : List ℕ) → NoCharPasses is_ascii_whitespace word → IsSolid word
solid word none k l = elim (cases_lt (get_or word k 0) 128) [
  | inl low ↦ NoCharPasses-byte is_ascii_whitespace word k none l low
  | inr high ↦ above (get_or word k 0) high
]

-- the first step over the words of a text
pub words_on : (text : List ℕ) (word : Bor (List ℕ)) (later : List ℕ)
    → CutsAsciiWord text (Some word) later (λ gap x sep. gap ++ (x ++ (sep ++ later)))
    → words text ≡ word.now ∷ words later
words_on text word later step =
    let parts = step.3 in
    ap words parts.2
    ∙ words_behind parts.0 (word.now ++ (parts.1 ++ later)) parts.3
    ∙ word_first word.now parts.1 later step.0 (solid word.now step.1) parts.4

-- nothing is left
pub no_words : (text : List ℕ) → AllPass is_ascii_whitespace text → words text ≡ []
no_words text blank = ap words (sym (append-nil text)) ∙ words_behind text [] blank

-- what the loop returns if these words are left
abbrev pub left : List ℕ → Bool → List (List ℕ) → List ℕ
left named is_next ws = unwrap_or (option_or (reported ws) (if is_next then first_of ws else None)) named

chosen : (later after : Option (List ℕ)) (is_next : Bool) (word named : List ℕ)
    → unwrap_or (option_or (option_or later after) (if is_next then Some word else None)) named
    ≡ unwrap_or (option_or later after) (if is_next then word else named)
chosen None None true word named = refl
chosen None None false word named = refl
chosen None (Some w) is_next word named = refl
chosen (Some w) after is_next word named = refl

-- one word on
pub left_on : (named : List ℕ) (is_next : Bool) (word : List ℕ) (ws : List (List ℕ))
    → left named is_next (word ∷ ws) ≡ left (if is_next then word else named) (is_mark word) ws
left_on named is_next word ws = chosen (reported ws) (if is_mark word then first_of ws else None) is_next word named

-- no word is left
pub left_none : (named : List ℕ) (is_next : Bool) → left named is_next [] ≡ named
left_none named true = refl
left_none named false = refl
