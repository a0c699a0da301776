-- A written text is ASCII, so its bytes are its characters. It does not begin like a binary file,
-- and it is a text of its value.
use Rattle.std.proofs.Common.{◌≡◌, ℕ, ◌<◌, Bool, true, false, List, [], ◌∷◌, ◌++◌, refl, sym, subst, ◌&&◌, arith, ◌/◌, ◌%◌, ◌≤◌, not, ◌||◌, ap, ◌∙◌, if◌then◌else◌, suc, lit≤, Some, None, length-append}
use Rattle.std.proofs.lemmas.Bool.{and_parts, cond_both, not-true, or_parts}
use Rattle.std.proofs.lemmas.Bool.Decides.{nat_tests}
use Rattle.std.specs.Char.{is_ascii_alphanumeric, digit_char}
use Rattle.std.specs.Prelude.{◌==◌, codes, flat_map, nat_eq, nat_lt}
use Rattle.std.specs.Int.{is_in_range}
use Rattle.std.specs.List.{starts_with}
use Rattle.std.specs.Str.{all_scalars}
use Rattle.std.proofs.lemmas.Str.{encode_ascii}
use lib.Utf8.{scalar as is_scalar}
use Rattle.plist_value.specs.Writable.{is_writable}
use Rattle.plist_value.specs.Escapes.{quoted_unit}
use Rattle.ostep_text.specs.Written.{are_alphanumeric, is_unquoted, is_empty, written_text, written, written_items, written_pairs}
use Rattle.plist_value.specs.Digits.{two_digits}
use Rattle.plist_value.specs.Plist.{Scalar, text, bytes, Plist, scalar, list, table, Items, no_items, item, Pairs, no_pairs, pair, AreUnits, AreOctets, AreItems, ArePairs, IsPlist}
use Rattle.ostep_lex.specs.Encoding.{Spells, utf8, octets_of, encoding_of, mark_of, offsets_of}
use Rattle.plist_value.specs.Limits.{Fits}
use Rattle.ostep_lex.specs.Gap
use Rattle.ostep_lex.specs.Lexing.{none}
use Rattle.ostep_text.specs.Phrase.{TopPhrase, a_value}
use Rattle.ostep_text.specs.Laws.{IsShortText, WrittenIsText}
use Rattle.ostep_text.proofs.Places.{is-text}
use Rattle.ostep_text.proofs.WrittenLexing.{value-phrase, value-short, Lexed, value-lexed}

-- characters that UTF-8 encodes in one byte
abbrev pub are_ascii : List ℕ → Bool
are_ascii [] = true
are_ascii (c ∷ cs) = nat_lt c 128 && are_ascii cs

append-ascii : (xs ys : List ℕ) → are_ascii xs ≡ true → are_ascii ys ≡ true → are_ascii (xs ++ ys) ≡ true
append-ascii [] ys h k = k
append-ascii (x ∷ xs) ys h k = let w = and_parts (nat_lt x 128) (are_ascii xs) h in rw w.0 (append-ascii xs ys w.1 k)

alphanumeric-ascii : (unit : ℕ) → is_ascii_alphanumeric unit ≡ true → nat_lt unit 128 ≡ true
alphanumeric-ascii unit e = grind (arith, nat_tests)

alphanumerics-ascii : (units : List ℕ) → are_alphanumeric units ≡ true → are_ascii units ≡ true
alphanumerics-ascii [] e = refl
alphanumerics-ascii (unit ∷ units) e =
    let w = and_parts (is_ascii_alphanumeric unit) (are_alphanumeric units) e in
    rw (alphanumeric-ascii unit w.0) (alphanumerics-ascii units w.1)

unquoted-ascii : (units : List ℕ) → is_unquoted units ≡ true → are_ascii units ≡ true
unquoted-ascii units e = alphanumerics-ascii units (and_parts _ _ (and_parts _ _ e).0).1

digit-ascii : (d : ℕ) → d < 16 → nat_lt (digit_char d) 128 ≡ true
digit-ascii d h = grind (arith, nat_tests)

two-ascii : (x : ℕ) → x < 256 → are_ascii (two_digits x) ≡ true
two-ascii x h = rw (digit-ascii (x / 16) (omega (arith, h)), digit-ascii (x % 16) (omega (arith, h))) refl

printable-ascii : (c : ℕ) → is_in_range 0x20 0x7e c ≡ true → are_ascii (c ∷ []) ≡ true
printable-ascii c h = let l : nat_lt c 128 ≡ true = grind (arith, nat_tests) in rw l refl

unit-ascii : (unit : ℕ) → unit < 65536 → are_ascii (quoted_unit unit) ≡ true
unit-ascii unit h =
    let P : List ℕ → Type 0 = λ os. are_ascii os ≡ true in
    cond_both (unit == 34) _ _ P (λ e. refl) (λ e. cond_both (unit == 92) _ _ P (λ e. refl) (λ e. cond_both (unit == 10) _ _ P (λ e. refl) (λ e.
    cond_both (unit == 9) _ _ P (λ e. refl) (λ e. cond_both (unit == 13) _ _ P (λ e. refl) (λ e. cond_both (is_in_range 0x20 0x7e unit) _ _ P (λ e. printable-ascii unit e)
    (λ e. append-ascii (92 ∷ 85 ∷ two_digits (unit / 256)) (two_digits (unit % 256)) (two-ascii (unit / 256) (omega (arith, h))) (two-ascii (unit % 256) (omega (arith, h)))))))))

units-ascii : (units : List ℕ) → AreUnits units → are_ascii (flat_map quoted_unit units) ≡ true
units-ascii [] h = refl
units-ascii (unit ∷ units) h = append-ascii (quoted_unit unit) (flat_map quoted_unit units) (unit-ascii unit (h 0)) (units-ascii units (λ i. h (suc i)))

text-ascii : (units : List ℕ) → AreUnits units → are_ascii (written_text units) ≡ true
text-ascii units h =
    cond_both (is_unquoted units) _ _ (λ os. are_ascii os ≡ true) (unquoted-ascii units) (λ e. append-ascii (flat_map quoted_unit units) (34 ∷ []) (units-ascii units h) refl)

octets-ascii : (xs : List ℕ) → AreOctets xs → are_ascii (flat_map two_digits xs) ≡ true
octets-ascii [] h = refl
octets-ascii (x ∷ xs) h = append-ascii (two_digits x) (flat_map two_digits xs) (two-ascii x (h 0)) (octets-ascii xs (λ i. h (suc i)))

scalar-ascii : (s : Scalar) → IsPlist (scalar s) → are_ascii (written (scalar s)) ≡ true
scalar-ascii (text units) h = text-ascii units h
scalar-ascii (bytes xs) h = append-ascii (flat_map two_digits xs) (62 ∷ []) (octets-ascii xs h) refl
scalar-ascii _ h = refl

mutual
  pub value-ascii : (v : Plist) → IsPlist v → are_ascii (written v) ≡ true
  value-ascii (scalar s) h = scalar-ascii s h
  value-ascii (list vs) h = append-ascii (written_items vs) (41 ∷ []) (items-ascii vs h) refl
  value-ascii (table ps) h = append-ascii (written_pairs ps) (125 ∷ []) (pairs-ascii ps h) refl

  items-ascii : (vs : Items) → AreItems vs → are_ascii (written_items vs) ≡ true
  items-ascii no_items h = refl
  items-ascii (item v vs) h = append-ascii (written v ++ codes ",\n") (written_items vs) (append-ascii (written v) (codes ",\n") (value-ascii v h.0) refl) (items-ascii vs h.1)

  pairs-ascii : (ps : Pairs) → ArePairs ps → are_ascii (written_pairs ps) ≡ true
  pairs-ascii no_pairs h = refl
  pairs-ascii (pair key v ps) h =
      append-ascii (((written_text key ++ codes " = ") ++ written v) ++ codes ";\n") (written_pairs ps)
      (append-ascii ((written_text key ++ codes " = ") ++ written v) (codes ";\n")
      (append-ascii (written_text key ++ codes " = ") (written v) (append-ascii (written_text key) (codes " = ") (text-ascii key h.0) refl) (value-ascii v h.1)) refl)
      (pairs-ascii ps h.3)

-- the bytes of ASCII characters are the characters
below : (c : ℕ) → nat_lt c 128 ≡ true → c < 128
below c e = grind (arith, nat_tests)

spelled : (xs : List ℕ) → are_ascii xs ≡ true → octets_of utf8 xs ≡ xs
spelled [] h = refl
spelled (x ∷ xs) h = let w = and_parts (nat_lt x 128) (are_ascii xs) h in rw (encode_ascii x (below x w.0), spelled xs w.1) refl

scalar-ascii-code : (c : ℕ) → nat_lt c 128 ≡ true → is_scalar c ≡ true
scalar-ascii-code c h = grind (arith, nat_tests)

scalars : (xs : List ℕ) → are_ascii xs ≡ true → all_scalars xs ≡ true
scalars [] h = refl
scalars (x ∷ xs) h = let w = and_parts (nat_lt x 128) (are_ascii xs) h in rw (scalar-ascii-code x w.0) (scalars xs w.1)

no-mark : (m c : ℕ) → c < 128 → 128 ≤ m → nat_eq m c ≡ false
no-mark m c h k = grind (arith, nat_tests)

encoding-ascii : (xs : List ℕ) → are_ascii xs ≡ true → (encoding_of xs ≡ utf8) × (mark_of xs ≡ [])
encoding-ascii [] h = (refl, refl)
encoding-ascii (x ∷ xs) h =
    let b = below x (and_parts (nat_lt x 128) (are_ascii xs) h).0 in
    (rw (no-mark 0xfe x b (lit≤ tt), no-mark 0xff x b (lit≤ tt)) refl, rw (no-mark 0xfe x b (lit≤ tt), no-mark 0xff x b (lit≤ tt), no-mark 0xef x b (lit≤ tt)) refl)

pub ascii-spells : (xs : List ℕ) → are_ascii xs ≡ true → Spells xs xs
ascii-spells xs h =
    let e = encoding-ascii xs h in
    record { scalars = scalars xs h; spelled = rw (e.0, e.1) (sym (spelled xs h)) }

pub newline-ascii : (v : Plist) → IsPlist v → are_ascii (written v ++ codes "\n") ≡ true
newline-ascii v h = append-ascii (written v) (codes "\n") (value-ascii v h) refl

-- a newline after an unquoted string does not make it begin like a binary file
abbrev has_newline : List ℕ → Bool
has_newline [] = false
has_newline (c ∷ rest) = (c == 10) || has_newline rest

newline-after : (needle xs : List ℕ) → has_newline needle ≡ false → starts_with nat_eq (xs ++ 10 ∷ []) needle ≡ starts_with nat_eq xs needle
newline-after [] xs h = refl
newline-after (n ∷ needle) [] h = rw (or_parts (n == 10) (has_newline needle) h).0 refl
newline-after (n ∷ needle) (x ∷ xs) h = ap (λ b. nat_eq n x && b) (newline-after needle xs (or_parts (n == 10) (has_newline needle) h).1)

unquoted-binary : (units : List ℕ) → is_unquoted units ≡ true → starts_with nat_eq (units ++ 10 ∷ []) (codes "bplist") ≡ false
unquoted-binary units e =
    newline-after (codes "bplist") units refl
    ∙ not-true (starts_with nat_eq units (codes "bplist")) (and_parts (not (is_empty units) && are_alphanumeric units) (not (starts_with nat_eq units (codes "bplist"))) e).1

pub not-binary : (v : Plist) → starts_with nat_eq (written v ++ codes "\n") (codes "bplist") ≡ false
not-binary (scalar (text units)) =
    cond_both (is_unquoted units) _ _ (λ os. starts_with nat_eq (os ++ 10 ∷ []) (codes "bplist") ≡ false) (unquoted-binary units) (λ e. refl)
not-binary _ = refl

stated : (b : Bool) (xs octets : List ℕ) → (if b then Some xs else None) ≡ Some octets → (b ≡ true) × (xs ≡ octets)
stated true xs octets e = (refl, cc e)
stated false xs octets e = cc e

short-text : (v : Plist) → IsPlist v → Fits v → is_writable v ≡ true → IsShortText (written v ++ codes "\n") v
short-text v valid fits w =
    let octets : List ℕ = written v ++ codes "\n" in
    let d : Lexed (offsets_of octets) octets _ = value-lexed (offsets_of octets) v (10 ∷ []) [] valid w refl (record { tokens = []; lexes = none (Gap.piece (Gap.white refl) Gap.none); are = refl }) in
    record {
      is_text = is-text v d.tokens (record { text = octets; spells = ascii-spells octets (newline-ascii v valid); lexes = d.lexes })
          (subst (λ ls. TopPhrase ls v) (sym d.are) (a_value (value-phrase v [] valid w))) valid fits;
      not_binary = not-binary v;
      short = rw length-append (omega (arith, value-short v w));
    }

pub written_is_text : WrittenIsText
written_is_text v octets valid fits e =
    let s = stated (is_writable v) (written v ++ codes "\n") octets e in
    subst (λ o. IsShortText o v) s.1 (short-text v valid fits s.0)
