-- The tokens of a written text are those of its value.
use Rattle.std.proofs.Common.{◌≡◌, ℕ, ◌+◌, ◌*◌, ◌≤◌, true, false, List, [], ◌∷◌, ◌++◌, length, refl, arith, length-append, lit≤, ◌/◌, ◌%◌, ◌<◌, sym, ap, subst, ◌∙◌, suc, append_assoc, not, Some}
use Rattle.std.specs.Prelude.{◌==◌, codes, flat_map, nat_eq}
use Rattle.std.specs.Int.{is_in_range}
use Rattle.std.specs.Char.{digit_char, digit_value, is_digit, is_ascii_alphanumeric}
use Rattle.std.specs.Char.Escape.{encode_utf16}
use Rattle.std.proofs.lemmas.Bool.{and_parts, cond_both}
use Rattle.std.proofs.lemmas.Bool.Decides.{nat_tests}
use Rattle.std.proofs.lemmas.Str.{digit_value-digit_char}
use Rattle.std.specs.List.{starts_with}
use Rattle.plist_value.specs.Plist.{Scalar, text, whole, flag, real4, real8, moment, bytes, Plist, scalar, list, table, Items, no_items, item, Pairs, no_pairs, pair, AreItems, ArePairs, IsPlist, AreUnits, AreOctets}
use Rattle.plist_value.specs.Limits.{nodes, nodes_of_items, nodes_of_pairs, payload, payload_of_items, payload_of_pairs}
use Rattle.ostep_lex.specs.Lexeme.{Lexeme, brace_open, brace_close, paren_open, paren_close, comma, semicolon, equals, text as string, octets as data_token, IsToken, Located, mark_token}
use Rattle.ostep_text.specs.Phrase.{Phrase, a_string, some_data, a_list, a_table, ItemsPhrase, items_end, an_item, RowsPhrase, with_value, rows_end, a_row}
use Rattle.plist_value.specs.Writable.{is_writable, are_writable_items, are_writable_pairs}
use Rattle.plist_value.specs.Escapes.{quoted_unit}
use Rattle.ostep_text.specs.Written.{written_data, is_unquoted, written_text, written, written_items, written_pairs, are_alphanumeric}
use Rattle.plist_value.specs.Digits.{two_digits}
use Rattle.ostep_lex.specs.Character.{is_run, is_white}
use Rattle.ostep_lex.specs.Digits.{Number, begins_digit, number_from}
use Rattle.ostep_lex.specs.Quoted
use Rattle.ostep_lex.specs.Quoted.{Piece, Quoted, escaped, is_raw, Run, begins_run}
use Rattle.ostep_lex.specs.Octets
use Rattle.ostep_lex.specs.Octets.{Octets, OctetsPiece}
use Rattle.ostep_lex.specs.Encoding.{Offsets, offset}
use Rattle.ostep_lex.specs.Gap
use Rattle.ostep_lex.specs.Gap.{begins_comment}
use Rattle.ostep_lex.specs.Lexeme
use Rattle.ostep_lex.specs.Lexing.{Lexes, none, next}
use Rattle.ostep_lex.proofs.LexerSteps.{no_comment}
use Rattle.ostep_text.specs.Text.{lexemes}
use Rattle.ostep_text.proofs.SortedLemmas.{low_key}
use Rattle.ostep_text.proofs.SortingSteps.{as-they-are, pairs-ascend}

-- the tokens of a written value, followed by the others
abbrev pub scalar_tokens : Scalar → List Lexeme → List Lexeme
scalar_tokens (text units) rest = string units ∷ rest
scalar_tokens (bytes xs) rest = data_token xs ∷ rest
scalar_tokens _ rest = rest

abbrev mutual
  pub value_tokens : Plist → List Lexeme → List Lexeme
  value_tokens (scalar s) rest = scalar_tokens s rest
  value_tokens (list vs) rest = paren_open ∷ item_tokens vs (paren_close ∷ rest)
  value_tokens (table ps) rest = brace_open ∷ pair_tokens ps (brace_close ∷ rest)

  pub item_tokens : Items → List Lexeme → List Lexeme
  item_tokens no_items rest = rest
  item_tokens (item v vs) rest = value_tokens v (comma ∷ item_tokens vs rest)

  pub pair_tokens : Pairs → List Lexeme → List Lexeme
  pair_tokens no_pairs rest = rest
  pair_tokens (pair key v ps) rest = string key ∷ equals ∷ value_tokens v (semicolon ∷ pair_tokens ps rest)

scalar-phrase : (s : Scalar) (rest : List Lexeme) → is_writable (scalar s) ≡ true → Phrase (scalar_tokens s rest) (scalar s) rest
scalar-phrase (text units) rest e = a_string
scalar-phrase (bytes xs) rest e = some_data
scalar-phrase _ rest e = cc e

mutual
  pub value-phrase : (v : Plist) (rest : List Lexeme) → IsPlist v → is_writable v ≡ true → Phrase (value_tokens v rest) v rest
  value-phrase (scalar s) rest h e = scalar-phrase s rest e
  value-phrase (list vs) rest h e = a_list (items-phrase vs rest h e)
  value-phrase (table ps) rest h e = a_table (rows-phrase ps (brace_close ∷ rest) h e) (record { same = as-they-are ps; ascending = pairs-ascend ps h })

  items-phrase : (vs : Items) (rest : List Lexeme) → AreItems vs → are_writable_items vs ≡ true → ItemsPhrase (item_tokens vs (paren_close ∷ rest)) vs (paren_close ∷ rest)
  items-phrase no_items rest h e = items_end
  items-phrase (item v vs) rest h e =
      let w = and_parts (is_writable v) (are_writable_items vs) e in
      an_item (value-phrase v _ h.0 w.0) (items-phrase vs rest h.1 w.1)

  rows-phrase : (ps : Pairs) (rest : List Lexeme) → ArePairs ps → are_writable_pairs ps ≡ true → RowsPhrase (pair_tokens ps rest) ps rest
  rows-phrase no_pairs rest h e = rows_end
  rows-phrase (pair key v ps) rest h e =
      let w = and_parts (is_writable v) (are_writable_pairs ps) e in
      a_row (with_value (value-phrase v _ h.1 w.0)) (rows-phrase ps rest h.3 w.1) (low_key key ps h.2 (pairs-ascend ps h.3))

-- at most six bytes for a unit, and two quotes
unit-short : (unit : ℕ) → length (quoted_unit unit) ≤ 6
unit-short unit =
    let P : List ℕ → Type 0 = λ os. length os ≤ 6 in
    cond_both (unit == 34) _ _ P (λ _. lit≤ tt) (λ _. cond_both (unit == 92) _ _ P (λ _. lit≤ tt) (λ _. cond_both (unit == 10) _ _ P (λ _. lit≤ tt) (λ _.
    cond_both (unit == 9) _ _ P (λ _. lit≤ tt) (λ _. cond_both (unit == 13) _ _ P (λ _. lit≤ tt) (λ _. cond_both (is_in_range 0x20 0x7e unit) _ _ P (λ _. lit≤ tt) (λ _. lit≤ tt))))))

units-short : (units : List ℕ) → length (flat_map quoted_unit units) ≤ 6 * length units
units-short [] = omega arith
units-short (unit ∷ units) = rw length-append (omega (arith, unit-short unit, units-short units))

quotes-short : (xs : List ℕ) (most : ℕ) → length xs ≤ most → length (codes "\"" ++ xs ++ codes "\"") ≤ most + 2
quotes-short xs most h = simp length-append (omega (arith, h))

text-short : (units : List ℕ) → length (written_text units) ≤ 6 * length units + 2
text-short units =
    cond_both (is_unquoted units) _ _ (λ os. length os ≤ 6 * length units + 2) (λ _. omega arith) (λ _. quotes-short (flat_map quoted_unit units) (6 * length units) (units-short units))

digits-long : (xs : List ℕ) → length (flat_map two_digits xs) ≡ 2 * length xs
digits-long [] = refl
digits-long (x ∷ xs) = omega (arith, digits-long xs)

data-long : (xs : List ℕ) → length (written_data xs) ≡ 2 * length xs + 2
data-long xs = simp length-append (omega (arith, digits-long xs))

scalar-short : (s : Scalar) → is_writable (scalar s) ≡ true → length (written (scalar s)) + 2 ≤ 3 * payload (scalar s) + 5
scalar-short (text units) e = omega (arith, text-short units)
scalar-short (bytes xs) e = omega (arith, data-long xs)
scalar-short _ e = cc e

mutual
  pub value-short : (v : Plist) → is_writable v ≡ true → length (written v) + 2 ≤ 3 * payload v + 5 * nodes v
  value-short (scalar s) e = scalar-short s e
  value-short (list vs) e = simp length-append (omega (arith, items-short vs e))
  value-short (table ps) e = simp length-append (omega (arith, pairs-short ps e))

  items-short : (vs : Items) → are_writable_items vs ≡ true → length (written_items vs) ≤ 3 * payload_of_items vs + 5 * nodes_of_items vs
  items-short no_items e = omega arith
  items-short (item v vs) e =
      let w = and_parts (is_writable v) (are_writable_items vs) e in
      simp length-append (omega (arith, value-short v w.0, items-short vs w.1))

  pairs-short : (ps : Pairs) → are_writable_pairs ps ≡ true → length (written_pairs ps) ≤ 3 * payload_of_pairs ps + 5 * nodes_of_pairs ps
  pairs-short no_pairs e = omega arith
  pairs-short (pair key v ps) e =
      let w = and_parts (is_writable v) (are_writable_pairs ps) e in
      simp length-append (omega (arith, text-short key, value-short v w.0, pairs-short ps w.1))

equal : (x y : ℕ) → (x == y) ≡ true → x ≡ y
equal x y e = grind (arith, nat_tests)

letter-piece : (unit c letter : ℕ) (rest : List ℕ) → (unit == c) ≡ true → is_digit letter 8 ≡ false → (letter == 85) ≡ false → encode_utf16 (escaped letter) ≡ c ∷ []
    → Piece 34 (92 ∷ letter ∷ rest) (unit ∷ []) rest
letter-piece unit c letter rest e o u g =
    subst (λ x. Piece 34 (92 ∷ letter ∷ rest) x rest) (g ∙ ap (λ x. x ∷ []) (sym (equal unit c e))) (Quoted.escape (Quoted.character o u))

one_unit : (unit : ℕ) → is_in_range 0x20 0x7e unit ≡ true → encode_utf16 unit ≡ unit ∷ []
one_unit unit r = let h : unit < 0x1_0000 = grind (arith, nat_tests) in grind (arith, nat_tests)

raw-test : (unit : ℕ) → (unit == 34) ≡ false → (unit == 92) ≡ false → is_raw 34 unit ≡ true
raw-test unit q b = rw (q, b) refl

raw-piece : (unit : ℕ) (rest : List ℕ) → (unit == 34) ≡ false → (unit == 92) ≡ false → is_in_range 0x20 0x7e unit ≡ true → Piece 34 (unit ∷ rest) (unit ∷ []) rest
raw-piece unit rest q b r = subst (λ x. Piece 34 (unit ∷ rest) x rest) (one_unit unit r) (Quoted.raw (raw-test unit q b))

digit-test : (d : ℕ) → d < 16 → is_digit (digit_char d) 16 ≡ true
digit-test d h = let e : digit_value (digit_char d) ≡ d = digit_value-digit_char d (omega (arith, h)) in rw e (grind (arith, nat_tests))

four_digits : (a b c d : ℕ) (rest : List ℕ) → is_digit a 16 ≡ true → is_digit b 16 ≡ true → is_digit c 16 ≡ true → is_digit d 16 ≡ true
    → number_from 16 4 0 (a ∷ b ∷ c ∷ d ∷ rest) ≡ record { value = (((0 * 16 + digit_value a) * 16 + digit_value b) * 16 + digit_value c) * 16 + digit_value d; after = rest }
four_digits a b c d rest h i j k = rw (h, i, j, k) refl

four_value : (a b c d : ℕ) (rest : List ℕ) → a < 16 → b < 16 → c < 16 → d < 16
    → number_from 16 4 0 (digit_char a ∷ digit_char b ∷ digit_char c ∷ digit_char d ∷ rest) ≡ record { value = ((a * 16 + b) * 16 + c) * 16 + d; after = rest }
four_value a b c d rest h i j k =
    four_digits (digit_char a) (digit_char b) (digit_char c) (digit_char d) rest (digit-test a h) (digit-test b i) (digit-test c j) (digit-test d k)
    ∙ ap (λ x. record { value = x; after = rest })
    (rw (digit_value-digit_char a (omega (arith, h)), digit_value-digit_char b (omega (arith, i)), digit_value-digit_char c (omega (arith, j)), digit_value-digit_char d (omega (arith, k))) (omega arith))

unit-number : (unit : ℕ) (rest : List ℕ) → unit < 65536
    → number_from 16 4 0 (two_digits (unit / 256) ++ (two_digits (unit % 256) ++ rest)) ≡ record { value = unit; after = rest }
unit-number unit rest h =
    four_value (unit / 256 / 16) (unit / 256 % 16) (unit % 256 / 16) (unit % 256 % 16) rest (omega (arith, h)) (omega (arith, h)) (omega (arith, h)) (omega (arith, h))
    ∙ ap (λ x. record { value = x; after = rest }) (omega (arith, h))

number-escape : (digits : List ℕ) (unit : ℕ) (rest : List ℕ) → begins_digit 16 digits ≡ true → number_from 16 4 0 digits ≡ record { value = unit; after = rest }
    → Piece 34 (92 ∷ 85 ∷ digits) (unit ∷ []) rest
number-escape digits unit rest b e =
    let P : Number → Type 0 = λ n. Piece 34 (92 ∷ 85 ∷ digits) (n.value ∷ []) n.after in
    subst P e (Quoted.escape (Quoted.unit b))

number-piece : (unit : ℕ) (rest : List ℕ) → unit < 65536 → Piece 34 (92 ∷ 85 ∷ (two_digits (unit / 256) ++ (two_digits (unit % 256) ++ rest))) (unit ∷ []) rest
number-piece unit rest h = number-escape _ unit rest (digit-test (unit / 256 / 16) (omega (arith, h))) (unit-number unit rest h)

pub unit-piece : (unit : ℕ) (rest : List ℕ) → unit < 65536 → Piece 34 (quoted_unit unit ++ rest) (unit ∷ []) rest
unit-piece unit rest h =
    let P : List ℕ → Type 0 = λ os. Piece 34 (os ++ rest) (unit ∷ []) rest in
    cond_both (unit == 34) _ _ P (λ e. letter-piece unit 34 34 rest e refl refl refl) (λ q.
    cond_both (unit == 92) _ _ P (λ e. letter-piece unit 92 92 rest e refl refl refl) (λ b.
    cond_both (unit == 10) _ _ P (λ e. letter-piece unit 10 110 rest e refl refl refl) (λ n.
    cond_both (unit == 9) _ _ P (λ e. letter-piece unit 9 116 rest e refl refl refl) (λ t.
    cond_both (unit == 13) _ _ P (λ e. letter-piece unit 13 114 rest e refl refl refl) (λ r.
    cond_both (is_in_range 0x20 0x7e unit) _ _ P (λ p. raw-piece unit rest q b p) (λ p. number-piece unit rest h))))))

pub units-quoted : (units rest : List ℕ) → AreUnits units → Quoted 34 (flat_map quoted_unit units ++ (34 ∷ rest)) units rest
units-quoted [] rest h = Quoted.close refl
units-quoted (unit ∷ units) rest h =
    rw (append_assoc (quoted_unit unit) (flat_map quoted_unit units) (34 ∷ rest)) (Quoted.piece (unit-piece unit _ (h 0)) (units-quoted units rest (λ i. h (suc i))))

-- the written digits of bytes read as these bytes
octet-piece : (x : ℕ) (rest : List ℕ) → x < 256 → OctetsPiece (two_digits x ++ rest) (x ∷ []) rest
octet-piece x rest h =
    subst (λ y. OctetsPiece (two_digits x ++ rest) (y ∷ []) rest)
    (rw (digit_value-digit_char (x / 16) (omega (arith, h)), digit_value-digit_char (x % 16) (omega (arith, h))) (omega arith))
    (Octets.pair (digit-test (x / 16) (omega (arith, h))) (digit-test (x % 16) (omega (arith, h))))

pub octets-data : (xs rest : List ℕ) → AreOctets xs → Octets (flat_map two_digits xs ++ (62 ∷ rest)) xs rest
octets-data [] rest h = Octets.close
octets-data (x ∷ xs) rest h = rw (append_assoc (two_digits x) (flat_map two_digits xs) (62 ∷ rest)) (Octets.piece (octet-piece x _ (h 0)) (octets-data xs rest (λ i. h (suc i))))

-- a plain string is an unquoted string
pub alphanumeric-run : (c : ℕ) → is_ascii_alphanumeric c ≡ true → is_run c ≡ true
alphanumeric-run c e = grind (arith, nat_tests)

pub alphanumeric-slash : (c : ℕ) → is_ascii_alphanumeric c ≡ true → (c == 47) ≡ false
alphanumeric-slash c e = grind (arith, nat_tests)

pub units-run : (units rest : List ℕ) → are_alphanumeric units ≡ true → begins_run rest ≡ false → Run (units ++ rest) units rest
units-run [] rest h b = Quoted.stop b
units-run (unit ∷ units) rest h b =
    let w = and_parts (is_ascii_alphanumeric unit) (are_alphanumeric units) h in
    Quoted.more (alphanumeric-run unit w.0) (units-run units rest w.1 b)

-- the text has tokens, which are these
pub record Lexed (p : Offsets) (from : List ℕ) (ls : List Lexeme) : Type 0 where
  pub tokens : List Located
  pub lexes : Lexes p from tokens
  pub are : lexemes tokens ≡ ls

white-lexes : {p : Offsets} {c : ℕ} {rest : List ℕ} {tokens : List Located} → is_white c ≡ true → Lexes p rest tokens → Lexes p (c ∷ rest) tokens
white-lexes w (none g) = none (Gap.piece (Gap.white w) g)
white-lexes w (next g t r) = next (Gap.piece (Gap.white w) g) t r

white-more : {p : Offsets} {c : ℕ} {rest : List ℕ} {ls : List Lexeme} → is_white c ≡ true → Lexed p rest ls → Lexed p (c ∷ rest) ls
white-more w d = record { tokens = d.tokens; lexes = white-lexes w d.lexes; are = d.are }

token-more : {p : Offsets} {from after : List ℕ} {l : Lexeme} {ls : List Lexeme} → IsToken from l after → Lexed p after ls → Lexed p from (l ∷ ls)
token-more {p} {from} {after} {l} t d = record {
  tokens = record { lexeme = l; start = offset p from; end = offset p after } ∷ d.tokens;
  lexes = next Gap.none t d.lexes;
  are = ap (λ x. l ∷ x) d.are;
}

mark-more : {p : Offsets} {c : ℕ} {rest : List ℕ} {l : Lexeme} {ls : List Lexeme} → mark_token c ≡ Some l → Lexed p rest ls → Lexed p (c ∷ rest) (l ∷ ls)
mark-more m d = token-more (Lexeme.mark m) d

unquoted-token : (units rest : List ℕ) → is_unquoted units ≡ true → begins_run rest ≡ false → IsToken (units ++ rest) (string units) rest
unquoted-token [] rest e b = cc e
unquoted-token (c ∷ units) rest e b =
    let w = and_parts (are_alphanumeric (c ∷ units)) (not (starts_with nat_eq (c ∷ units) (codes "bplist"))) e in
    let u = and_parts (is_ascii_alphanumeric c) (are_alphanumeric units) w.0 in
    Lexeme.run (alphanumeric-run c u.0) (no_comment c (units ++ rest) (alphanumeric-slash c u.0)) (units-run units rest u.1 b)

text-token : (units rest : List ℕ) → AreUnits units → begins_run rest ≡ false → IsToken (written_text units ++ rest) (string units) rest
text-token units rest h b =
    cond_both (is_unquoted units) _ _ (λ os. IsToken (os ++ rest) (string units) rest) (λ e. unquoted-token units rest e b)
    (λ e. rw (append_assoc (flat_map quoted_unit units) (34 ∷ []) rest) (Lexeme.quoted refl (units-quoted units rest h)))

bytes-token : (xs rest : List ℕ) → AreOctets xs → IsToken (written_data xs ++ rest) (data_token xs) rest
bytes-token xs rest h = rw (append_assoc (flat_map two_digits xs) (62 ∷ []) rest) (Lexeme.data_token (octets-data xs rest h))

scalar-lexed : {p : Offsets} {rest : List ℕ} {ls : List Lexeme} (s : Scalar) → IsPlist (scalar s) → is_writable (scalar s) ≡ true → begins_run rest ≡ false → Lexed p rest ls
    → Lexed p (written (scalar s) ++ rest) (value_tokens (scalar s) ls)
scalar-lexed {rest = rest} (text units) h e b d = token-more (text-token units rest h b) d
scalar-lexed {rest = rest} (bytes xs) h e b d = token-more (bytes-token xs rest h) d
scalar-lexed (whole z) h e b d = cc e
scalar-lexed (flag x) h e b d = cc e
scalar-lexed (real4 xs) h e b d = cc e
scalar-lexed (real8 xs) h e b d = cc e
scalar-lexed (moment xs) h e b d = cc e

three : (a b c d : List ℕ) → ((a ++ b) ++ c) ++ d ≡ a ++ (b ++ (c ++ d))
three a b c d = append_assoc (a ++ b) c d ∙ append_assoc a b (c ++ d)

five : (a b c d e f : List ℕ) → ((((a ++ b) ++ c) ++ d) ++ e) ++ f ≡ a ++ (b ++ (c ++ (d ++ (e ++ f))))
five a b c d e f = three ((a ++ b) ++ c) d e f ∙ three a b c (d ++ (e ++ f))

mutual
  pub value-lexed : (p : Offsets) (v : Plist) (rest : List ℕ) (ls : List Lexeme) → IsPlist v → is_writable v ≡ true → begins_run rest ≡ false → Lexed p rest ls
      → Lexed p (written v ++ rest) (value_tokens v ls)
  value-lexed p (scalar s) rest ls h e b d = scalar-lexed s h e b d
  value-lexed p (list vs) rest ls h e b d =
      rw (append_assoc (written_items vs) (41 ∷ []) rest) (mark-more refl (white-more refl (items-lexed p vs (41 ∷ rest) (paren_close ∷ ls) h e (mark-more refl d))))
  value-lexed p (table ps) rest ls h e b d =
      rw (append_assoc (written_pairs ps) (125 ∷ []) rest) (mark-more refl (white-more refl (pairs-lexed p ps (125 ∷ rest) (brace_close ∷ ls) h e (mark-more refl d))))

  items-lexed : (p : Offsets) (vs : Items) (rest : List ℕ) (ls : List Lexeme) → AreItems vs → are_writable_items vs ≡ true → Lexed p rest ls
      → Lexed p (written_items vs ++ rest) (item_tokens vs ls)
  items-lexed p no_items rest ls h e d = d
  items-lexed p (item v vs) rest ls h e d =
      let w = and_parts (is_writable v) (are_writable_items vs) e in
      rw (three (written v) (codes ",\n") (written_items vs) rest)
      (value-lexed p v _ (comma ∷ item_tokens vs ls) h.0 w.0 refl (mark-more refl (white-more refl (items-lexed p vs rest ls h.1 w.1 d))))

  pairs-lexed : (p : Offsets) (ps : Pairs) (rest : List ℕ) (ls : List Lexeme) → ArePairs ps → are_writable_pairs ps ≡ true → Lexed p rest ls
      → Lexed p (written_pairs ps ++ rest) (pair_tokens ps ls)
  pairs-lexed p no_pairs rest ls h e d = d
  pairs-lexed p (pair key v ps) rest ls h e d =
      let w = and_parts (is_writable v) (are_writable_pairs ps) e in
      rw (five (written_text key) (codes " = ") (written v) (codes ";\n") (written_pairs ps) rest)
      (token-more (text-token key _ h.0 refl) (white-more refl (mark-more refl (white-more refl
      (value-lexed p v _ (semicolon ∷ pair_tokens ps ls) h.1 w.0 refl (mark-more refl (white-more refl (pairs-lexed p ps rest ls h.3 w.1 d))))))))
