-- The characters of bytes. An input encodes only one text.
use Rattle.std.proofs.Common.{ℕ, Bool, true, false, ◌&&◌, List, [], ◌∷◌, ◌++◌, ◌≡◌, refl, sym, ap, ◌∙◌, append_assoc, append-nil, ◌+◌, ◌-◌, ◌/◌, ◌%◌, ◌<◌, ◌≤◌, length, get_or, arith, lt-ltb, le-ltb, Some, ⊎_elim, map, subst, length-append, take, drop, length-take, length-drop}
use Rattle.std.specs.Str.{all_scalars, encode_utf8_all, IsValidUpTo}
use Rattle.std.proofs.lemmas.List.{append_cancel_left, take-append-drop}
use Rattle.std.specs.Prelude.{unwrap_or, chars, IsUtf8, nat_eq}
use Rattle.std.specs.Char.{IsScalar}
use Rattle.std.specs.Char.Utf16.{utf16_chars, lone_unit_char, surrogate_pair_char}
use Rattle.std.proofs.str.Utf16.{IsPair, lone_unit_char_low, lone_unit_char_high}
use Rattle.std.proofs.lemmas.Str.{utf16_chars-nil, utf16_chars_lone, utf16_chars_pair, scalars-chars, encodes-chars, IsUtf8-append, IsUtf8-encode, len_utf8_bounds, length-encode, encode_same}
use Rattle.std.proofs.lemmas.Bool.{cases_lt}
use Rattle.std.specs.Borrow.{Bor}
use Rattle.std.specs.List.{starts_with}
use Rattle.std.proofs.Math.Seq.{take-append_seam}
use lib.Utf8.{scalar, scalar_cases, encode}
use lib.Pointwise.{bytes_decides}
use Rattle.ostep_lex.specs.Encoding.{Encoding, utf8, spelling, octets_of, BeginsWith, BeginsWithNone, StopsAfter, utf16_big, utf16_little, mark_of, encoding_of, Spells, StopsAt}
use Rattle.ostep_lex.specs.Remaining.{FrontsOf, encoding_by, unit_octets, units_in, utf16_characters, characters_in, IsWhole, Leads}
use Rattle.ostep_lex.specs.declared.remaining.ByteOrder.{ByteOrder}
use Rattle.ostep_lex.specs.declared.remaining.ByteOrder.TheVariants.{Big, Little}
use Rattle.ostep_lex.specs.declared.remaining.Remaining.{Remaining}
use Rattle.ostep_lex.specs.declared.remaining.Remaining.TheVariants.{Utf8, Utf16}

pub octets_of-append : (e : Encoding) (xs ys : List ℕ) → octets_of e (xs ++ ys) ≡ octets_of e xs ++ octets_of e ys
octets_of-append e [] ys = refl
octets_of-append e (x ∷ xs) ys = ap (λ w. spelling e x ++ w) (octets_of-append e xs ys) ∙ sym (append_assoc (spelling e x) (octets_of e xs) (octets_of e ys))

pub octets_of-utf8 : (xs : List ℕ) → octets_of utf8 xs ≡ encode_utf8_all xs
octets_of-utf8 [] = refl
octets_of-utf8 (x ∷ xs) = ap (λ w. spelling utf8 x ++ w) (octets_of-utf8 xs)

and_assoc : (a b c : Bool) → ((a && b) && c) ≡ (a && (b && c))
and_assoc true b c = refl
and_assoc false b c = refl

pub all_scalars-append : (xs ys : List ℕ) → all_scalars (xs ++ ys) ≡ (all_scalars xs && all_scalars ys)
all_scalars-append [] ys = refl
all_scalars-append (x ∷ xs) ys = ap (λ b. scalar x && b) (all_scalars-append xs ys) ∙ sym (and_assoc (scalar x) (all_scalars xs) (all_scalars ys))

pub FrontsOf-none : (e : Encoding) (octets : List ℕ) → FrontsOf e octets octets
FrontsOf-none e octets = record { before = []; whole = refl; split = refl }

pub FrontsOf-more : {e : Encoding} {octets rest after : List ℕ} {c : ℕ} → FrontsOf e octets rest → BeginsWith e rest c after → FrontsOf e octets after
FrontsOf-more {e} {octets} {rest} {after} {c} f b = record {
  before = f.before ++ c ∷ [];
  whole = rw (all_scalars-append, f.whole, b.scalar) refl;
  split = f.split ∙ ap (λ w. octets_of e f.before ++ w) b.spelled ∙ sym (append_assoc (octets_of e f.before) (spelling e c) after)
      ∙ ap (λ w. w ++ after) (sym (octets_of-append e f.before (c ∷ []) ∙ ap (λ w. octets_of e f.before ++ w) (append-nil (spelling e c))));
}

-- what follows the first character of a text is a text
pub record WholeText (e : Encoding) (text octets : List ℕ) : Type 0 where
  pub scalars : all_scalars text ≡ true
  pub spelled : octets_of e text ≡ octets

pub and_left : (a b : Bool) → (a && b) ≡ true → a ≡ true
and_left true b e = refl
and_left false b e = e

pub and_right : (a b : Bool) → (a && b) ≡ true → b ≡ true
and_right true b e = e
and_right false b e = cc

pub WholeText-after : {e : Encoding} {text octets : List ℕ} {c : ℕ} {rest after : List ℕ} → WholeText e text octets → text ≡ c ∷ rest → octets ≡ spelling e c ++ after → WholeText e rest after
WholeText-after {e} {text} {octets} {c} {rest} {after} w t o =
    let scalars : (scalar c && all_scalars rest) ≡ true = ap all_scalars (sym t) ∙ w.scalars in
    let both : spelling e c ++ octets_of e rest ≡ spelling e c ++ after = ap (octets_of e) (sym t) ∙ w.spelled ∙ o in
    record { scalars = and_right (scalar c) (all_scalars rest) scalars; spelled = append_cancel_left (spelling e c) (octets_of e rest) after both }

-- a text at whose start no character begins is empty
pub WholeText-none : {e : Encoding} {text octets : List ℕ} → WholeText e text octets → BeginsWithNone e octets → text ≡ []
WholeText-none {text = []} w n = refl
WholeText-none {e} {text = c ∷ rest} {octets} w n =
    absurd (n c (octets_of e rest) (record { scalar = and_left (scalar c) (all_scalars rest) w.scalars; spelled = sym w.spelled }))

units_in-unit : (o : ByteOrder) (u : ℕ) (rest : List ℕ) → units_in o (unit_octets o u ++ rest) ≡ u ∷ units_in o rest
units_in-unit Big u rest = ap (λ v. v ∷ units_in Big rest) (omega arith)
units_in-unit Little u rest = ap (λ v. v ∷ units_in Little rest) (omega arith)

utf16_characters-nil : (o : ByteOrder) → utf16_characters o [] ≡ []
unfolding utf16_characters
utf16_characters-nil o = ap (map (λ x. unwrap_or x 0)) utf16_chars-nil

-- a character of one unit, and one of two units
pub spelling_one : (o : ByteOrder) (c : ℕ) (rest : List ℕ) → c < 0x1_0000 → spelling (encoding_by o) c ++ rest ≡ unit_octets o c ++ rest
spelling_one Big c rest h = rw (lt-ltb c 0x1_0000 h)
spelling_one Little c rest h = rw (lt-ltb c 0x1_0000 h)

abbrev pub high : ℕ → ℕ
high c = 0xD800 + (c - 0x1_0000) / 0x400

abbrev pub low : ℕ → ℕ
low c = 0xDC00 + (c - 0x1_0000) % 0x400

pub spelling_two : (o : ByteOrder) (c : ℕ) (rest : List ℕ) → 0x1_0000 ≤ c → spelling (encoding_by o) c ++ rest ≡ unit_octets o (high c) ++ (unit_octets o (low c) ++ rest)
spelling_two Big c rest h = rw (le-ltb c 0x1_0000 h)
spelling_two Little c rest h = rw (le-ltb c 0x1_0000 h)

lone : (u : ℕ) → IsScalar u → lone_unit_char u ≡ Some u
lone u s = ⊎_elim (λ h. lone_unit_char_low u h) (λ h. lone_unit_char_high u h.0) (scalar_cases u s)

no_pair : (u v : ℕ) → IsScalar u → ¬ (IsPair u v)
no_pair u v s p = ⊎_elim (λ h. absurd (omega arith)) (λ h. absurd (omega arith)) (scalar_cases u s)

is_pair : (c : ℕ) → IsScalar c → 0x1_0000 ≤ c → IsPair (high c) (low c)
is_pair c s h =
    let small : c < 0x11_0000 = ⊎_elim (λ l. omega arith) (λ l. l.1) (scalar_cases c s) in
    (omega arith, omega arith, omega arith, omega arith)

pair_char : (c : ℕ) → 0x1_0000 ≤ c → surrogate_pair_char (high c) (low c) ≡ c
pair_char c h = omega arith

text_of_units : List ℕ → List ℕ
text_of_units us = map (λ x. unwrap_or x 0) (utf16_chars us)

text_of_units-one : (c : ℕ) (us : List ℕ) → IsScalar c → text_of_units (c ∷ us) ≡ c ∷ text_of_units us
unfolding text_of_units
text_of_units-one c us s =
    ap (map (λ x. unwrap_or x 0)) (utf16_chars_lone c us (no_pair c (get_or us 0 0) s) ∙ ap (λ x. x ∷ utf16_chars us) (lone c s))

text_of_units-two : (c : ℕ) (us : List ℕ) → IsScalar c → 0x1_0000 ≤ c → text_of_units (high c ∷ low c ∷ us) ≡ c ∷ text_of_units us
unfolding text_of_units
text_of_units-two c us s h =
    ap (map (λ x. unwrap_or x 0)) (utf16_chars_pair (high c) (low c) us (is_pair c s h) ∙ ap (λ x. Some x ∷ utf16_chars us) (pair_char c h))

units_one : (o : ByteOrder) (c : ℕ) (rest : List ℕ) → c < 0x1_0000 → units_in o (spelling (encoding_by o) c ++ rest) ≡ c ∷ units_in o rest
units_one o c rest h = ap (units_in o) (spelling_one o c rest h) ∙ units_in-unit o c rest

units_two : (o : ByteOrder) (c : ℕ) (rest : List ℕ) → 0x1_0000 ≤ c → units_in o (spelling (encoding_by o) c ++ rest) ≡ high c ∷ low c ∷ units_in o rest
units_two o c rest h = ap (units_in o) (spelling_two o c rest h) ∙ units_in-unit o (high c) (unit_octets o (low c) ++ rest)
    ∙ ap (λ us. high c ∷ us) (units_in-unit o (low c) rest)

pub utf16_characters-spelling : (o : ByteOrder) (c : ℕ) (rest : List ℕ) → IsScalar c → utf16_characters o (spelling (encoding_by o) c ++ rest) ≡ c ∷ utf16_characters o rest
unfolding utf16_characters text_of_units
utf16_characters-spelling o c rest s = ⊎_elim
    (λ h. ap text_of_units (units_one o c rest h) ∙ text_of_units-one c (units_in o rest) s)
    (λ h. ap text_of_units (units_two o c rest h) ∙ text_of_units-two c (units_in o rest) s h)
    (cases_lt c 0x1_0000)

-- decoding the UTF-16 bytes of a text gives the text
pub utf16_characters-octets : (o : ByteOrder) (text : List ℕ) → all_scalars text ≡ true → utf16_characters o (octets_of (encoding_by o) text) ≡ text
utf16_characters-octets o [] s = utf16_characters-nil o
utf16_characters-octets o (c ∷ text) s =
    utf16_characters-spelling o c (octets_of (encoding_by o) text) (and_left (scalar c) (all_scalars text) s)
    ∙ ap (λ w. c ∷ w) (utf16_characters-octets o text (and_right (scalar c) (all_scalars text) s))

shorter : (piece octets after : List ℕ) → octets ≡ piece ++ after → length after ≤ length octets
shorter piece octets after e = omega (arith, length-append piece after, ap length e)

-- the first character in UTF-8, in UTF-16, and none
pub Leads-utf8 : {remaining : Remaining} {text after : Bor (List ℕ)} {c : ℕ} → remaining ≡ Utf8 text → IsWhole remaining
    → text.now ≡ spelling utf8 c ++ after.now → chars text.now ≡ c ∷ chars after.now → Leads remaining c (Utf8 after)
Leads-utf8 {remaining} {text} {after} {c} e w o t = subst (λ s. IsWhole s → Leads s c (Utf8 after)) (sym e)
    (λ v. let b = WholeText-after {e = utf8} (record { scalars = v.scalars; spelled = v.spelled }) t o in
    record { text = t; whole = record { scalars = b.scalars; spelled = b.spelled }; encoding = refl; shorter = shorter (spelling utf8 c) text.now after.now o }) w

pub Leads-utf16 : {remaining : Remaining} {order : ByteOrder} {octets after : Bor (List ℕ)} {c : ℕ} → remaining ≡ Utf16 order octets → IsWhole remaining
    → BeginsWith (encoding_by order) octets.now c after.now → Leads remaining c (Utf16 order after)
Leads-utf16 {remaining} {order} {octets} {after} {c} e w o = subst (λ s. IsWhole s → Leads s c (Utf16 order after)) (sym e)
    (λ v. let t : utf16_characters order octets.now ≡ c ∷ utf16_characters order after.now =
    ap (utf16_characters order) o.spelled ∙ utf16_characters-spelling order c after.now o.scalar in
    let b = WholeText-after {e = encoding_by order} (record { scalars = v.scalars; spelled = v.spelled }) t o.spelled in
    record { text = t; whole = record { scalars = b.scalars; spelled = b.spelled }; encoding = refl; shorter = shorter (spelling (encoding_by order) c) octets.now after.now o.spelled }) w

pub Leads-none : {remaining : Remaining} {order : ByteOrder} {octets : Bor (List ℕ)} → remaining ≡ Utf16 order octets → IsWhole remaining
    → BeginsWithNone (encoding_by order) octets.now → characters_in remaining ≡ []
Leads-none {remaining} {order} {octets} e w n = subst (λ s. IsWhole s → characters_in s ≡ []) (sym e)
    (λ v. WholeText-none {e = encoding_by order} (record { scalars = v.scalars; spelled = v.spelled }) n) w

-- the units of bytes, one after another
pub units_in-first : (order : ByteOrder) (octets after : List ℕ) (u : ℕ) → octets ≡ unit_octets order u ++ after → units_in order octets ≡ u ∷ units_in order after
units_in-first order octets after u e = ap (units_in order) e ∙ units_in-unit order u after

pub units_in-few : (order : ByteOrder) (octets : List ℕ) → length (units_in order octets) ≤ length octets / 2
units_in-few order (a ∷ b ∷ rest) = omega (arith, units_in-few order rest)
units_in-few order _ = omega arith

pub whole_utf8 : (text : Bor (List ℕ)) → IsUtf8 text.now → IsWhole (Utf8 text)
whole_utf8 text u = record { scalars = scalars-chars text.now u; spelled = octets_of-utf8 (chars text.now) ∙ encodes-chars text.now u }

-- no character follows the longest valid prefix of UTF-8
longer : (octets after : List ℕ) (n c : ℕ) → IsValidUpTo octets n → IsScalar c → drop n octets ≡ encode c ++ after → ⊥
longer octets after n c v s e =
    let front = take n octets ++ encode c in
    let split : octets ≡ front ++ after =
    sym (take-append-drop n octets) ∙ ap (λ w. take n octets ++ w) e ∙ sym (append_assoc (take n octets) (encode c) after) in
    let taken : take (length front) octets ≡ front = ap (take (length front)) split ∙ take-append_seam front after in
    let short = v.short in
    let more : n < length front = omega (arith, length-append (take n octets) (encode c), length-take n octets, length-encode c, len_utf8_bounds c) in
    v.longest (length front) more (subst IsUtf8 (sym taken) (IsUtf8-append (take n octets) (encode c) v.front (IsUtf8-encode c s)))

pub stops_utf8 : (octets : List ℕ) (end n : ℕ) → length octets ≤ end → IsValidUpTo octets n → StopsAfter utf8 octets end (end - length octets + n)
stops_utf8 octets end n fits v = record {
  before = v.front.0;
  rest = drop n octets;
  whole = v.front.1.0;
  split = sym (ap (λ w. w ++ drop n octets) (octets_of-utf8 v.front.0 ∙ v.front.1.1) ∙ take-append-drop n octets);
  counted = let s = v.short in omega (arith, length-drop n octets);
  octet = let s = v.short in omega (arith, length-drop n octets);
  none = λ c after b. longer octets after n c v b.scalar b.spelled;
}

nothing : (xs : List ℕ) → length xs ≡ 0 → xs ≡ []
nothing [] e = refl
nothing (x ∷ xs) e = absurd (omega arith)

pub whole_utf16 : (order : ByteOrder) (octets : Bor (List ℕ)) (rest : List ℕ) → FrontsOf (encoding_by order) octets.now rest → length rest ≡ 0 → IsWhole (Utf16 order octets)
whole_utf16 order octets rest f e =
    let all : octets.now ≡ octets_of (encoding_by order) f.before = f.split ∙ ap (λ w. octets_of (encoding_by order) f.before ++ w) (nothing rest e) ∙ append-nil (octets_of (encoding_by order) f.before) in
    let text : utf16_characters order octets.now ≡ f.before = ap (utf16_characters order) all ∙ utf16_characters-octets order f.before f.whole in
    record { scalars = ap all_scalars text ∙ f.whole; spelled = ap (octets_of (encoding_by order)) text ∙ sym all }

-- an input that begins with a byte order mark is the mark followed by other bytes
pub after_mark : (octets mark : List ℕ) → starts_with nat_eq octets mark ≡ true → octets ≡ mark ++ drop (length mark) octets
after_mark octets mark e =
    sym (take-append-drop (length mark) octets) ∙ ap (λ w. w ++ drop (length mark) octets) (sym ((bytes_decides mark (take (length mark) octets)).0 e))

pub record SameFirst (c d : ℕ) (a b : List ℕ) : Type 0 where
  pub first : c ≡ d
  pub after : a ≡ b

spelling_same16 : (o : ByteOrder) (c d : ℕ) (a b : List ℕ) → IsScalar c → IsScalar d → spelling (encoding_by o) c ++ a ≡ spelling (encoding_by o) d ++ b → SameFirst c d a b
spelling_same16 o c d a b s t e =
    let texts : c ∷ utf16_characters o a ≡ d ∷ utf16_characters o b =
    sym (utf16_characters-spelling o c a s) ∙ ap (utf16_characters o) e ∙ utf16_characters-spelling o d b t in
    let first : c ≡ d = cc in
    record { first = first; after = append_cancel_left (spelling (encoding_by o) d) a b (subst (λ x. spelling (encoding_by o) x ++ a ≡ spelling (encoding_by o) d ++ b) first e) }

pub spelling_same : (e : Encoding) (c d : ℕ) (a b : List ℕ) → IsScalar c → IsScalar d → spelling e c ++ a ≡ spelling e d ++ b → SameFirst c d a b
spelling_same utf8 c d a b s t p = let h = encode_same c d a b p in record { first = h.0; after = h.1 }
spelling_same utf16_big c d a b s t p = spelling_same16 Big c d a b s t p
spelling_same utf16_little c d a b s t p = spelling_same16 Little c d a b s t p

unit_some : (o : ByteOrder) (u : ℕ) (rest : List ℕ) → [] ≡ unit_octets o u ++ rest → ⊥
unit_some Big u rest e = cc
unit_some Little u rest e = cc

some16 : (o : ByteOrder) (c : ℕ) (rest : List ℕ) → [] ≡ spelling (encoding_by o) c ++ rest → ⊥
some16 o c rest p = ⊎_elim
    (λ h. unit_some o c rest (p ∙ spelling_one o c rest h))
    (λ h. unit_some o (high c) (unit_octets o (low c) ++ rest) (p ∙ spelling_two o c rest h))
    (cases_lt c 0x1_0000)

-- no character is encoded as no bytes
pub spelling_some : (e : Encoding) (c : ℕ) (rest : List ℕ) → IsScalar c → [] ≡ spelling e c ++ rest → ⊥
spelling_some utf8 c rest s p = absurd (omega (arith, ap length p, length-append (spelling utf8 c) rest, length-encode c, len_utf8_bounds c))
spelling_some utf16_big c rest s p = some16 Big c rest p
spelling_some utf16_little c rest s p = some16 Little c rest p

pub octets_of_same : (e : Encoding) (xs ys : List ℕ) → all_scalars xs ≡ true → all_scalars ys ≡ true → octets_of e xs ≡ octets_of e ys → xs ≡ ys
octets_of_same e [] [] s t p = refl
octets_of_same e [] (y ∷ ys) s t p = absurd (spelling_some e y (octets_of e ys) (and_left (scalar y) (all_scalars ys) t) p)
octets_of_same e (x ∷ xs) [] s t p = absurd (spelling_some e x (octets_of e xs) (and_left (scalar x) (all_scalars xs) s) (sym p))
octets_of_same e (x ∷ xs) (y ∷ ys) s t p =
    let h = spelling_same e x y (octets_of e xs) (octets_of e ys) (and_left (scalar x) (all_scalars xs) s) (and_left (scalar y) (all_scalars ys) t) p in
    let rest = octets_of_same e xs ys (and_right (scalar x) (all_scalars xs) s) (and_right (scalar y) (all_scalars ys) t) h.after in
    cc (h.first, rest)

pub Spells-same : {octets xs ys : List ℕ} → Spells octets xs → Spells octets ys → xs ≡ ys
Spells-same {octets} {xs} {ys} s t =
    octets_of_same (encoding_of octets) xs ys s.scalars t.scalars
    (append_cancel_left (mark_of octets) (octets_of (encoding_of octets) xs) (octets_of (encoding_of octets) ys) (sym s.spelled ∙ t.spelled))

-- complete characters followed by bytes that begin no character are not a text
stopped : (e : Encoding) (before rest text : List ℕ) → all_scalars before ≡ true → all_scalars text ≡ true → 0 < length rest → BeginsWithNone e rest
    → octets_of e before ++ rest ≡ octets_of e text → ⊥
stopped e [] [] [] s t o n p = absurd (omega arith)
stopped e [] (r ∷ rest) [] s t o n p = cc
stopped e [] rest (c ∷ text) s t o n p = n c (octets_of e text) (record { scalar = and_left (scalar c) (all_scalars text) t; spelled = p })
stopped e (b ∷ before) rest [] s t o n p =
    spelling_some e b (octets_of e before ++ rest) (and_left (scalar b) (all_scalars before) s) (sym p ∙ append_assoc (spelling e b) (octets_of e before) rest)
stopped e (b ∷ before) rest (c ∷ text) s t o n p =
    let h = spelling_same e b c (octets_of e before ++ rest) (octets_of e text) (and_left (scalar b) (all_scalars before) s) (and_left (scalar c) (all_scalars text) t)
    (sym (append_assoc (spelling e b) (octets_of e before) rest) ∙ p) in
    stopped e before rest text (and_right (scalar b) (all_scalars before) s) (and_right (scalar c) (all_scalars text) t) o n h.after

pub StopsAt-none : {octets : List ℕ} {at : ℕ} {text : List ℕ} → StopsAt octets at → Spells octets text → ⊥
StopsAt-none {octets} {at} {text} s t =
    let w = s.stops in
    stopped (encoding_of octets) w.before w.rest text w.whole t.scalars w.octet w.none
    (append_cancel_left (mark_of octets) (octets_of (encoding_of octets) w.before ++ w.rest) (octets_of (encoding_of octets) text)
    (ap (λ x. mark_of octets ++ x) (sym w.split) ∙ sym s.marked ∙ t.spelled))
