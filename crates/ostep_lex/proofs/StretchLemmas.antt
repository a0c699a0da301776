-- Stretches of characters of one class, in bytes and in units, and what follows them.
use Rattle.std.proofs.Common.{ℕ, Bool, true, ◌<◌, ◌-◌, ◌&&◌, List, [], ◌∷◌, ◌++◌, length, take, drop, ◌≡◌, refl, sym, ap, subst, ◌∙◌, arith, append_assoc, length-append, ◌≤◌, append-nil, lt-ltb, false, ◌==◌}
use Rattle.std.specs.Prelude.{IsUtf8, chars, nat_lt}
use Rattle.std.proofs.lemmas.Bool.{not-true}
use Rattle.std.proofs.lemmas.Bool.Decides.{nat_tests}
use Rattle.std.specs.Str.{IsCharBoundary}
use Rattle.std.proofs.Math.Seq.{take-append_seam, drop-append_seam}
use Rattle.std.proofs.lemmas.Str.{IsCharBoundary-at_seam, encode_ascii, IsUtf8-past_char, chars_past_char}
use Rattle.std.specs.Borrow.{Bor}
use Rattle.std.specs.Char.{IsScalar}
use Rattle.std.specs.Char.Escape.{encode_utf16}
use lib.Utf8.{encode}
use Rattle.ostep_lex.specs.declared.stretch.Class.{Class}
use Rattle.ostep_lex.specs.Stretch.{belongs, is_stretch, BeginsWithStretch, LeadsStretch, BeginsWithUnits}
use Rattle.ostep_lex.specs.declared.remaining.Remaining.{Remaining}
use Rattle.ostep_lex.specs.declared.remaining.Remaining.TheVariants.{Utf8, Utf16}
use Rattle.ostep_lex.specs.declared.remaining.ByteOrder.{ByteOrder}
use Rattle.ostep_lex.specs.Encoding.{spelling, octets_of, Offsets}
use Rattle.ostep_lex.specs.Remaining.{encoding_by, unit_octets, units_in, utf16_characters, IsWhole}
use Rattle.ostep_lex.specs.declared.stretch.Class.TheVariants.{Run, White, Raw, Line, Starless}
use Rattle.ostep_lex.specs.declared.cursor.Cursor.{Cursor}
use Rattle.ostep_lex.specs.declared.fault.LexFault.{LexFault}
use Rattle.ostep_lex.specs.Character.{is_line_end}
use Rattle.ostep_lex.specs.Gap
use Rattle.ostep_lex.specs.Gap.{LineComment, BlockComment, NeverCloses, Gap, GapPiece, closes_comment}
use Rattle.ostep_lex.specs.Quoted
use Rattle.ostep_lex.specs.Quoted.{Run as RunOf, Quoted, Piece, is_raw}
use Rattle.ostep_lex.specs.Stands
use Rattle.ostep_lex.specs.Stands.{QuotedFault, FaultAfterGap}
use Rattle.ostep_lex.specs.Cursor.{ahead, PassesStretch}
use Rattle.ostep_lex.proofs.TextLemmas.{and_left, and_right, whole_utf8, octets_of-append, WholeText, WholeText-after, spelling_one, utf16_characters-spelling, units_in-first}

pub stretch_none : (kind : Class) (octets : List ℕ) → BeginsWithStretch kind octets octets
stretch_none kind octets = record { front = []; stretch = refl; split = refl }

pub is_stretch-append : (limit : ℕ) (kind : Class) (xs ys : List ℕ) → is_stretch limit kind xs ≡ true → is_stretch limit kind ys ≡ true → is_stretch limit kind (xs ++ ys) ≡ true
is_stretch-append limit kind [] ys a b = b
is_stretch-append limit kind (x ∷ xs) ys a b =
    let here = and_left (nat_lt x limit && belongs kind x) (is_stretch limit kind xs) a in
    let more = is_stretch-append limit kind xs ys (and_right (nat_lt x limit && belongs kind x) (is_stretch limit kind xs) a) b in
    rw (here, more) refl

pub stretch_more : {kind : Class} {octets rest after : List ℕ} {c : ℕ} → BeginsWithStretch kind octets rest → rest ≡ c ∷ after → (nat_lt c 128 && belongs kind c) ≡ true
    → BeginsWithStretch kind octets after
stretch_more {kind} {octets} {rest} {after} {c} f e t = record {
  front = f.front ++ c ∷ [];
  stretch = is_stretch-append 128 kind f.front (c ∷ []) f.stretch (rw t refl);
  split = f.split ∙ ap (λ w. f.front ++ w) e ∙ sym (append_assoc f.front (c ∷ []) after);
}

below_128 : (c : ℕ) (b : Bool) → (nat_lt c 128 && b) ≡ true → c < 128
below_128 c b e = grind (arith, nat_tests, and_left (nat_lt c 128) b e)

pub record AsciiFront (front rest : List ℕ) : Type 0 where
  pub utf8 : IsUtf8 rest
  pub characters : chars (front ++ rest) ≡ front ++ chars rest

-- the characters of a stretch in UTF-8 are its bytes, and a text follows it
pub ascii_front : (kind : Class) (front rest : List ℕ) → is_stretch 128 kind front ≡ true → IsUtf8 (front ++ rest) → AsciiFront front rest
ascii_front kind [] rest a u = record { utf8 = u; characters = refl }
ascii_front kind (o ∷ os) rest a u =
    let here = and_left (nat_lt o 128 && belongs kind o) (is_stretch 128 kind os) a in
    let e : o ∷ (os ++ rest) ≡ encode o ++ (os ++ rest) = sym (ap (λ w. w ++ (os ++ rest)) (encode_ascii o (below_128 o (belongs kind o) here))) in
    let h = ascii_front kind os rest (and_right (nat_lt o 128 && belongs kind o) (is_stretch 128 kind os) a) (IsUtf8-past_char (o ∷ (os ++ rest)) (os ++ rest) o u e) in
    record { utf8 = h.utf8; characters = chars_past_char (o ∷ (os ++ rest)) (os ++ rest) o u e ∙ ap (λ w. o ∷ w) h.characters }

below : (c : ℕ) (b : Bool) → (nat_lt c 128 && b) ≡ true → (nat_lt c 0xD800 && b) ≡ true
below c b e =
    let small : nat_lt c 0xD800 ≡ true = (let h = below_128 c b e in grind (arith, nat_tests)) in
    rw small (and_right (nat_lt c 128) b e)

-- ASCII characters are below the surrogates
pub ascii_stretch : (kind : Class) (cs : List ℕ) → is_stretch 128 kind cs ≡ true → is_stretch 0xD800 kind cs ≡ true
ascii_stretch kind [] s = refl
ascii_stretch kind (c ∷ cs) s =
    let here = below c (belongs kind c) (and_left (nat_lt c 128 && belongs kind c) (is_stretch 128 kind cs) s) in
    let more = ascii_stretch kind cs (and_right (nat_lt c 128 && belongs kind c) (is_stretch 128 kind cs) s) in
    rw (here, more) refl

-- the position at which the text is split, and what follows from it
pub record Cut (kind : Class) (text after : List ℕ) (at : ℕ) : Type 0 where
  pub boundary : IsCharBoundary text at
  pub stretch : is_stretch 128 kind (take at text) ≡ true
  pub characters : chars text ≡ take at text ++ chars (drop at text)
  pub split : text ≡ take at text ++ drop at text
  pub utf8 : IsUtf8 (drop at text)

cut_seam : (kind : Class) (front after : List ℕ) → is_stretch 128 kind front ≡ true → IsUtf8 (front ++ after) → Cut kind (front ++ after) after (length front)
cut_seam kind front after s u =
    let h = ascii_front kind front after s u in
    record {
      boundary = IsCharBoundary-at_seam (front ++ after) front after refl h.utf8;
      stretch = rw take-append_seam s;
      characters = rw (take-append_seam, drop-append_seam) h.characters;
      split = rw (take-append_seam, drop-append_seam) refl;
      utf8 = rw drop-append_seam h.utf8;
    }

pub cut : {kind : Class} {text after : List ℕ} → BeginsWithStretch kind text after → IsUtf8 text → Cut kind text after (length text - length after)
cut {kind} {text} {after} f u =
    let at : length f.front ≡ length text - length after = omega (arith, length-append f.front after, ap length f.split) in
    subst (λ n. Cut kind text after n) at (subst (λ t. Cut kind t after (length f.front)) (sym f.split) (cut_seam kind f.front after f.stretch (subst IsUtf8 f.split u)))

pub leads_stretch : {kind : Class} {remaining : Remaining} {text after : Bor (List ℕ)} {front : List ℕ} → remaining ≡ Utf8 text → is_stretch 128 kind front ≡ true
    → chars text.now ≡ front ++ chars after.now → text.now ≡ front ++ after.now → IsUtf8 after.now → LeadsStretch kind remaining front (Utf8 after)
leads_stretch {kind} {remaining} {text} {after} {front} e s t o u = subst (λ x. LeadsStretch kind x front (Utf8 after)) (sym e)
    (record { stretch = ascii_stretch kind front s; text = t; whole = whole_utf8 after u; encoding = refl; shorter = omega (arith, length-append front after.now, ap length o) })

low : (c : ℕ) (b : Bool) → (nat_lt c 0xD800 && b) ≡ true → c < 0xD800
low c b e = grind (arith, nat_tests, and_left (nat_lt c 0xD800) b e)

low_scalar : (c : ℕ) → c < 0xD800 → IsScalar c
low_scalar c h = rw (lt-ltb c 0xD800 h) refl

pub units_none : (kind : Class) (order : ByteOrder) (octets : List ℕ) → BeginsWithUnits kind order octets octets
units_none kind order octets = record { front = []; stretch = refl; split = refl }

pub units_more : {kind : Class} {order : ByteOrder} {octets rest after : List ℕ} (c : ℕ) → BeginsWithUnits kind order octets rest
    → rest ≡ unit_octets order c ++ after → (nat_lt c 0xD800 && belongs kind c) ≡ true → BeginsWithUnits kind order octets after
units_more {kind} {order} {octets} {rest} {after} c a e t =
    let small : c < 0xD800 = low c (belongs kind c) t in
    let one : c < 0x1_0000 = omega arith in
    let first : rest ≡ spelling (encoding_by order) c ++ after = e ∙ sym (spelling_one order c after one) in
    record {
      front = a.front ++ c ∷ [];
      stretch = is_stretch-append 0xD800 kind a.front (c ∷ []) a.stretch (rw t refl);
      split = a.split ∙ ap (λ w. octets_of (encoding_by order) a.front ++ w) first
          ∙ sym (append_assoc (octets_of (encoding_by order) a.front) (spelling (encoding_by order) c) after)
          ∙ ap (λ w. w ++ after) (sym (octets_of-append (encoding_by order) a.front (c ∷ []) ∙ ap (λ w. octets_of (encoding_by order) a.front ++ w) (append-nil (spelling (encoding_by order) c))));
    }

-- the units of a stretch are its characters
units_of_stretch : (kind : Class) (order : ByteOrder) (front : List ℕ) → is_stretch 0xD800 kind front ≡ true → units_in order (octets_of (encoding_by order) front) ≡ front
units_of_stretch kind order [] s = refl
units_of_stretch kind order (c ∷ cs) s =
    let here : (nat_lt c 0xD800 && belongs kind c) ≡ true = and_left (nat_lt c 0xD800 && belongs kind c) (is_stretch 0xD800 kind cs) s in
    let small : c < 0xD800 = low c (belongs kind c) here in
    units_in-first order _ _ c (spelling_one order c (octets_of (encoding_by order) cs) (omega arith))
    ∙ ap (λ us. c ∷ us) (units_of_stretch kind order cs (and_right (nat_lt c 0xD800 && belongs kind c) (is_stretch 0xD800 kind cs) s))

pub units_of_front : {kind : Class} {order : ByteOrder} {octets after : List ℕ} (b : BeginsWithUnits kind order octets after)
    → units_in order (take (length octets - length after) octets) ≡ b.front
units_of_front {kind} {order} {octets} {after} b =
    let front = octets_of (encoding_by order) b.front in
    let at : length octets - length after ≡ length front = omega (arith, length-append front after, ap length b.split) in
    ap (λ n. units_in order (take n octets)) at ∙ ap (λ os. units_in order (take (length front) os)) b.split
    ∙ ap (units_in order) (take-append_seam front after) ∙ units_of_stretch kind order b.front b.stretch

-- a stretch of complete characters, and the bytes rest_of it
record Behind (order : ByteOrder) (front octets after : List ℕ) : Type 0 where
  text : utf16_characters order octets ≡ front ++ utf16_characters order after
  whole : WholeText (encoding_by order) (utf16_characters order after) after
  shorter : length after ≤ length octets

after_front : (kind : Class) (order : ByteOrder) (front octets after : List ℕ) → is_stretch 0xD800 kind front ≡ true → octets ≡ octets_of (encoding_by order) front ++ after
    → WholeText (encoding_by order) (utf16_characters order octets) octets → Behind order front octets after
after_front kind order [] octets after s e w = subst (λ b. Behind order [] octets b) e (record { text = refl; whole = w; shorter = omega arith })
after_front kind order (c ∷ cs) octets after s e w =
    let o = encoding_by order in
    let here : (nat_lt c 0xD800 && belongs kind c) ≡ true = and_left (nat_lt c 0xD800 && belongs kind c) (is_stretch 0xD800 kind cs) s in
    let mid : List ℕ = octets_of o cs ++ after in
    let first : octets ≡ spelling o c ++ mid = e ∙ append_assoc (spelling o c) (octets_of o cs) after in
    let t : utf16_characters order octets ≡ c ∷ utf16_characters order mid =
    ap (utf16_characters order) first ∙ utf16_characters-spelling order c mid (low_scalar c (low c (belongs kind c) here)) in
    let r = after_front kind order cs mid after (and_right (nat_lt c 0xD800 && belongs kind c) (is_stretch 0xD800 kind cs) s) refl (WholeText-after w t first) in
    record { text = t ∙ ap (λ w. c ∷ w) r.text; whole = r.whole; shorter = omega (arith, r.shorter, length-append (spelling o c) mid, ap length first) }

pub leads_units : {kind : Class} {order : ByteOrder} {remaining : Remaining} {octets after : Bor (List ℕ)} → remaining ≡ Utf16 order octets → IsWhole remaining
    → (a : BeginsWithUnits kind order octets.now after.now) → LeadsStretch kind remaining a.front (Utf16 order after)
leads_units {kind} {order} {remaining} {octets} {after} e w a = subst (λ s. IsWhole s → LeadsStretch kind s a.front (Utf16 order after)) (sym e)
    (λ v. let b = after_front kind order a.front octets.now after.now a.stretch a.split (record { scalars = v.scalars; spelled = v.spelled }) in
    record { stretch = a.stretch; text = b.text; whole = record { scalars = b.whole.scalars; spelled = b.whole.spelled }; encoding = refl; shorter = b.shorter }) w

here : (kind : Class) (c : ℕ) (cs : List ℕ) → is_stretch 0xD800 kind (c ∷ cs) ≡ true → belongs kind c ≡ true
here kind c cs s = and_right (nat_lt c 0xD800) (belongs kind c) (and_left (nat_lt c 0xD800 && belongs kind c) (is_stretch 0xD800 kind cs) s)

rest_of : (kind : Class) (c : ℕ) (cs : List ℕ) → is_stretch 0xD800 kind (c ∷ cs) ≡ true → is_stretch 0xD800 kind cs ≡ true
rest_of kind c cs s = and_right (nat_lt c 0xD800 && belongs kind c) (is_stretch 0xD800 kind cs) s

pub one_unit : (c : ℕ) → c < 0xD800 → encode_utf16 c ≡ c ∷ []
one_unit c h = let w : c < 0x1_0000 = omega arith in rw (lt-ltb c 0x1_0000 w) refl

run_front : (front rest more end : List ℕ) → is_stretch 0xD800 Run front ≡ true → RunOf rest more end → RunOf (front ++ rest) (front ++ more) end
run_front [] rest more end s r = r
run_front (c ∷ cs) rest more end s r = Quoted.more (here Run c cs s) (run_front cs rest more end (rest_of Run c cs s) r)

quoted_front : (mark : ℕ) (front rest more end : List ℕ) → is_stretch 0xD800 (Raw mark) front ≡ true → Quoted mark rest more end → Quoted mark (front ++ rest) (front ++ more) end
quoted_front mark [] rest more end s r = r
quoted_front mark (c ∷ cs) rest more end s r =
    let h = quoted_front mark cs rest more end (rest_of (Raw mark) c cs s) r in
    let small = low c (is_raw mark c) (and_left (nat_lt c 0xD800 && is_raw mark c) (is_stretch 0xD800 (Raw mark) cs) s) in
    subst (λ us. Quoted mark (c ∷ (cs ++ rest)) (us ++ (cs ++ more)) end) (one_unit c small) (Quoted.piece (Quoted.raw (here (Raw mark) c cs s)) h)

fault_front : (p : Offsets) (start mark : ℕ) (front rest : List ℕ) (fault : LexFault) → is_stretch 0xD800 (Raw mark) front ≡ true → QuotedFault p start mark rest fault
    → QuotedFault p start mark (front ++ rest) fault
fault_front p start mark [] rest fault s r = r
fault_front p start mark (c ∷ cs) rest fault s r = Stands.piece (Quoted.raw (here (Raw mark) c cs s)) (fault_front p start mark cs rest fault (rest_of (Raw mark) c cs s) r)

gap_front : (front rest end : List ℕ) → is_stretch 0xD800 White front ≡ true → Gap rest end → Gap (front ++ rest) end
gap_front [] rest end s r = r
gap_front (c ∷ cs) rest end s r = Gap.piece (Gap.white (here White c cs s)) (gap_front cs rest end (rest_of White c cs s) r)

line_front : (front rest end : List ℕ) → is_stretch 0xD800 Line front ≡ true → LineComment rest end → LineComment (front ++ rest) end
line_front [] rest end s r = r
line_front (c ∷ cs) rest end s r = Gap.more (not-true (is_line_end c) (here Line c cs s)) (line_front cs rest end (rest_of Line c cs s) r)

goes_on : (c : ℕ) (rest : List ℕ) → (c == 42) ≡ false → closes_comment (c ∷ rest) ≡ false
goes_on c [] e = refl
goes_on c (d ∷ rest) e = rw e refl

block_front : (front rest end : List ℕ) → is_stretch 0xD800 Starless front ≡ true → BlockComment rest end → BlockComment (front ++ rest) end
block_front [] rest end s r = r
block_front (c ∷ cs) rest end s r =
    Gap.more (goes_on c (cs ++ rest) (not-true (c == 42) (here Starless c cs s))) (block_front cs rest end (rest_of Starless c cs s) r)

never_front : (front rest : List ℕ) → is_stretch 0xD800 Starless front ≡ true → NeverCloses rest → NeverCloses (front ++ rest)
never_front [] rest s r = r
never_front (c ∷ cs) rest s r =
    Gap.more (goes_on c (cs ++ rest) (not-true (c == 42) (here Starless c cs s))) (never_front cs rest (rest_of Starless c cs s) r)

-- the part of an unquoted string that the cursor skips
pub run_stretch : {old new : Cursor} {front more end : List ℕ} → PassesStretch Run old front new → RunOf (ahead new) more end → RunOf (ahead old) (front ++ more) end
run_stretch {old} {new} {front} {more} {end} p r = subst (λ t. RunOf t (front ++ more) end) (sym p.text) (run_front front (ahead new) more end p.stretch r)

pub quoted_stretch : {mark : ℕ} {old new : Cursor} {front more end : List ℕ} → PassesStretch (Raw mark) old front new → Quoted mark (ahead new) more end
    → Quoted mark (ahead old) (front ++ more) end
quoted_stretch {mark} {old} {new} {front} {more} {end} p r =
    subst (λ t. Quoted mark t (front ++ more) end) (sym p.text) (quoted_front mark front (ahead new) more end p.stretch r)

pub fault_stretch : {offsets : Offsets} {start mark : ℕ} {old new : Cursor} {front : List ℕ} {fault : LexFault} → PassesStretch (Raw mark) old front new
    → QuotedFault offsets start mark (ahead new) fault → QuotedFault offsets start mark (ahead old) fault
fault_stretch {offsets} {start} {mark} {old} {new} {front} {fault} p r =
    subst (λ t. QuotedFault offsets start mark t fault) (sym p.text) (fault_front offsets start mark front (ahead new) fault p.stretch r)

pub gap_stretch : {old new : Cursor} {front end : List ℕ} → PassesStretch White old front new → Gap (ahead new) end → Gap (ahead old) end
gap_stretch {old} {new} {front} {end} p r = subst (λ t. Gap t end) (sym p.text) (gap_front front (ahead new) end p.stretch r)

pub line_stretch : {old new : Cursor} {front end : List ℕ} → PassesStretch Line old front new → LineComment (ahead new) end → LineComment (ahead old) end
line_stretch {old} {new} {front} {end} p r = subst (λ t. LineComment t end) (sym p.text) (line_front front (ahead new) end p.stretch r)

pub block_stretch : {old new : Cursor} {front end : List ℕ} → PassesStretch Starless old front new → BlockComment (ahead new) end → BlockComment (ahead old) end
block_stretch {old} {new} {front} {end} p r = subst (λ t. BlockComment t end) (sym p.text) (block_front front (ahead new) end p.stretch r)

pub never_stretch : {old new : Cursor} {front : List ℕ} → PassesStretch Starless old front new → NeverCloses (ahead new) → NeverCloses (ahead old)
never_stretch {old} {new} {front} p r = subst NeverCloses (sym p.text) (never_front front (ahead new) p.stretch r)

pub stretch_shorter : {kind : Class} {old new : Cursor} {front : List ℕ} → PassesStretch kind old front new → length (ahead new) ≤ length (ahead old)
stretch_shorter {kind} {old} {new} {front} p = omega (arith, length-append front (ahead new), ap length p.text)
