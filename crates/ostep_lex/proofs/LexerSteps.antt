-- A step over a gap or a token, from an equation for the first character, and the lexer's steps.
use Rattle.std.proofs.Common.{ℕ, ◌≤◌, true, false, List, [], ◌∷◌, ◌≡◌, length, sym, ap, subst, ◌∙◌, arith, Bool, ◌==◌, Some, inl, inr, refl, None, ◌<◌, ◌++◌, map, append-nil}
use Rattle.std.proofs.lemmas.Bool.{cases_Bool}
use Rattle.std.proofs.lemmas.Bool.Decides.{nat_tests}
use Rattle.std.proofs.lemmas.List.{map-append}
use Rattle.ostep_lex.specs.Character.{is_white, is_line_end, is_run, is_quote}
use Rattle.ostep_lex.specs.Gap
use Rattle.ostep_lex.specs.Gap.{LineComment, BlockComment, NeverCloses, GapPiece, Gap, closes_comment, begins_gap, begins_comment}
use Rattle.ostep_lex.specs.declared.cursor.Cursor.{Cursor}
use Rattle.ostep_lex.specs.Encoding.{offset, Offsets, offsets_of}
use Rattle.ostep_lex.specs.Cursor.{ahead, offsets_in, offset_at, SameInput, PassesPiece, PassesGap, PassesToken, Opens, IsAfter, UnlessMemory, PassesStretch, PassesRun, PassesQuoted}
use Rattle.ostep_lex.specs.declared.fault.LexFault.TheVariants.{UnclosedComment, UnexpectedCharacter}
use Rattle.ostep_lex.specs.Stands.{FaultAt, White, LacksMark, QuotedFault, OctetsFault, begins_other, begins_white, FaultAfterGap, HasFault, HasXml, begins_xml, StandsInTokens}
use Rattle.ostep_lex.specs.Stands
use Rattle.ostep_lex.specs.Lexeme.{Lexeme, mark_token, IsToken, Located, located}
use Rattle.ostep_lex.specs.Quoted
use Rattle.ostep_lex.specs.Quoted.{Run, Quoted}
use Rattle.ostep_lex.specs.Octets.{Octets}
use Rattle.ostep_lex.specs.Lexeme
use Rattle.ostep_lex.specs.declared.fault.LexFault.{LexFault}
use Rattle.ostep_lex.specs.declared.token.Token.{Token}
use Rattle.ostep_lex.specs.Lexing.{LexesTo, here, HasTokens, HasNoTokens}
use Rattle.ostep_lex.specs.declared.stretch.Class.TheVariants.{Run as RunClass, Raw}
use Rattle.ostep_lex.proofs.TokenLemmas.{or_left, or_right, mark-white, LexesTo-more, LexesTo-all, white-run}
use Rattle.ostep_lex.proofs.LawProofs.{stands_unless, HasFault-none, White-xml, white_same}
use Rattle.ostep_lex.proofs.TextLemmas.{Spells-same}
use Rattle.ostep_lex.proofs.PieceSteps.{piece_shorter, octets_piece_shorter, quoted_close}
use Rattle.ostep_lex.proofs.StretchLemmas.{run_stretch, quoted_stretch}

pub line_more : {c : ℕ} {text rest end : List ℕ} → text ≡ c ∷ rest → is_line_end c ≡ false → LineComment rest end → LineComment text end
line_more {end = end} e t r = subst (λ x. LineComment x end) (sym e) (Gap.more t r)

pub line_stop : {c : ℕ} {text rest : List ℕ} → text ≡ c ∷ rest → is_line_end c ≡ true → LineComment text text
line_stop e t = subst (λ x. LineComment x x) (sym e) (Gap.line_end t)

pub line_none : {text : List ℕ} → text ≡ [] → LineComment text text
line_none e = subst (λ x. LineComment x x) (sym e) Gap.text_end

pub block_more : {c : ℕ} {text rest end : List ℕ} → text ≡ c ∷ rest → closes_comment text ≡ false → BlockComment rest end → BlockComment text end
block_more {c} {text} {rest} {end} e t r = subst (λ x. BlockComment x end) (sym e) (Gap.more (ap closes_comment (sym e) ∙ t) r)

pub never_more : {c : ℕ} {text rest : List ℕ} → text ≡ c ∷ rest → closes_comment text ≡ false → NeverCloses rest → NeverCloses text
never_more e t r = subst NeverCloses (sym e) (Gap.more (ap closes_comment (sym e) ∙ t) r)

pub block_close : {text end : List ℕ} → text ≡ 42 ∷ 47 ∷ end → BlockComment text end
block_close {end = end} e = subst (λ x. BlockComment x end) (sym e) Gap.close

pub never_none : {text : List ℕ} → text ≡ [] → NeverCloses text
never_none e = subst NeverCloses (sym e) Gap.text_end

-- a step over a gap shortens the text
pub line_shorter : {text end : List ℕ} → LineComment text end → length end ≤ length text
line_shorter (Gap.more t r) = let h = line_shorter r in omega (arith, h)
line_shorter _ = omega arith

pub block_shorter : {text end : List ℕ} → BlockComment text end → length end ≤ length text
block_shorter Gap.close = omega arith
block_shorter (Gap.more t r) = let h = block_shorter r in omega (arith, h)

pub piece_white : (old new : Cursor) (c : ℕ) → ahead old ≡ c ∷ ahead new → is_white c ≡ true → SameInput old new → PassesPiece old new
piece_white old new c e w i = record {
  piece = subst (λ x. GapPiece x (ahead new)) (sym e) (Gap.white w);
  input = i;
  shorter = omega (arith, ap length e);
}

pub piece_line : (old text new : Cursor) → ahead old ≡ 47 ∷ 47 ∷ ahead text → LineComment (ahead text) (ahead new) → SameInput old new → PassesPiece old new
piece_line old text new e r i = record {
  piece = subst (λ x. GapPiece x (ahead new)) (sym e) (Gap.line r);
  input = i;
  shorter = let h = line_shorter r in omega (arith, ap length e, h);
}

pub piece_block : (old text new : Cursor) → ahead old ≡ 47 ∷ 42 ∷ ahead text → BlockComment (ahead text) (ahead new) → SameInput old new → PassesPiece old new
piece_block old text new e r i = record {
  piece = subst (λ x. GapPiece x (ahead new)) (sym e) (Gap.block r);
  input = i;
  shorter = let h = block_shorter r in omega (arith, ap length e, h);
}

pub comment_fault : (cursor : Cursor) (text : List ℕ) (at : ℕ) → ahead cursor ≡ 47 ∷ 42 ∷ text → NeverCloses text → at ≡ offset_at cursor
    → FaultAt (offsets_in cursor) (ahead cursor) (UnclosedComment at)
comment_fault cursor text at e n p =
    subst (λ x. FaultAt (offsets_in cursor) x (UnclosedComment at)) (sym e)
    (subst (λ q. FaultAt (offsets_in cursor) (47 ∷ 42 ∷ text) (UnclosedComment q)) (sym (p ∙ ap (offset (offsets_in cursor)) e)) (Stands.comment n))

pub white_more : {c : ℕ} {text rest end : List ℕ} → text ≡ c ∷ rest → is_white c ≡ true → White rest end → White text end
white_more {end = end} e w r = subst (λ x. White x end) (sym e) (Stands.more w r)

pub white_gap : {text rest : List ℕ} → White text rest → Gap text rest
white_gap Stands.none = Gap.none
white_gap (Stands.more w r) = Gap.piece (Gap.white w) (white_gap r)

not_white : (c : ℕ) (lexeme : Lexeme) → mark_token c ≡ Some lexeme → is_white c ≡ false
not_white c lexeme m = elim (cases_Bool (is_white c)) [ inl w ↦ absurd (mark-white c lexeme m w) | inr n ↦ n ]

unequal : (n : ℕ) → (n == n) ≡ false → ⊥
unequal n e = grind (arith, nat_tests)

head_or : List ℕ → ℕ
head_or [] = 0
head_or (c ∷ rest) = c

other_first : (mark c : ℕ) (rest after : List ℕ) → (c == mark) ≡ false → c ∷ rest ≡ mark ∷ after → ⊥
unfolding head_or
other_first mark c rest after d e = unequal mark (subst (λ n. (n == mark) ≡ false) (ap head_or e) d)

-- the mark does not follow whitespace if another character, or nothing, does
lacks : {text from : List ℕ} (mark : ℕ) → White text from → begins_white from ≡ false → ((after : List ℕ) → from ≡ mark ∷ after → ⊥) → LacksMark mark text
lacks mark w f other lexeme after m r = other after (white_same w f (not_white mark lexeme m) r)

pub lacks_other : {text from rest : List ℕ} (mark c : ℕ) → White text from → from ≡ c ∷ rest → is_white c ≡ false → (c == mark) ≡ false → LacksMark mark text
lacks_other {from = from} mark c w e n d = lacks mark w (subst (λ t. begins_white t ≡ false) (sym e) n) (λ after s. other_first mark c _ after d (sym e ∙ s))

pub lacks_all : {text from : List ℕ} (mark : ℕ) → White text from → from ≡ [] → LacksMark mark text
lacks_all mark w e = lacks mark w (subst (λ t. begins_white t ≡ false) (sym e) refl) (λ after s. cc (sym e ∙ s))

pub token_mark : (c : ℕ) (l : Lexeme) (text rest : List ℕ) → text ≡ c ∷ rest → mark_token c ≡ Some l → IsToken text l rest
token_mark c l text rest e m = subst (λ x. IsToken x l rest) (sym e) (Lexeme.mark m)

run_here : {c : ℕ} {rest units end : List ℕ} → is_run c ≡ true → begins_comment (c ∷ rest) ≡ false → Run (c ∷ rest) units end → IsToken (c ∷ rest) (Lexeme.text units) end
run_here t b (Quoted.stop f) = cc
run_here t b (Quoted.more u r) = Lexeme.run u b r

pub token_run : (c : ℕ) (text rest units end : List ℕ) → text ≡ c ∷ rest → is_run c ≡ true → begins_gap text ≡ false → Run text units end → IsToken text (Lexeme.text units) end
token_run c text rest units end e t b r =
    let none = or_right (is_white c) (begins_comment (c ∷ rest)) (ap begins_gap (sym e) ∙ b) in
    subst (λ x. IsToken x (Lexeme.text units) end) (sym e) (run_here t none (subst (λ x. Run x units end) e r))

pub token_quoted : (c : ℕ) (text rest units end : List ℕ) → text ≡ c ∷ rest → is_quote c ≡ true → Quoted c rest units end → IsToken text (Lexeme.text units) end
token_quoted c text rest units end e q r = subst (λ x. IsToken x (Lexeme.text units) end) (sym e) (Lexeme.quoted q r)

pub token_data : (c : ℕ) (text rest octets end : List ℕ) → text ≡ c ∷ rest → c ≡ 60 → Octets rest octets end → IsToken text (Lexeme.octets octets) end
token_data c text rest octets end e l r = subst (λ x. IsToken x (Lexeme.octets octets) end) (sym (e ∙ ap (λ d. d ∷ rest) l)) (Lexeme.data_token r)

pub quoted_fault : (p : Offsets) (start c : ℕ) (text rest : List ℕ) (fault : LexFault) → text ≡ c ∷ rest → is_quote c ≡ true → start ≡ offset p text
    → QuotedFault p start c rest fault → FaultAt p text fault
quoted_fault p start c text rest fault e q a f =
    subst (λ x. FaultAt p x fault) (sym e) (Stands.quoted q (subst (λ n. QuotedFault p n c rest fault) (a ∙ ap (offset p) e) f))

pub data_fault : (p : Offsets) (c : ℕ) (text rest : List ℕ) (fault : LexFault) → text ≡ c ∷ rest → c ≡ 60 → OctetsFault p rest fault → FaultAt p text fault
data_fault p c text rest fault e l f = subst (λ x. FaultAt p x fault) (sym (e ∙ ap (λ d. d ∷ rest) l)) (Stands.data_token f)

pub unexpected_fault : (p : Offsets) (at c : ℕ) (text rest : List ℕ) → text ≡ c ∷ rest → mark_token c ≡ None → is_run c ≡ false → is_quote c ≡ false
    → (c == 60) ≡ false → begins_gap text ≡ false → at ≡ offset p text → FaultAt p text (UnexpectedCharacter at)
unexpected_fault p at c text rest e m r q l b a =
    let white = or_left (is_white c) (begins_comment (c ∷ rest)) (ap begins_gap (sym e) ∙ b) in
    let other : begins_other c ≡ false = rw (white, r, q, l) refl in
    rw (a, e) (Stands.unexpected m other)

gap_piece_shorter : {text rest : List ℕ} → GapPiece text rest → length rest ≤ length text
gap_piece_shorter (Gap.white w) = omega arith
gap_piece_shorter (Gap.line r) = let h = line_shorter r in omega (arith, h)
gap_piece_shorter (Gap.block r) = let h = block_shorter r in omega (arith, h)

gap_shorter : {text rest : List ℕ} → Gap text rest → length rest ≤ length text
gap_shorter Gap.none = omega arith
gap_shorter (Gap.piece p g) = let h = gap_piece_shorter p in let k = gap_shorter g in omega (arith, h, k)

run_shorter : {text units rest : List ℕ} → Run text units rest → length rest ≤ length text
run_shorter (Quoted.stop e) = omega arith
run_shorter (Quoted.more e r) = let h = run_shorter r in omega (arith, h)

quoted_shorter : {mark : ℕ} {text units rest : List ℕ} → Quoted mark text units rest → length rest ≤ length text
quoted_shorter (Quoted.close e) = omega arith
quoted_shorter (Quoted.piece p r) = let h = piece_shorter p in let k = quoted_shorter r in omega (arith, h, k)

octets_shorter : {text octets rest : List ℕ} → Octets text octets rest → length rest ≤ length text
octets_shorter Octets.close = omega arith
octets_shorter (Octets.piece p r) = let h = octets_piece_shorter p in let k = octets_shorter r in omega (arith, h, k)

token_shorter : {text rest : List ℕ} {l : Lexeme} → IsToken text l rest → length rest < length text
token_shorter (Lexeme.mark m) = omega arith
token_shorter (Lexeme.run t b r) = let h = run_shorter r in omega (arith, h)
token_shorter (Lexeme.quoted q r) = let h = quoted_shorter r in omega (arith, h)
token_shorter (Lexeme.data_token r) = let h = octets_shorter r in omega (arith, h)

-- a gap and a token with its span
pub record PassesPlaced (token : Located) (old new : Cursor) : Type 0 where
  pub from : List ℕ
  pub gap : Gap (ahead old) from
  pub token_at : IsToken from token.lexeme (ahead new)
  pub start : token.start ≡ offset (offsets_in old) from
  pub end : token.end ≡ offset (offsets_in old) (ahead new)
  pub input : SameInput old new

pub passes_placed : (lexeme : Lexeme) (old start end : Cursor) (a b : ℕ) → PassesGap old start → PassesToken lexeme start end → a ≡ offset_at start → b ≡ offset_at end
    → PassesPlaced (record { lexeme = lexeme; start = a; end = b }) old end
passes_placed lexeme old start end a b g t e f = record {
  from = ahead start;
  gap = g.gap;
  token_at = t.token;
  start = e ∙ ap (λ p. offset p (ahead start)) g.input;
  end = f ∙ ap (λ p. offset p (ahead end)) (t.input ∙ g.input);
  input = t.input ∙ g.input;
}

-- whitespace and a punctuation mark
pub mark_placed : (c : ℕ) (lexeme : Lexeme) (old start end : Cursor) (a b : ℕ) → White (ahead old) (ahead start) → SameInput old start → ahead start ≡ c ∷ ahead end → SameInput start end
    → mark_token c ≡ Some lexeme → a ≡ offset_at start → b ≡ offset_at end → PassesPlaced (record { lexeme = lexeme; start = a; end = b }) old end
mark_placed c lexeme old start end a b w i t j m e f = record {
  from = ahead start;
  gap = white_gap w;
  token_at = token_mark c lexeme (ahead start) (ahead end) t m;
  start = e ∙ ap (λ p. offset p (ahead start)) i;
  end = f ∙ ap (λ p. offset p (ahead end)) (j ∙ i);
  input = j ∙ i;
}

pub placed_shorter : {token : Located} {old new : Cursor} → PassesPlaced token old new → length (ahead new) < length (ahead old)
placed_shorter p = let h = gap_shorter p.gap in let k = token_shorter p.token_at in omega (arith, h, k)

-- one token more, all tokens, and a fault
pub after_more : {octets : List ℕ} {tokens : List Located} {token : Located} {old new : Cursor} → IsAfter octets tokens old → PassesPlaced token old new
    → IsAfter octets (tokens ++ token ∷ []) new
after_more {octets} {tokens} {token} {old} {new} b t =
    let p = offsets_of octets in
    let start : token.start ≡ offset p t.from = t.start ∙ ap (λ q. offset q t.from) b.offsets in
    let end : token.end ≡ offset p (ahead new) = t.end ∙ ap (λ q. offset q (ahead new)) b.offsets in
    record {
      before = record {
        text = b.before.text;
        spells = b.before.spells;
        lexes = subst (λ a. LexesTo p (ahead new) b.before.text (tokens ++ record { lexeme = token.lexeme; start = a; end = token.end } ∷ [])) (sym start)
            (subst (λ z. LexesTo p (ahead new) b.before.text (tokens ++ record { lexeme = token.lexeme; start = offset p t.from; end = z } ∷ [])) (sym end) (LexesTo-more b.before.lexes t.gap t.token_at));
      };
      offsets = t.input ∙ b.offsets;
    }

pub after_all : {octets : List ℕ} {tokens : List Located} {cursor : Cursor} → IsAfter octets tokens cursor → Gap (ahead cursor) [] → HasTokens octets tokens
after_all b g = record { text = b.before.text; spells = b.before.spells; lexes = LexesTo-all b.before.lexes g }

after_at : {octets : List ℕ} {tokens : List Located} {cursor : Cursor} {fault : LexFault} → IsAfter octets tokens cursor
    → FaultAfterGap (offsets_in cursor) (ahead cursor) fault → HasFault octets fault
after_at {tokens = tokens} {cursor = cursor} {fault = fault} b f = record {
  tokens = tokens;
  rest = ahead cursor;
  before = b.before;
  stands = subst (λ p. FaultAfterGap p (ahead cursor) fault) b.offsets f;
}

pub after_stands : {octets : List ℕ} {tokens : List Located} {cursor : Cursor} {fault : LexFault} → IsAfter octets tokens cursor
    → UnlessMemory (FaultAfterGap (offsets_in cursor) (ahead cursor)) fault → StandsInTokens octets fault
after_stands {octets} {fault = fault} b u = stands_unless octets fault (λ n. after_at b (u n))

pub after_none : {octets : List ℕ} {tokens : List Located} {cursor : Cursor} {fault : LexFault} → IsAfter octets tokens cursor
    → UnlessMemory (FaultAfterGap (offsets_in cursor) (ahead cursor)) fault → UnlessMemory (λ f. HasNoTokens octets) fault
after_none b u n = HasFault-none (after_at b (u n))

-- one token more at the end of the tokens found
pub found_more : (found new : List Token) (token : Token) → new ≡ found ++ token ∷ [] → map located found ++ located token ∷ [] ≡ map located new
found_more found new token e = sym (ap (map located) e ∙ map-append located found (token ∷ []))

-- no token precedes the start
pub opens_after : {octets : List ℕ} {cursor : Cursor} → Opens octets cursor → IsAfter octets [] cursor
opens_after {cursor = cursor} o = record { before = record { text = ahead cursor; spells = o.spells; lexes = here }; offsets = o.offsets }

pub opens_other : {octets : List ℕ} (cursor after : Cursor) → Opens octets cursor → White (ahead cursor) (ahead after) → begins_white (ahead after) ≡ false
    → begins_xml (ahead after) ≡ false → (at : ℕ) → ¬ HasXml octets at
opens_other cursor after o w n b at h =
    cc (b, h.begins, ap begins_xml (White-xml w n (subst (λ text. White text h.from) (Spells-same h.spells o.spells) h.white) h.begins))

pub opens_xml : {octets : List ℕ} (cursor after : Cursor) {at : ℕ} → Opens octets cursor → White (ahead cursor) (ahead after) → SameInput cursor after
    → begins_xml (ahead after) ≡ true → at ≡ offset_at after → HasXml octets at
opens_xml {octets} cursor after {at} o w i b a = record {
  text = ahead cursor;
  spells = o.spells;
  from = ahead after;
  white = w;
  begins = b;
  stands = a ∙ ap (λ p. offset p (ahead after)) (i ∙ o.offsets);
}

pub plain_run : {old new : Cursor} {front : List ℕ} → PassesStretch RunClass old front new → Run (ahead new) [] (ahead new) → PassesRun old new front
plain_run {old} {new} {front} p s = record {
  run = subst (λ us. Run (ahead old) us (ahead new)) (append-nil front) (run_stretch p s);
  input = p.input;
}

pub plain_quoted : {mark : ℕ} {old mid new : Cursor} {front : List ℕ} → PassesStretch (Raw mark) old front mid → ahead mid ≡ mark ∷ ahead new → SameInput mid new
    → (mark == mark) ≡ true → PassesQuoted mark old new front
plain_quoted {mark} {old} {mid} {new} {front} p e i same = record {
  quoted = subst (λ us. Quoted mark (ahead old) us (ahead new)) (append-nil front) (quoted_stretch p (quoted_close mark mark (ahead mid) (ahead new) e same));
  input = i ∙ p.input;
}

pub no_comment : (c : ℕ) (rest : List ℕ) → (c == 47) ≡ false → begins_comment (c ∷ rest) ≡ false
no_comment c [] e = refl
no_comment c (d ∷ rest) e = rw e refl

-- no gap begins with a character of an unquoted string other than a slash
pub run_gapless : (c : ℕ) (text rest : List ℕ) → text ≡ c ∷ rest → is_run c ≡ true → (c == 47) ≡ false → begins_gap text ≡ false
run_gapless c text rest e r s =
    let white : is_white c ≡ false = elim (cases_Bool (is_white c)) [ inl w ↦ absurd (white-run c w r) | inr n ↦ n ] in
    ap begins_gap e ∙ rw (white, no_comment c rest s) refl

-- a gap and a token
passes : (lexeme : Lexeme) (old start end : Cursor) → Gap (ahead old) (ahead start) → SameInput old start → PassesToken lexeme start end
    → PassesPlaced (record { lexeme = lexeme; start = offset (offsets_in old) (ahead start); end = offset (offsets_in old) (ahead end) }) old end
passes lexeme old start end g i t = record { from = ahead start; gap = g; token_at = t.token; start = refl; end = refl; input = t.input ∙ i }

pub adds_shorter : (lexeme : Lexeme) (old start end : Cursor) → Gap (ahead old) (ahead start) → SameInput old start → PassesToken lexeme start end → length (ahead end) < length (ahead old)
adds_shorter lexeme old start end g i t = placed_shorter (passes lexeme old start end g i t)
