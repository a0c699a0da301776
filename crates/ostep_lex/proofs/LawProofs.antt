-- The laws: there is at most one list of tokens, none if there is a fault, and spans encode tokens.
use Rattle.std.proofs.Common.{ℕ, Bool, true, false, ◌||◌, List, ◌∷◌, ◌≡◌, ◌⊎◌, inl, inr, ⊎_elim, refl, sym, subst, zero, suc, ◌+◌, ◌*◌, cond, [], ◌++◌, length, ap, ◌∙◌, arith, append_assoc, length-append}
use Rattle.std.specs.Prelude.{codes, nat_eq}
use Rattle.std.specs.List.{starts_with}
use Rattle.std.specs.Char.{is_digit, digit_value}
use Rattle.ostep_lex.specs.declared.fault.LexFault.{LexFault}
use Rattle.ostep_lex.specs.declared.fault.LexFault.TheVariants.{BadUtf8, XmlForm, UnexpectedCharacter, UnclosedString, UnclosedComment, BadEscape, OctalRange, OddData, BadData, BadUtf16, OutOfMemory}
use Rattle.ostep_lex.specs.Encoding.{Offsets, offsets_of, Spells, StopsAt, offset, octets_of, encoding_of, mark_of}
use Rattle.ostep_lex.specs.Cursor.{UnlessMemory}
use Rattle.ostep_lex.specs.Character.{is_white}
use Rattle.ostep_lex.specs.Gap
use Rattle.ostep_lex.specs.Gap.{Gap, GapPiece, LineComment, BlockComment}
use Rattle.ostep_lex.specs.Octets.{Octets, OctetsPiece}
use Rattle.ostep_lex.specs.Lexeme
use Rattle.ostep_lex.specs.Lexeme.{Lexeme, IsToken, Located}
use Rattle.ostep_lex.specs.Lexing.{Lexes, none, next, HasTokens, HasNoTokens}
use Rattle.ostep_lex.specs.Stands
use Rattle.ostep_lex.specs.Stands.{White, is_of_data, begins_white, begins_xml, EscapeFault, QuotedFault, OctetsFault, FaultAt, FaultAfterGap, HasFault, HasXml, StandsInTokens}
use Rattle.ostep_lex.specs.Laws.{OneLexing, TokensContinue, FaultyHasNone}
use Rattle.ostep_lex.specs.Digits.{number_from}
use Rattle.ostep_lex.specs.Quoted
use Rattle.ostep_lex.specs.Quoted.{Run, Escape, Piece, Quoted}
use Rattle.ostep_lex.specs.Octets
use Rattle.ostep_lex.specs.Spans.{StandsFirst, StandInTurn, HasSpans}
use Rattle.ostep_lex.proofs.TokenLemmas.{GapPiece-same, IsToken-gapless, other-octets, Lexes-same, LexesTo-continue, after-fault}
use Rattle.ostep_lex.proofs.TextLemmas.{after_mark, Spells-same, StopsAt-none, octets_of-append}

-- tokens of one text are tokens of another text with the same bytes
pub lexes_at : {octets text : List ℕ} {tokens : List Located} → Spells octets text → HasTokens octets tokens → Lexes (offsets_of octets) text tokens
lexes_at {octets} {tokens = tokens} s h = subst (λ x. Lexes (offsets_of octets) x tokens) (Spells-same h.spells s) h.lexes

pub one_lexing : OneLexing
one_lexing octets tokens others t o = Lexes-same (lexes_at o.spells t) o.lexes

pub tokens_continue : TokensContinue
tokens_continue octets tokens all rest b a =
    let c = LexesTo-continue b.lexes (lexes_at b.spells a) in
    record { others = c.0; first = c.1; lexes = c.2 }

pub HasFault-none : {octets : List ℕ} {fault : LexFault} → HasFault octets fault → HasNoTokens octets
HasFault-none {octets} h tokens t = after-fault h.stands (tokens_continue octets h.tokens tokens h.rest h.before t).lexes

-- whitespace at the start of a text precedes all of its tokens
white_piece : {c : ℕ} {rest after : List ℕ} → is_white c ≡ true → GapPiece (c ∷ rest) after → after ≡ rest
white_piece w g = GapPiece-same g (Gap.white w)

white_gap : {c : ℕ} {rest end : List ℕ} → is_white c ≡ true → Gap (c ∷ rest) end → Gap rest end ⊎ (end ≡ c ∷ rest)
white_gap w Gap.none = inr refl
white_gap {end = end} w (Gap.piece g s) = inl (subst (λ x. Gap x end) (white_piece w g) s)

no_white : {c : ℕ} {text rest after : List ℕ} {l : Lexeme} → is_white c ≡ true → IsToken text l after → text ≡ c ∷ rest → ⊥
no_white {rest = rest} w t e = IsToken-gapless t rest (subst (λ x. GapPiece x rest) (sym e) (Gap.white w))

after_white : {p : Offsets} {c : ℕ} {rest : List ℕ} {tokens : List Located} → is_white c ≡ true → Lexes p (c ∷ rest) tokens → Lexes p rest tokens
after_white w (none g) = ⊎_elim (λ h. none h) (λ e. cc) (white_gap w g)
after_white w (next g t r) = ⊎_elim (λ h. next h t r) (λ e. absurd (no_white w t e)) (white_gap w g)

pub White-lexes : {p : Offsets} {text from : List ℕ} {tokens : List Located} → White text from → Lexes p text tokens → Lexes p from tokens
White-lexes Stands.none l = l
White-lexes (Stands.more w r) l = White-lexes r (after_white w l)

-- no token begins like an XML property list
angle-piece : {rest after : List ℕ} → GapPiece (60 ∷ rest) after → ⊥
angle-piece (Gap.white w) = cc

angle-octets : {c : ℕ} {rest octets after : List ℕ} → is_of_data c ≡ false → Octets (c ∷ rest) octets after → ⊥
angle-octets d Octets.close = cc
angle-octets d (Octets.piece e r) = other-octets d e

angle-token : {c : ℕ} {rest after : List ℕ} {l : Lexeme} → is_of_data c ≡ false → IsToken (60 ∷ c ∷ rest) l after → ⊥
angle-token d (Lexeme.mark m) = cc
angle-token d (Lexeme.run t b r) = cc
angle-token d (Lexeme.quoted q r) = cc
angle-token d (Lexeme.data_token r) = angle-octets d r

angle-gap : {rest end : List ℕ} → Gap (60 ∷ rest) end → end ≡ 60 ∷ rest
angle-gap Gap.none = refl
angle-gap (Gap.piece g s) = absurd (angle-piece g)

angle-lexes : {p : Offsets} {c : ℕ} {rest : List ℕ} {tokens : List Located} → is_of_data c ≡ false → Lexes p (60 ∷ c ∷ rest) tokens → ⊥
angle-lexes d (none g) = cc (angle-gap g)
angle-lexes d (next {after = after} {lexeme = l} g t r) = angle-token d (subst (λ x. IsToken x l after) (angle-gap g) t)

begins-lexes : {p : Offsets} {text : List ℕ} {tokens : List Located} (c : ℕ) (rest : List ℕ) → text ≡ 60 ∷ c ∷ rest → is_of_data c ≡ false → Lexes p text tokens → ⊥
begins-lexes {p} {tokens = tokens} c rest e d l = angle-lexes d (subst (λ x. Lexes p x tokens) e l)

either : (a b : Bool) → (a || b) ≡ true → (a ≡ true) ⊎ (b ≡ true)
either true b e = inl refl
either false b e = inr e

-- what begins like one begins with `<` and a character not allowed in data
record IsAngled (text : List ℕ) : Type 0 where
  second : ℕ
  rest : List ℕ
  first : text ≡ 60 ∷ second ∷ rest
  other : is_of_data second ≡ false

xml-angled : (text : List ℕ) → begins_xml text ≡ true → IsAngled text
xml-angled text e =
    ⊎_elim
    (λ f. ⊎_elim
    (λ g. record { second = 63; rest = _; first = after_mark text (codes "<?xml") g; other = refl })
    (λ g. record { second = 33; rest = _; first = after_mark text (codes "<!DOCTYPE") g; other = refl })
    (either (starts_with nat_eq text (codes "<?xml")) (starts_with nat_eq text (codes "<!DOCTYPE")) f))
    (λ f. record { second = 112; rest = _; first = after_mark text (codes "<plist") f; other = refl })
    (either (starts_with nat_eq text (codes "<?xml") || starts_with nat_eq text (codes "<!DOCTYPE")) (starts_with nat_eq text (codes "<plist")) e)

xml-lexes : {p : Offsets} {text : List ℕ} {tokens : List Located} → begins_xml text ≡ true → Lexes p text tokens → ⊥
xml-lexes {text = text} e l = let a = xml-angled text e in begins-lexes a.second a.rest a.first a.other l

-- the first character that is not whitespace is unique
pub white_same : {c : ℕ} {text from after : List ℕ} → White text from → begins_white from ≡ false → is_white c ≡ false → White text (c ∷ after) → from ≡ c ∷ after
white_same Stands.none f n Stands.none = refl
white_same Stands.none f n (Stands.more w r) = cc
white_same (Stands.more w r) f n Stands.none = cc
white_same (Stands.more w r) f n (Stands.more v s) = white_same r f n s

-- an XML property list is after all whitespace
pub White-xml : {text from other : List ℕ} → White text from → begins_white from ≡ false → White text other → begins_xml other ≡ true → from ≡ other
White-xml {other = other} w n v e =
    let a = xml-angled other e in
    white_same w n refl (subst (White _) a.first v) ∙ sym a.first

pub HasXml-none : {octets : List ℕ} {at : ℕ} → HasXml octets at → HasNoTokens octets
HasXml-none h tokens t = xml-lexes h.begins (White-lexes h.white (lexes_at h.spells t))

pub StopsAt-tokens : {octets : List ℕ} {at : ℕ} → StopsAt octets at → HasNoTokens octets
StopsAt-tokens s tokens t = StopsAt-none s t.spells

pub faulty_has_none : FaultyHasNone
faulty_has_none octets (BadUtf8 at) s n = StopsAt-tokens s.1
faulty_has_none octets (BadUtf16 at) s n = StopsAt-tokens s.1
faulty_has_none octets (XmlForm at) s n = HasXml-none s
faulty_has_none octets OutOfMemory s n = absurd (n refl)
faulty_has_none octets _ s n = HasFault-none s

-- a fault that is found when tokens are read is true of the bytes
escape-stands : {octets : List ℕ} {p : Offsets} {start : ℕ} {text : List ℕ} {f : LexFault} → EscapeFault p start text f → HasFault octets f → StandsInTokens octets f
escape-stands Stands.cut_escape h = h
escape-stands _ h = h

quoted-stands : {octets : List ℕ} {p : Offsets} {start mark : ℕ} {text : List ℕ} {f : LexFault} → QuotedFault p start mark text f → HasFault octets f → StandsInTokens octets f
quoted-stands Stands.cut_string h = h
quoted-stands (Stands.escape e) h = escape-stands e h
quoted-stands (Stands.piece e f) h = quoted-stands f h

data-stands : {octets : List ℕ} {p : Offsets} {text : List ℕ} {f : LexFault} → OctetsFault p text f → HasFault octets f → StandsInTokens octets f
data-stands Stands.cut_data h = h
data-stands (Stands.other d) h = h
data-stands (Stands.odd d e) h = h
data-stands (Stands.piece e f) h = data-stands f h

after-stands : {octets : List ℕ} {p : Offsets} {text : List ℕ} {f : LexFault} → FaultAfterGap p text f → HasFault octets f → StandsInTokens octets f
after-stands (Stands.gap g (Stands.quoted q f)) h = quoted-stands f h
after-stands (Stands.gap g (Stands.data_token f)) h = data-stands f h
after-stands _ h = h

pub stands_in : {octets : List ℕ} {fault : LexFault} → HasFault octets fault → StandsInTokens octets fault
stands_in h = after-stands h.stands h

-- any fault but out of memory, of which nothing is stated
memory_or : (octets : List ℕ) (P : LexFault → Type 0) → ((fault : LexFault) → P fault → StandsInTokens octets fault) → (fault : LexFault) → UnlessMemory P fault → StandsInTokens octets fault
memory_or octets P h OutOfMemory u = tt
memory_or octets P h (BadUtf8 at) u = h (BadUtf8 at) (u (λ e. cc))
memory_or octets P h (BadUtf16 at) u = h (BadUtf16 at) (u (λ e. cc))
memory_or octets P h (XmlForm at) u = h (XmlForm at) (u (λ e. cc))
memory_or octets P h (UnexpectedCharacter at) u = h (UnexpectedCharacter at) (u (λ e. cc))
memory_or octets P h (UnclosedString at) u = h (UnclosedString at) (u (λ e. cc))
memory_or octets P h (UnclosedComment at) u = h (UnclosedComment at) (u (λ e. cc))
memory_or octets P h (BadEscape at) u = h (BadEscape at) (u (λ e. cc))
memory_or octets P h (OctalRange at) u = h (OctalRange at) (u (λ e. cc))
memory_or octets P h (OddData at) u = h (OddData at) (u (λ e. cc))
memory_or octets P h (BadData at) u = h (BadData at) (u (λ e. cc))

pub stands_unless : (octets : List ℕ) (fault : LexFault) → UnlessMemory (HasFault octets) fault → StandsInTokens octets fault
stands_unless octets fault u = memory_or octets (HasFault octets) (λ f h. stands_in h) fault u

-- the rest is a suffix of the text
abbrev Ends : List ℕ → List ℕ → Type 0
Ends text rest = (front : List ℕ) × (text ≡ front ++ rest)

whole : (text : List ℕ) → Ends text text
whole text = ([], refl)

one : (c : ℕ) {text rest : List ℕ} → Ends text rest → Ends (c ∷ text) rest
one c e = (c ∷ e.0, ap (λ w. c ∷ w) e.1)

chain : {a b c : List ℕ} → Ends a b → Ends b c → Ends a c
chain {a} {b} {c} e f = (e.0 ++ f.0, e.1 ∙ ap (λ w. e.0 ++ w) f.1 ∙ sym (append_assoc e.0 f.0 c))

line_ends : {text rest : List ℕ} → LineComment text rest → Ends text rest
line_ends Gap.text_end = whole []
line_ends (Gap.line_end {c = c} {rest = rest} t) = whole (c ∷ rest)
line_ends (Gap.more {c = c} t r) = one c (line_ends r)

block_ends : {text rest : List ℕ} → BlockComment text rest → Ends text rest
block_ends (Gap.close {rest = rest}) = one 42 (one 47 (whole rest))
block_ends (Gap.more {c = c} t r) = one c (block_ends r)

piece_ends : {text rest : List ℕ} → GapPiece text rest → Ends text rest
piece_ends (Gap.white {c = c} {rest = rest} w) = one c (whole rest)
piece_ends (Gap.line r) = one 47 (one 47 (line_ends r))
piece_ends (Gap.block r) = one 47 (one 42 (block_ends r))

gap_ends : {text rest : List ℕ} → Gap text rest → Ends text rest
gap_ends (Gap.none {rest = rest}) = whole rest
gap_ends (Gap.piece p g) = chain (piece_ends p) (gap_ends g)

run_ends : {text units rest : List ℕ} → Run text units rest → Ends text rest
run_ends (Quoted.stop {rest = rest} e) = whole rest
run_ends (Quoted.more {c = c} e r) = one c (run_ends r)

number_ends : (base count high : ℕ) (text : List ℕ) → Ends text (number_from base count high text).after
number_ends base zero high text = whole text
number_ends base (suc count) high [] = whole []
number_ends base (suc count) high (c ∷ rest) = either (is_digit c base) (number_ends base count (high * base + digit_value c) rest)
  where
    either : (b : Bool) → Ends rest (number_from base count (high * base + digit_value c) rest).after
        → Ends (c ∷ rest) (cond b (number_from base count (high * base + digit_value c) rest) (record { value = high; after = c ∷ rest })).after
    either true h = one c h
    either false h = whole (c ∷ rest)

escape_ends : {text units rest : List ℕ} → Escape text units rest → Ends text rest
escape_ends (Quoted.octal {text = text} d l) = number_ends 8 3 0 text
escape_ends (Quoted.unit {text = text} d) = one 85 (number_ends 16 4 0 text)
escape_ends (Quoted.character {c = c} {rest = rest} o u) = one c (whole rest)

string_piece_ends : {mark : ℕ} {text units rest : List ℕ} → Piece mark text units rest → Ends text rest
string_piece_ends (Quoted.raw {c = c} {rest = rest} r) = one c (whole rest)
string_piece_ends (Quoted.escape e) = one 92 (escape_ends e)

quoted_ends : {mark : ℕ} {text units rest : List ℕ} → Quoted mark text units rest → Ends text rest
quoted_ends (Quoted.close {c = c} {rest = rest} e) = one c (whole rest)
quoted_ends (Quoted.piece p r) = chain (string_piece_ends p) (quoted_ends r)

octets_piece_ends : {text octets rest : List ℕ} → OctetsPiece text octets rest → Ends text rest
octets_piece_ends (Octets.white {c = c} {rest = rest} w) = one c (whole rest)
octets_piece_ends (Octets.pair {c = c} {d = d} {rest = rest} h i) = one c (one d (whole rest))

octets_ends : {text octets rest : List ℕ} → Octets text octets rest → Ends text rest
octets_ends (Octets.close {rest = rest}) = one 62 (whole rest)
octets_ends (Octets.piece p r) = chain (octets_piece_ends p) (octets_ends r)

token_ends : {text rest : List ℕ} {l : Lexeme} → IsToken text l rest → Ends text rest
token_ends (Lexeme.mark {c = c} {rest = rest} m) = one c (whole rest)
token_ends (Lexeme.run {c = c} t b r) = one c (run_ends r)
token_ends (Lexeme.quoted {c = c} q r) = one c (quoted_ends r)
token_ends (Lexeme.data_token r) = one 60 (octets_ends r)

-- the offset of the rest, from the offset of the text
place_after : (p : Offsets) (at : ℕ) (text front rest : List ℕ) → p.end ≡ at + length (octets_of p.encoding text) → text ≡ front ++ rest
    → offset p rest ≡ at + length (octets_of p.encoding front)
place_after p at text front rest e t =
    omega (arith, ap length (ap (octets_of p.encoding) t ∙ octets_of-append p.encoding front rest), length-append (octets_of p.encoding front) (octets_of p.encoding rest))

-- the offset of the end of the input, from that of the rest
end_after : (p : Offsets) (at : ℕ) (text front rest : List ℕ) → p.end ≡ at + length (octets_of p.encoding text) → text ≡ front ++ rest
    → p.end ≡ offset p rest + length (octets_of p.encoding rest)
end_after p at text front rest e t =
    omega (arith, ap length (ap (octets_of p.encoding) t ∙ octets_of-append p.encoding front rest), length-append (octets_of p.encoding front) (octets_of p.encoding rest))

first : (p : Offsets) (at : ℕ) (text from after : List ℕ) (l : Lexeme) → p.end ≡ at + length (octets_of p.encoding text) → Gap text from → IsToken from l after
    → StandsFirst p.encoding at (octets_of p.encoding text) (record { lexeme = l; start = offset p from; end = offset p after }) (octets_of p.encoding after)
first p at text from after l e g t =
    let front = gap_ends g in
    let piece = token_ends t in
    let from_is : from ≡ piece.0 ++ after = piece.1 in
    let text_is : text ≡ front.0 ++ (piece.0 ++ after) = front.1 ∙ ap (λ w. front.0 ++ w) from_is in
    let gap : Gap (front.0 ++ (piece.0 ++ after)) (piece.0 ++ after) = subst (λ x. Gap x (piece.0 ++ after)) text_is (subst (λ x. Gap text x) from_is g) in
    record {
      gap = front.0;
      piece = piece.0;
      after = after;
      is_gap = gap;
      is_token = subst (λ x. IsToken x l after) from_is t;
      spelled = ap (octets_of p.encoding) text_is ∙ octets_of-append p.encoding front.0 (piece.0 ++ after)
          ∙ ap (λ w. octets_of p.encoding front.0 ++ w) (octets_of-append p.encoding piece.0 after);
      others_are = refl;
      start = place_after p at text front.0 from e front.1;
      end = place_after p (offset p from) from piece.0 after (end_after p at text front.0 from e front.1) from_is;
    }

in_turn : (p : Offsets) (at : ℕ) {text : List ℕ} {tokens : List Located} → p.end ≡ at + length (octets_of p.encoding text) → Lexes p text tokens
    → StandInTurn p.encoding at (octets_of p.encoding text) tokens
in_turn p at {text} e (none g) = (text, g, refl)
in_turn p at {text} e (next {from = from} {after = after} {lexeme = l} g t r) =
    let both = chain (gap_ends g) (token_ends t) in
    (octets_of p.encoding after, first p at text from after l e g t, in_turn p (offset p after) (end_after p at text both.0 after e both.1) r)

pub HasTokens-spans : {octets : List ℕ} {tokens : List Located} → HasTokens octets tokens → HasSpans octets tokens
HasTokens-spans {octets} {tokens} h = record {
  after = octets_of (encoding_of octets) h.text;
  marked = h.spells.spelled;
  in_turn = in_turn (offsets_of octets) (length (mark_of octets))
      (ap length h.spells.spelled ∙ length-append (mark_of octets) (octets_of (encoding_of octets) h.text)) h.lexes;
}
