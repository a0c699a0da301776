-- A text has at most one list of tokens, and none if it has a fault: the classes of characters
-- exclude each other, and gaps and tokens have unique ends.
use Rattle.std.proofs.Common.{ℕ, Bool, true, false, ◌≡◌, ◌||◌, Some, refl, arith, List, subst, ◌<◌, [], ◌∷◌, ◌==◌, ap, ◌++◌, sym}
use Rattle.std.proofs.lemmas.Bool.Decides.{nat_tests}
use Rattle.std.specs.Char.{is_digit}
use Rattle.ostep_lex.specs.Character.{is_white, is_run, is_quote}
use Rattle.ostep_lex.specs.Quoted.{is_raw, Run, Escape, Piece, Quoted}
use Rattle.ostep_lex.specs.Lexeme.{Lexeme, mark_token, IsToken, Located}
use Rattle.ostep_lex.specs.Stands.{is_of_data, begins_other, EscapeFault, QuotedFault, OctetsFault, FaultAt, FaultAfterGap}
use Rattle.ostep_lex.specs.Gap.{LineComment, BlockComment, NeverCloses, GapPiece, Gap}
use Rattle.ostep_lex.specs.declared.fault.LexFault.{LexFault}
use Rattle.ostep_lex.specs.Encoding.{Offsets, offset}
use Rattle.ostep_lex.specs.Digits.{begins_digit, number_from}
use Rattle.ostep_lex.specs.Gap
use Rattle.ostep_lex.specs.Quoted
use Rattle.ostep_lex.specs.Octets
use Rattle.ostep_lex.specs.Octets.{OctetsPiece, Octets}
use Rattle.ostep_lex.specs.Lexeme
use Rattle.ostep_lex.specs.Stands
use Rattle.ostep_lex.specs.Lexing.{Lexes, none, next, LexesTo, here, token}

pub white-run : (c : ℕ) → is_white c ≡ true → is_run c ≡ true → ⊥
white-run c w r = grind (arith, nat_tests)

pub white-quote : (c : ℕ) → is_white c ≡ true → is_quote c ≡ true → ⊥
white-quote c w r = grind (arith, nat_tests)

pub run-quote : (c : ℕ) → is_run c ≡ true → is_quote c ≡ true → ⊥
run-quote c w r = grind (arith, nat_tests)

pub white-hexadecimal : (c : ℕ) → is_white c ≡ true → is_digit c 16 ≡ true → ⊥
white-hexadecimal c w r = grind (arith, nat_tests)

pub mark-white : (c : ℕ) (l : Lexeme) → mark_token c ≡ Some l → is_white c ≡ true → ⊥
mark-white c l m w = grind (arith, nat_tests)

pub mark-run : (c : ℕ) (l : Lexeme) → mark_token c ≡ Some l → is_run c ≡ true → ⊥
mark-run c l m w = grind (arith, nat_tests)

pub mark-quote : (c : ℕ) (l : Lexeme) → mark_token c ≡ Some l → is_quote c ≡ true → ⊥
mark-quote c l m w = grind (arith, nat_tests)

pub quote-backslash : (mark : ℕ) → is_quote mark ≡ true → (92 == mark) ≡ true → ⊥
quote-backslash mark q e = grind (arith, nat_tests)

pub close-raw : (mark c : ℕ) → (c == mark) ≡ true → is_raw mark c ≡ true → ⊥
close-raw mark c e r = grind (arith, nat_tests)

pub or_left : (a b : Bool) → (a || b) ≡ false → a ≡ false
or_left true b e = e
or_left false b e = refl

pub or_right : (a b : Bool) → (a || b) ≡ false → b ≡ false
or_right true false e = refl
or_right _ _ e = e

pub of_data-white : (c : ℕ) → is_of_data c ≡ false → is_white c ≡ true → ⊥
of_data-white c d w = cc (or_left (is_white c) (is_digit c 16) (or_left (is_white c || is_digit c 16) (c == 62) d))

pub of_data-hexadecimal : (c : ℕ) → is_of_data c ≡ false → is_digit c 16 ≡ true → ⊥
of_data-hexadecimal c d w = cc (or_right (is_white c) (is_digit c 16) (or_left (is_white c || is_digit c 16) (c == 62) d))

pub unexpected-white : (c : ℕ) → begins_other c ≡ false → is_white c ≡ true → ⊥
unexpected-white c d w = grind (arith, nat_tests)

pub unexpected-run : (c : ℕ) → begins_other c ≡ false → is_run c ≡ true → ⊥
unexpected-run c d w = grind (arith, nat_tests)

pub unexpected-quote : (c : ℕ) → begins_other c ≡ false → is_quote c ≡ true → ⊥
unexpected-quote c d w = grind (arith, nat_tests)

pub LineComment-same : {text a b : List ℕ} → LineComment text a → LineComment text b → a ≡ b
LineComment-same Gap.text_end Gap.text_end = refl
LineComment-same (Gap.line_end e) (Gap.line_end f) = refl
LineComment-same (Gap.line_end e) (Gap.more f s) = cc
LineComment-same (Gap.more e r) (Gap.line_end f) = cc
LineComment-same (Gap.more e r) (Gap.more f s) = LineComment-same r s

pub BlockComment-same : {text a b : List ℕ} → BlockComment text a → BlockComment text b → a ≡ b
BlockComment-same Gap.close Gap.close = refl
BlockComment-same Gap.close (Gap.more f s) = cc
BlockComment-same (Gap.more e r) Gap.close = cc
BlockComment-same (Gap.more e r) (Gap.more f s) = BlockComment-same r s

pub BlockComment-never : {text a : List ℕ} → NeverCloses text → BlockComment text a → ⊥
BlockComment-never Gap.text_end r = elim r [ ]
BlockComment-never (Gap.more e n) Gap.close = cc
BlockComment-never (Gap.more e n) (Gap.more f r) = BlockComment-never n r

pub GapPiece-same : {text a b : List ℕ} → GapPiece text a → GapPiece text b → a ≡ b
GapPiece-same (Gap.white e) (Gap.white f) = refl
GapPiece-same (Gap.white e) (Gap.line r) = cc
GapPiece-same (Gap.white e) (Gap.block r) = cc
GapPiece-same (Gap.line r) (Gap.white e) = cc
GapPiece-same (Gap.line r) (Gap.line s) = LineComment-same r s
GapPiece-same (Gap.block r) (Gap.white e) = cc
GapPiece-same (Gap.block r) (Gap.block s) = BlockComment-same r s

-- no whitespace and no complete comment is at the text
abbrev pub IsGapless : List ℕ → Type 0
IsGapless text = (after : List ℕ) → GapPiece text after → ⊥

-- two gaps that no gap follows end at the same position
pub Gap-same : {text a b : List ℕ} → Gap text a → Gap text b → IsGapless a → IsGapless b → a ≡ b
Gap-same Gap.none Gap.none g h = refl
Gap-same Gap.none (Gap.piece p s) g h = absurd (g _ p)
Gap-same (Gap.piece p r) Gap.none g h = absurd (h _ p)
Gap-same {b = b} (Gap.piece p r) (Gap.piece q s) g h = Gap-same r (subst (λ x. Gap x b) (GapPiece-same q p) s) g h

-- two readings of one text agree in their meaning, and in what follows
pub record SamePart (u v a b : List ℕ) : Type 0 where
  pub means : u ≡ v
  pub leaves : a ≡ b

pub Run-same : {text u v a b : List ℕ} → Run text u a → Run text v b → SamePart u v a b
Run-same (Quoted.stop e) (Quoted.stop f) = record { means = refl; leaves = refl }
Run-same (Quoted.stop e) (Quoted.more f s) = cc
Run-same (Quoted.more e r) (Quoted.stop f) = cc
Run-same (Quoted.more {c = c} e r) (Quoted.more f s) =
    let h = Run-same r s in record { means = ap (λ w. c ∷ w) h.means; leaves = h.leaves }

pub Escape-same : {text u v a b : List ℕ} → Escape text u a → Escape text v b → SamePart u v a b
Escape-same (Quoted.octal e l) (Quoted.octal f m) = record { means = refl; leaves = refl }
Escape-same (Quoted.octal e l) (Quoted.unit f) = cc
Escape-same (Quoted.octal e l) (Quoted.character f g) = cc
Escape-same (Quoted.unit e) (Quoted.octal f m) = cc
Escape-same (Quoted.unit e) (Quoted.unit f) = record { means = refl; leaves = refl }
Escape-same (Quoted.unit e) (Quoted.character f g) = cc
Escape-same (Quoted.character e l) (Quoted.octal f m) = cc
Escape-same (Quoted.character e l) (Quoted.unit f) = cc
Escape-same (Quoted.character e l) (Quoted.character f m) = record { means = refl; leaves = refl }

Piece-same : {mark : ℕ} {text u v a b : List ℕ} → Piece mark text u a → Piece mark text v b → SamePart u v a b
Piece-same (Quoted.raw e) (Quoted.raw f) = record { means = refl; leaves = refl }
Piece-same (Quoted.raw e) (Quoted.escape s) = cc
Piece-same (Quoted.escape r) (Quoted.raw f) = cc
Piece-same (Quoted.escape r) (Quoted.escape s) = Escape-same r s

-- a closing quote is no piece
close-piece : {mark c : ℕ} {rest u a : List ℕ} → is_quote mark ≡ true → (c == mark) ≡ true → Piece mark (c ∷ rest) u a → ⊥
close-piece {mark} {c} q e (Quoted.raw f) = close-raw mark c e f
close-piece {mark} q e (Quoted.escape s) = quote-backslash mark q e

pub Quoted-same : {mark : ℕ} {text u v a b : List ℕ} → is_quote mark ≡ true → Quoted mark text u a → Quoted mark text v b → SamePart u v a b
Quoted-same q (Quoted.close e) (Quoted.close f) = record { means = refl; leaves = refl }
Quoted-same q (Quoted.close e) (Quoted.piece f s) = absurd (close-piece q e f)
Quoted-same q (Quoted.piece e r) (Quoted.close f) = absurd (close-piece q f e)
Quoted-same {mark} {b = b} q (Quoted.piece e r) (Quoted.piece {more = us} f s) =
    let p = Piece-same f e in
    let h = Quoted-same q r (subst (λ x. Quoted mark x us b) p.leaves s) in
    record { means = cc (p.means, h.means); leaves = h.leaves }

OctetsPiece-same : {text u v a b : List ℕ} → OctetsPiece text u a → OctetsPiece text v b → SamePart u v a b
OctetsPiece-same (Octets.white e) (Octets.white f) = record { means = refl; leaves = refl }
OctetsPiece-same (Octets.white {c = c} e) (Octets.pair f g) = absurd (white-hexadecimal c e f)
OctetsPiece-same (Octets.pair {c = c} e h) (Octets.white f) = absurd (white-hexadecimal c f e)
OctetsPiece-same (Octets.pair e h) (Octets.pair f g) = record { means = refl; leaves = refl }

-- the end of a data token is no piece
greater_than-piece : {rest u a : List ℕ} → OctetsPiece (62 ∷ rest) u a → ⊥
greater_than-piece (Octets.white f) = cc
greater_than-piece (Octets.pair f g) = cc

pub Octets-same : {text u v a b : List ℕ} → Octets text u a → Octets text v b → SamePart u v a b
Octets-same Octets.close Octets.close = record { means = refl; leaves = refl }
Octets-same Octets.close (Octets.piece f s) = absurd (greater_than-piece f)
Octets-same (Octets.piece e r) Octets.close = absurd (greater_than-piece e)
Octets-same {b = b} (Octets.piece e r) (Octets.piece {more = us} f s) =
    let p = OctetsPiece-same f e in
    let h = Octets-same r (subst (λ x. Octets x us b) p.leaves s) in
    record { means = cc (p.means, h.means); leaves = h.leaves }

-- two tokens at one position are equal
pub record SameToken (l m : Lexeme) (a b : List ℕ) : Type 0 where
  pub means : l ≡ m
  pub leaves : a ≡ b

pub IsToken-same : {from a b : List ℕ} {l m : Lexeme} → IsToken from l a → IsToken from m b → SameToken l m a b
IsToken-same (Lexeme.mark e) (Lexeme.mark f) = record { means = cc; leaves = refl }
IsToken-same (Lexeme.mark {c = c} {lexeme = l} e) (Lexeme.run f g s) = absurd (mark-run c l e f)
IsToken-same (Lexeme.mark {c = c} {lexeme = l} e) (Lexeme.quoted f s) = absurd (mark-quote c l e f)
IsToken-same (Lexeme.mark e) (Lexeme.data_token s) = cc
IsToken-same (Lexeme.run {c = c} e i r) (Lexeme.mark {lexeme = l} f) = absurd (mark-run c l f e)
IsToken-same (Lexeme.run {c = c} e i r) (Lexeme.run f g s) =
    let h = Run-same r s in record { means = ap (λ w. Lexeme.text (c ∷ w)) h.means; leaves = h.leaves }
IsToken-same (Lexeme.run {c = c} e i r) (Lexeme.quoted f s) = absurd (run-quote c e f)
IsToken-same (Lexeme.run e i r) (Lexeme.data_token s) = cc
IsToken-same (Lexeme.quoted {c = c} e r) (Lexeme.mark {lexeme = l} f) = absurd (mark-quote c l f e)
IsToken-same (Lexeme.quoted {c = c} e r) (Lexeme.run f g s) = absurd (run-quote c f e)
IsToken-same (Lexeme.quoted e r) (Lexeme.quoted f s) =
    let h = Quoted-same e r s in record { means = ap Lexeme.text h.means; leaves = h.leaves }
IsToken-same (Lexeme.quoted e r) (Lexeme.data_token s) = cc
IsToken-same (Lexeme.data_token r) (Lexeme.mark f) = cc
IsToken-same (Lexeme.data_token r) (Lexeme.run f g s) = cc
IsToken-same (Lexeme.data_token r) (Lexeme.quoted f s) = cc
IsToken-same (Lexeme.data_token r) (Lexeme.data_token s) =
    let h = Octets-same r s in record { means = ap Lexeme.octets h.means; leaves = h.leaves }

-- no whitespace and no comment begins where a token does
token-piece : {from a b : List ℕ} {l : Lexeme} → IsToken from l a → GapPiece from b → ⊥
token-piece (Lexeme.mark {c = c} {lexeme = l} e) (Gap.white f) = mark-white c l e f
token-piece (Lexeme.mark e) (Gap.line s) = cc
token-piece (Lexeme.mark e) (Gap.block s) = cc
token-piece (Lexeme.run {c = c} e i r) (Gap.white f) = white-run c f e
token-piece (Lexeme.run e i r) (Gap.line s) = cc
token-piece (Lexeme.run e i r) (Gap.block s) = cc
token-piece (Lexeme.quoted {c = c} e r) (Gap.white f) = white-quote c f e
token-piece (Lexeme.quoted e r) (Gap.line s) = cc
token-piece (Lexeme.quoted e r) (Gap.block s) = cc
token-piece (Lexeme.data_token r) (Gap.white f) = cc

pub IsToken-gapless : {from after : List ℕ} {l : Lexeme} → IsToken from l after → IsGapless from
IsToken-gapless t x g = token-piece t g

nothing-piece : {b : List ℕ} → GapPiece [] b → ⊥
nothing-piece g = elim g [ ]

pub nothing-gapless : IsGapless []
nothing-gapless x g = nothing-piece g

-- a faulty escape is no escape
no_digit-escape : {rest u a : List ℕ} → begins_digit 16 rest ≡ false → Escape (85 ∷ rest) u a → ⊥
no_digit-escape d (Quoted.octal e l) = cc
no_digit-escape d (Quoted.unit e) = cc
no_digit-escape d (Quoted.character e f) = cc

too_high-escape : {rest u a : List ℕ} → begins_digit 8 rest ≡ true → 0x7f < (number_from 8 3 0 rest).value → Escape rest u a → ⊥
too_high-escape d h (Quoted.octal e l) = omega arith
too_high-escape d h (Quoted.unit e) = cc
too_high-escape d h (Quoted.character e f) = cc

nothing-escape : {u a : List ℕ} → Escape [] u a → ⊥
nothing-escape (Quoted.octal e l) = cc

nothing-piece_of_string : {mark : ℕ} {u a : List ℕ} → Piece mark [] u a → ⊥
nothing-piece_of_string r = elim r [ ]

Piece-fault : {p : Offsets} {start mark : ℕ} {text u a : List ℕ} {f : LexFault} → EscapeFault p start text f → Piece mark text u a → ⊥
Piece-fault Stands.cut_escape (Quoted.raw e) = cc
Piece-fault Stands.cut_escape (Quoted.escape r) = nothing-escape r
Piece-fault (Stands.no_digit d) (Quoted.raw e) = cc
Piece-fault (Stands.no_digit d) (Quoted.escape r) = no_digit-escape d r
Piece-fault (Stands.too_high d h) (Quoted.raw e) = cc
Piece-fault (Stands.too_high d h) (Quoted.escape r) = too_high-escape d h r

close-fault : (mark : ℕ) {p : Offsets} {start c : ℕ} {rest : List ℕ} {f : LexFault} → is_quote mark ≡ true → (c == mark) ≡ true → EscapeFault p start (c ∷ rest) f → ⊥
close-fault mark q e Stands.cut_escape = quote-backslash mark q e
close-fault mark q e _ = quote-backslash mark q e

-- a faulty quoted string is no quoted string
pub Quoted-fault : {p : Offsets} {start mark : ℕ} {text u a : List ℕ} {f : LexFault} → is_quote mark ≡ true → QuotedFault p start mark text f → Quoted mark text u a → ⊥
Quoted-fault q Stands.cut_string (Quoted.piece e r) = nothing-piece_of_string e
Quoted-fault {mark = mark} q (Stands.escape d) (Quoted.close e) = close-fault mark q e d
Quoted-fault q (Stands.escape d) (Quoted.piece e r) = Piece-fault d e
Quoted-fault q (Stands.piece e f) (Quoted.close g) = close-piece q g e
Quoted-fault {mark = mark} {a = a} q (Stands.piece e f) (Quoted.piece {more = us} g r) =
    Quoted-fault q f (subst (λ x. Quoted mark x us a) (Piece-same g e).leaves r)

nothing-octets : {u a : List ℕ} → OctetsPiece [] u a → ⊥
nothing-octets r = elim r [ ]

pub other-octets : {c : ℕ} {rest u a : List ℕ} → is_of_data c ≡ false → OctetsPiece (c ∷ rest) u a → ⊥
other-octets {c} e (Octets.white f) = of_data-white c e f
other-octets {c} e (Octets.pair f g) = of_data-hexadecimal c e f

odd-octets : {c : ℕ} {rest u a : List ℕ} → is_digit c 16 ≡ true → begins_digit 16 rest ≡ false → OctetsPiece (c ∷ rest) u a → ⊥
odd-octets {c} e d (Octets.white f) = white-hexadecimal c f e
odd-octets e d (Octets.pair f g) = cc

-- a faulty data token is no data token
pub Octets-fault : {p : Offsets} {text u a : List ℕ} {f : LexFault} → OctetsFault p text f → Octets text u a → ⊥
Octets-fault Stands.cut_data (Octets.piece e r) = nothing-octets e
Octets-fault (Stands.other e) Octets.close = cc
Octets-fault (Stands.other e) (Octets.piece f r) = other-octets e f
Octets-fault (Stands.odd e d) Octets.close = cc
Octets-fault (Stands.odd e d) (Octets.piece f r) = odd-octets e d f
Octets-fault (Stands.piece e f) Octets.close = greater_than-piece e
Octets-fault {a = a} (Stands.piece e f) (Octets.piece {more = us} g r) =
    Octets-fault f (subst (λ x. Octets x us a) (OctetsPiece-same g e).leaves r)

-- no token, no whitespace and no complete comment begins at a fault
pub IsToken-fault : {p : Offsets} {from after : List ℕ} {l : Lexeme} {f : LexFault} → FaultAt p from f → IsToken from l after → ⊥
IsToken-fault (Stands.unexpected e o) (Lexeme.mark f) = cc
IsToken-fault (Stands.unexpected {c = c} e o) (Lexeme.run f g r) = unexpected-run c o f
IsToken-fault (Stands.unexpected {c = c} e o) (Lexeme.quoted f r) = unexpected-quote c o f
IsToken-fault (Stands.unexpected e o) (Lexeme.data_token r) = cc
IsToken-fault (Stands.comment n) (Lexeme.mark f) = cc
IsToken-fault (Stands.comment n) (Lexeme.run f g r) = cc
IsToken-fault (Stands.comment n) (Lexeme.quoted f r) = cc
IsToken-fault (Stands.quoted {c = c} e n) (Lexeme.mark {lexeme = l} f) = mark-quote c l f e
IsToken-fault (Stands.quoted {c = c} e n) (Lexeme.run f g r) = run-quote c f e
IsToken-fault (Stands.quoted e n) (Lexeme.quoted f r) = Quoted-fault e n r
IsToken-fault (Stands.quoted e n) (Lexeme.data_token r) = cc
IsToken-fault (Stands.data_token n) (Lexeme.mark f) = cc
IsToken-fault (Stands.data_token n) (Lexeme.run f g r) = cc
IsToken-fault (Stands.data_token n) (Lexeme.quoted f r) = cc
IsToken-fault (Stands.data_token n) (Lexeme.data_token r) = Octets-fault n r

fault-piece : {p : Offsets} {from b : List ℕ} {f : LexFault} → FaultAt p from f → GapPiece from b → ⊥
fault-piece (Stands.unexpected {c = c} e o) (Gap.white f) = unexpected-white c o f
fault-piece (Stands.unexpected e o) (Gap.line s) = cc
fault-piece (Stands.unexpected e o) (Gap.block s) = cc
fault-piece (Stands.comment n) (Gap.white f) = cc
fault-piece (Stands.comment n) (Gap.block s) = BlockComment-never n s
fault-piece (Stands.quoted {c = c} e n) (Gap.white f) = white-quote c f e
fault-piece (Stands.quoted e n) (Gap.line s) = cc
fault-piece (Stands.quoted e n) (Gap.block s) = cc
fault-piece (Stands.data_token n) (Gap.white f) = cc

pub FaultAt-gapless : {p : Offsets} {from : List ℕ} {f : LexFault} → FaultAt p from f → IsGapless from
FaultAt-gapless e x g = fault-piece e g

pub FaultAt-nothing : {p : Offsets} {f : LexFault} → FaultAt p [] f → ⊥
FaultAt-nothing e = elim e [ ]

pub IsToken-nothing : {after : List ℕ} {l : Lexeme} → IsToken [] l after → ⊥
IsToken-nothing t = elim t [ ]

-- two gaps before tokens end at the same position, so the tokens are equal
pub next-same : {text from here a b : List ℕ} {l m : Lexeme} → Gap text from → IsToken from l a → Gap text here → IsToken here m b
    → (from ≡ here) × SameToken l m a b
next-same {a = a} {l = l} g t h u =
    let e = Gap-same g h (IsToken-gapless t) (IsToken-gapless u) in
    (e, IsToken-same (subst (λ x. IsToken x l a) e t) u)

-- no token follows a gap at the end of the text
pub end-token : {text from after : List ℕ} {l : Lexeme} → Gap text [] → Gap text from → IsToken from l after → ⊥
end-token {after = after} {l = l} g h t =
    IsToken-nothing (subst (λ x. IsToken x l after) (sym (Gap-same g h nothing-gapless (IsToken-gapless t))) t)

-- no fault follows a gap at the end of the text
pub end-fault : {p : Offsets} {text from : List ℕ} {f : LexFault} → Gap text [] → Gap text from → FaultAt p from f → ⊥
end-fault {p} {f = f} g h t =
    FaultAt-nothing (subst (λ x. FaultAt p x f) (sym (Gap-same g h nothing-gapless (FaultAt-gapless t))) t)

-- no token begins at a fault after a gap
pub token-fault : {p : Offsets} {text from here after : List ℕ} {l : Lexeme} {f : LexFault} → Gap text from → FaultAt p from f → Gap text here → IsToken here l after → ⊥
token-fault {after = after} {l = l} g t h u =
    IsToken-fault t (subst (λ x. IsToken x l after) (sym (Gap-same g h (FaultAt-gapless t) (IsToken-gapless u))) u)

pub Lexes-same : {p : Offsets} {text : List ℕ} {ts us : List Located} → Lexes p text ts → Lexes p text us → ts ≡ us
Lexes-same (none g) (none h) = refl
Lexes-same (none g) (next h u s) = absurd (end-token g h u)
Lexes-same (next g t r) (none h) = absurd (end-token h g t)
Lexes-same {p} (next g t r) (next {tokens = us} h u s) =
    let e = next-same g t h u in
    cc (e.0, e.1.means, e.1.leaves, Lexes-same r (subst (λ x. Lexes p x us) (sym e.1.leaves) s))

pub after-fault : {p q : Offsets} {text : List ℕ} {f : LexFault} {ts : List Located} → FaultAfterGap p text f → Lexes q text ts → ⊥
after-fault (Stands.gap g t) (none h) = end-fault h g t
after-fault (Stands.gap g t) (next h u s) = token-fault g t h u

abbrev pub Continuing : Offsets → List ℕ → List Located → List Located → Type 0
Continuing p rest tokens all = (others : List Located) × (all ≡ tokens ++ others) × Lexes p rest others

-- the tokens at the start of a text are the first of all its tokens
pub LexesTo-continue : {p : Offsets} {rest text : List ℕ} {tokens all : List Located} → LexesTo p rest text tokens → Lexes p text all → Continuing p rest tokens all
LexesTo-continue {all = all} here l = (all, refl, l)
LexesTo-continue (token g t r) (none h) = absurd (end-token h g t)
LexesTo-continue {p} (token g t r) (next {tokens = us} h u s) =
    let e = next-same g t h u in
    let c = LexesTo-continue r (subst (λ x. Lexes p x us) (sym e.1.leaves) s) in
    (c.0, cc (e.0, e.1.means, e.1.leaves, c.1), c.2)

-- one more token, and all tokens
pub LexesTo-more : {p : Offsets} {rest from after text : List ℕ} {lexeme : Lexeme} {tokens : List Located} → LexesTo p rest text tokens → Gap rest from → IsToken from lexeme after
    → LexesTo p after text (tokens ++ record { lexeme = lexeme; start = offset p from; end = offset p after } ∷ [])
LexesTo-more here g t = token g t here
LexesTo-more (token h u r) g t = token h u (LexesTo-more r g t)

pub LexesTo-all : {p : Offsets} {rest text : List ℕ} {tokens : List Located} → LexesTo p rest text tokens → Gap rest [] → Lexes p text tokens
LexesTo-all here g = none g
LexesTo-all (token h u r) g = next h u (LexesTo-all r g)
