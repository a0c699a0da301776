-- A step over a string, a number or data, from an equation for the first character.
use Rattle.std.proofs.Common.{ℕ, zero, suc, ◌+◌, ◌-◌, ◌*◌, ◌^◌, ◌<◌, ◌≤◌, false, List, [], ◌∷◌, ◌≡◌, refl, sym, ap, ◌∙◌, arith, lit≤, le-ltb, lt-ltb, add-one, length, cond, true, Bool, ◌++◌, ◌==◌, subst, append_assoc}
use Rattle.std.proofs.Math.Nat.{pow-zero, pow-suc, mul-le-mul}
use Rattle.std.specs.Char.{digit_value, is_digit}
use Rattle.std.specs.Char.Escape.{encode_utf16}
use Rattle.ostep_lex.specs.Digits.{number_from, begins_digit, Number}
use Rattle.ostep_lex.specs.Character.{is_run, is_white}
use Rattle.ostep_lex.specs.declared.fault.LexFault.TheVariants.{UnclosedString, BadEscape, OctalRange, BadData, OddData}
use Rattle.ostep_lex.specs.Encoding.{Offsets, offset}
use Rattle.ostep_lex.specs.Stands
use Rattle.ostep_lex.specs.Stands.{EscapeFault, QuotedFault, OctetsFault}
use Rattle.ostep_lex.specs.Quoted
use Rattle.ostep_lex.specs.Quoted.{Run, begins_run, Escape, Piece, Quoted, escaped, is_raw}
use Rattle.ostep_lex.specs.Octets
use Rattle.ostep_lex.specs.Octets.{OctetsPiece, Octets}

pub number_stop : (base count high : ℕ) (text : List ℕ) → begins_digit base text ≡ false → number_from base count high text ≡ record { value = high; after = text }
number_stop base (suc count) high (c ∷ rest) e = rw e refl
number_stop base _ high _ e = refl

pub number_more : (base count high c : ℕ) (text rest : List ℕ) → text ≡ c ∷ rest → digit_value c < base
    → number_from base (suc count) high text ≡ number_from base count (high * base + digit_value c) rest
number_more base count high c text rest e d = rw (e, lt-ltb (digit_value c) base d) refl

pow_base : (base k : ℕ) → base ≤ 16 → base ^ k ≤ 16 ^ k
pow_base base zero h = rw (pow-zero base) (lit≤ tt)
pow_base base (suc k) h = rw (pow-suc base k, pow-suc 16 k) (mul-le-mul (pow_base base k h) h)

pow_16 : (k : ℕ) → k ≤ 4 → 16 ^ k ≤ 65536
pow_16 (suc (suc (suc (suc (suc k))))) h = absurd (omega arith)
pow_16 _ h = lit≤ tt

pub pow_limit : (base k : ℕ) → base ≤ 16 → k ≤ 4 → base ^ k ≤ 65536
pow_limit base k b h = omega (arith, pow_base base k b, pow_16 k h)

pub digit_limit : (base k value digit : ℕ) → value < base ^ k → digit < base → value * base + digit < base ^ (k + 1)
digit_limit base k value digit v d =
    let e : base ^ (k + 1) ≡ base ^ k * base = ap (λ n. base ^ n) (add-one k) ∙ pow-suc base k in
    let m : (value + 1) * base ≤ base ^ k * base = mul-le-mul (omega arith) (omega arith) in
    omega (arith, e, m)

-- one more digit, in a loop that has read some of them
pub number_step : (base count read high digit c : ℕ) (text rest : List ℕ) → text ≡ c ∷ rest → read < count → (digit_value c < base) × (digit ≡ digit_value c)
    → number_from base (count - read) high text ≡ number_from base (count - (read + 1)) (high * base + digit) rest
number_step base count read high digit c text rest e below d =
    let left : count - read ≡ suc (count - (read + 1)) = omega arith in
    ap (λ n. number_from base n high text) left ∙ number_more base (count - (read + 1)) high c text rest e d.0
    ∙ ap (λ v. number_from base (count - (read + 1)) (high * base + v) rest) (sym d.1)

pub number_no_digit : (base count high c : ℕ) (text rest : List ℕ) → text ≡ c ∷ rest → ¬ (digit_value c < base) → number_from base count high text ≡ record { value = high; after = text }
number_no_digit base count high c text rest e d =
    number_stop base count high text (ap (begins_digit base) e ∙ le-ltb (digit_value c) base (omega arith))

-- a list with a piece at its end, followed by more
pub appended : {A : Type 0} (old new piece more : List A) → new ≡ old ++ piece → old ++ (piece ++ more) ≡ new ++ more
appended old new piece more e = sym (ap (λ w. w ++ more) e ∙ append_assoc old piece more)

pub run_more : {c : ℕ} {text rest more end : List ℕ} → text ≡ c ∷ rest → is_run c ≡ true → Run rest more end → Run text (c ∷ more) end
run_more {c} {more = more} {end = end} e t r = subst (λ x. Run x (c ∷ more) end) (sym e) (Quoted.more t r)

pub run_stop : {c : ℕ} {text rest : List ℕ} → text ≡ c ∷ rest → is_run c ≡ false → Run text [] text
run_stop e t = Quoted.stop (ap begins_run e ∙ t)

pub run_none : {text : List ℕ} → text ≡ [] → Run text [] text
run_none e = Quoted.stop (ap begins_run e)

pub piece_octal : {mark value : ℕ} {text digits end : List ℕ} → text ≡ 92 ∷ digits → begins_digit 8 digits ≡ true
    → number_from 8 3 0 digits ≡ record { value = value; after = end } → value ≤ 0x7f → Piece mark text (value ∷ []) end
piece_octal {mark} {digits = digits} e d n low =
    let limit : (number_from 8 3 0 digits).value ≤ 0x7f = rw n low in
    rw e (subst (λ (m : Number). Piece mark (92 ∷ digits) (m.value ∷ []) m.after) n (Quoted.escape (Quoted.octal d limit)))

pub piece_unit : {mark value : ℕ} {text digits end : List ℕ} → text ≡ 92 ∷ 85 ∷ digits → begins_digit 16 digits ≡ true
    → number_from 16 4 0 digits ≡ record { value = value; after = end } → Piece mark text (value ∷ []) end
piece_unit {mark} {digits = digits} e d n =
    rw e (subst (λ (m : Number). Piece mark (92 ∷ 85 ∷ digits) (m.value ∷ []) m.after) n (Quoted.escape (Quoted.unit d)))

pub piece_character : {mark c : ℕ} {text letter rest : List ℕ} → text ≡ 92 ∷ letter → letter ≡ c ∷ rest → is_digit c 8 ≡ false → (c == 85) ≡ false
    → Piece mark text (encode_utf16 (escaped c)) rest
piece_character e l o u = rw (e, l) (Quoted.escape (Quoted.character o u))

pub octal_fault : (p : Offsets) (start at value : ℕ) (text rest end : List ℕ) → text ≡ 92 ∷ rest → begins_digit 8 rest ≡ true
    → number_from 8 3 0 rest ≡ record { value = value; after = end } → 0x7f < value → at ≡ offset p text → EscapeFault p start text (OctalRange at)
octal_fault p start at value text rest end e d n high a =
    let limit : 0x7f < (number_from 8 3 0 rest).value = rw n high in
    rw (a, e) (Stands.too_high d limit)

pub unit_fault : {p : Offsets} {start at : ℕ} {text rest : List ℕ} → text ≡ 92 ∷ 85 ∷ rest → begins_digit 16 rest ≡ false → at ≡ offset p text
    → EscapeFault p start text (BadEscape at)
unit_fault e d a = rw (a, e) (Stands.no_digit d)

pub cut_fault : (p : Offsets) (start : ℕ) (text rest : List ℕ) → text ≡ 92 ∷ rest → rest ≡ [] → EscapeFault p start text (UnclosedString start)
cut_fault p start text rest e r = rw (e, r) Stands.cut_escape

number_shorter : (base count high : ℕ) (text : List ℕ) → length (number_from base count high text).after ≤ length text
number_shorter base (suc count) high (c ∷ rest) = either (is_digit c base) (number_shorter base count (high * base + digit_value c) rest)
  where
    either : (b : Bool) → length (number_from base count (high * base + digit_value c) rest).after ≤ length rest
        → length (cond b (number_from base count (high * base + digit_value c) rest) (record { value = high; after = c ∷ rest })).after ≤ length (c ∷ rest)
    either true h = omega arith
    either false h = omega arith
number_shorter base _ high _ = omega arith

escape_shorter : {text units rest : List ℕ} → Escape text units rest → length rest ≤ length text
escape_shorter (Quoted.octal {text = text} d l) = number_shorter 8 3 0 text
escape_shorter (Quoted.unit {text = text} d) = let h = number_shorter 16 4 0 text in omega (arith, h)
escape_shorter (Quoted.character o u) = omega arith

pub piece_shorter : {mark : ℕ} {text units rest : List ℕ} → Piece mark text units rest → length rest < length text
piece_shorter (Quoted.raw r) = omega arith
piece_shorter (Quoted.escape e) = let h = escape_shorter e in omega (arith, h)

pub piece_raw : (mark c : ℕ) (text rest : List ℕ) → text ≡ c ∷ rest → (c == 92) ≡ false → (c == mark) ≡ false → Piece mark text (encode_utf16 c) rest
piece_raw mark c text rest e b m =
    subst (λ x. Piece mark x (encode_utf16 c) rest) (sym e) (Quoted.raw (rw (b, m) refl))

pub quoted_close : (mark c : ℕ) (text rest : List ℕ) → text ≡ c ∷ rest → (c == mark) ≡ true → Quoted mark text [] rest
quoted_close mark c text rest e m = subst (λ x. Quoted mark x [] rest) (sym e) (Quoted.close m)

pub cut_string_fault : (p : Offsets) (start mark : ℕ) (text : List ℕ) → text ≡ [] → QuotedFault p start mark text (UnclosedString start)
cut_string_fault p start mark text e = subst (λ x. QuotedFault p start mark x (UnclosedString start)) (sym e) Stands.cut_string

pub piece_white : (c : ℕ) (text rest : List ℕ) → text ≡ c ∷ rest → is_white c ≡ true → OctetsPiece text [] rest
piece_white c text rest e w = subst (λ x. OctetsPiece x [] rest) (sym e) (Octets.white w)

pub piece_pair : (c d : ℕ) (high low : ℕ) (text middle rest : List ℕ) → text ≡ c ∷ middle → middle ≡ d ∷ rest → is_digit c 16 ≡ true → is_digit d 16 ≡ true
    → high ≡ digit_value c → low ≡ digit_value d → OctetsPiece text ((high * 16 + low) ∷ []) rest
piece_pair c d high low text middle rest e f h i v w = rw (e, f, v, w) (Octets.pair h i)

pub octets_close : (c : ℕ) (text rest : List ℕ) → text ≡ c ∷ rest → c ≡ 62 → Octets text [] rest
octets_close c text rest e g = rw (e, g) Octets.close

pub octets_piece_shorter : {text octets rest : List ℕ} → OctetsPiece text octets rest → length rest < length text
octets_piece_shorter (Octets.white w) = omega arith
octets_piece_shorter (Octets.pair h i) = omega arith

none_of_data : (c : ℕ) → is_white c ≡ false → is_digit c 16 ≡ false → (c == 62) ≡ false → Stands.is_of_data c ≡ false
none_of_data c w h g = rw (w, h, g) refl

pub other_fault : (p : Offsets) (at c : ℕ) (text rest : List ℕ) → text ≡ c ∷ rest → is_white c ≡ false → begins_digit 16 text ≡ false → (c == 62) ≡ false
    → at ≡ offset p text → OctetsFault p text (BadData at)
other_fault p at c text rest e w h g a =
    rw (a, e) (Stands.other (none_of_data c w (ap (begins_digit 16) (sym e) ∙ h) g))

pub odd_fault : (p : Offsets) (at c : ℕ) (text rest : List ℕ) → text ≡ c ∷ rest → is_digit c 16 ≡ true → begins_digit 16 rest ≡ false
    → at ≡ offset p text → OctetsFault p text (OddData at)
odd_fault p at c text rest e h d a = rw (a, e) (Stands.odd h d)

pub cut_data_fault : (p : Offsets) (at : ℕ) (text : List ℕ) → text ≡ [] → at ≡ offset p text → OctetsFault p text (BadData at)
cut_data_fault p at text e a = rw (a, e) Stands.cut_data
