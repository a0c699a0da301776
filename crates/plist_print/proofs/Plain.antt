-- Units that are printed without an escape.
use Rattle.std.proofs.Common.{◌≡◌, ℕ, suc, ◌+◌, ◌<◌, Bool, true, false, not, ◌&&◌, ◌||◌, List, [], ◌∷◌, ◌++◌, refl, sym, ap, ◌∙◌, drop, length, arith, inl, inr, add-one, drop-cons, append_assoc}
use Rattle.std.specs.Prelude.{◌==◌, if◌then◌else◌, slice_index}
use Rattle.std.specs.Char.{encode_utf8}
use Rattle.std.specs.Char.Utf16.{is_high_surrogate}
use Rattle.std.specs.Int.{is_in_range}
use Rattle.std.proofs.lemmas.Bool.{cases_Bool}
use Rattle.std.proofs.lemmas.Bool.Decides.{nat_tests}
use Rattle.std.proofs.lemmas.List.{append-nil}
use Rattle.std.proofs.lemmas.Str.{encode_ascii}
use Rattle.ucd_table.specs.Rows.{in_ranges}
use Rattle.plist_value.specs.Escapes.{is_literal, literal_run, quoted_unit}
use Rattle.plist_value.proofs.Quoted.{run-text}
use Rattle.plist_print.specs.Units.{is_invisible, printed_unit, printed_units}
use Rattle.plist_print.specs.Shown.{is_verbatim}
use Rattle.plist_print.proofs.Compared.{is-denied}
use Rattle.plist_print.proofs.Visible.{in_ranges-visible}

if-true : (b : Bool) (xs ys : List ℕ) → b ≡ true → (if b then xs else ys) ≡ xs
if-true true xs ys e = refl
if-true false xs ys e = absurd cc

if-false : (b : Bool) (xs ys : List ℕ) → b ≡ false → (if b then xs else ys) ≡ ys
if-false false xs ys e = refl
if-false true xs ys e = absurd cc

if-both : (b : Bool) (xs ys zs : List ℕ) → (b ≡ false → ys ≡ zs) → (if b then xs else ys) ≡ (if b then xs else zs)
if-both true xs ys zs h = refl
if-both false xs ys zs h = h refl

if-pair : (b c : Bool) (xs ys : List ℕ) → b ≡ false → (if b && c then xs else ys) ≡ ys
if-pair false c xs ys e = refl
if-pair true c xs ys e = absurd cc

or-left : (b c : Bool) → b || c ≡ false → b ≡ false
or-left true c e = e
or-left false c e = refl

not-true : (b : Bool) → not b ≡ true → b ≡ false
not-true true e = absurd cc
not-true false e = refl

not-false : (b : Bool) → not b ≡ false → b ≡ true
not-false true e = refl
not-false false e = absurd cc

-- what a unit without an escape is
record IsPlain (u : ℕ) : Type 0 where
  pub quote : (u == 34) ≡ false
  pub backslash : (u == 92) ≡ false
  pub visible : is_invisible u ≡ false

plain : (q b i : Bool) → not q && (not b && not i) ≡ true → (q ≡ false) × (b ≡ false) × (i ≡ false)
plain false false false e = (refl, refl, refl)
plain false false true e = absurd cc
plain false true i e = absurd cc
plain true b i e = absurd cc

plain-of : (u : ℕ) → is_verbatim u ≡ true → IsPlain u
plain-of u is =
    let parts = plain (u == 34) (u == 92) (is_invisible u) is in
    record { quote = parts.0; backslash = parts.1; visible = parts.2 }

-- tabs and line ends are invisible
line-ends : (is_invisible 9 ≡ true) × (is_invisible 10 ≡ true) × (is_invisible 13 ≡ true)
unfolding in_ranges
line-ends =
    (not-false _ (sym (in_ranges-visible 9 (omega arith))), not-false _ (sym (in_ranges-visible 10 (omega arith))), not-false _ (sym (in_ranges-visible 13 (omega arith))))

differs : (u n : ℕ) → is_invisible u ≡ false → is_invisible n ≡ true → (u == n) ≡ false
differs u n seen hidden = is-denied u n (λ e. let same : is_invisible u ≡ is_invisible n = ap is_invisible e in cc)

itself : (u : ℕ) → IsPlain u → printed_unit u ≡ encode_utf8 u
unfolding printed_unit
itself u p =
    if-false (u == 34) _ _ p.quote
    ∙ if-false (u == 92) _ _ p.backslash
    ∙ if-false (u == 10) _ _ (differs u 10 p.visible line-ends.1)
    ∙ if-false (u == 9) _ _ (differs u 9 p.visible line-ends.0)
    ∙ if-false (u == 13) _ _ (differs u 13 p.visible line-ends.2)
    ∙ if-false (is_invisible u) _ _ p.visible

no-high : (u : ℕ) → is_invisible u ≡ false → is_high_surrogate u ≡ false
unfolding is_invisible
no-high u seen =
    let outside : is_in_range 0xd800 0xdfff u ≡ false = or-left _ _ seen in grind (arith, nat_tests, outside)

pub verbatim-printed : (u : ℕ) (us : List ℕ) → is_verbatim u ≡ true → printed_units (u ∷ us) ≡ encode_utf8 u ++ printed_units us
verbatim-printed u [] is = itself u (plain-of u is) ∙ sym (append-nil (encode_utf8 u))
verbatim-printed u (v ∷ us) is =
    let p = plain-of u is in
    if-pair (is_high_surrogate u) _ _ _ (no-high u p.visible) ∙ ap (λ xs. xs ++ printed_units (v ∷ us)) (itself u p)

seen : (u : ℕ) → is_in_range 0x20 0x7e u ≡ true → is_invisible u ≡ false
unfolding in_ranges
seen u is =
    let below : u < 0x11_0000 = grind (arith, nat_tests, is) in
    not-true (is_invisible u) (sym (in_ranges-visible u below) ∙ rw is)

hidden-of : (q b i : Bool) → q ≡ false → b ≡ false → not q && (not b && not i) ≡ false → i ≡ true
hidden-of true b i e f g = absurd cc
hidden-of false true i e f g = absurd cc
hidden-of false false true e f g = refl
hidden-of false false false e f g = absurd cc

outside : (u : ℕ) → is_invisible u ≡ true → is_in_range 0x20 0x7e u ≡ false
outside u hidden = elim (cases_Bool (is_in_range 0x20 0x7e u)) [
  | inl is ↦ let shown = seen u is in absurd cc
  | inr not ↦ not
]

pub escaped-quoted : (u : ℕ) → is_verbatim u ≡ false → printed_unit u ≡ quoted_unit u
unfolding printed_unit
escaped-quoted u is =
    if-both (u == 34) _ _ _ (λ q.
    if-both (u == 92) _ _ _ (λ b.
    if-both (u == 10) _ _ _ (λ _.
    if-both (u == 9) _ _ _ (λ _.
    if-both (u == 13) _ _ _ (λ _.
    let hidden = hidden-of (u == 34) (u == 92) (is_invisible u) q b is in
    if-true (is_invisible u) _ _ hidden ∙ sym (if-false (is_in_range 0x20 0x7e u) _ _ (outside u hidden)))))))

verbatim-of : (r q b i : Bool) → r && (not q && not b) ≡ true → (r ≡ true → i ≡ false) → not q && (not b && not i) ≡ true
verbatim-of false q b i e h = absurd cc
verbatim-of true true b i e h = absurd cc
verbatim-of true false true i e h = absurd cc
verbatim-of true false false true e h = let clash = h refl in absurd cc
verbatim-of true false false false e h = refl

literal-verbatim : (u : ℕ) → is_literal u ≡ true → is_verbatim u ≡ true
literal-verbatim u is = verbatim-of (is_in_range 0x20 0x7e u) (u == 34) (u == 92) (is_invisible u) is (seen u)

pub literal-printed : (u : ℕ) (us : List ℕ) → is_literal u ≡ true → printed_units (u ∷ us) ≡ u ∷ printed_units us
literal-printed u us is =
    verbatim-printed u us (literal-verbatim u is)
    ∙ ap (λ xs. xs ++ printed_units us) (encode_ascii u (grind (arith, nat_tests, is)))

-- what is left after a run of units that need no escape
pub run-printed : (us run : List ℕ) (i : ℕ) → run ≡ literal_run (drop i us) → printed_units (drop i us) ≡ run ++ printed_units (drop (i + length run) us)
run-printed = run-text printed_units literal-printed

-- the unit at a position is printed, and then the others
pub verbatim-next : (us : List ℕ) (i : ℕ) → i < length us → is_verbatim (slice_index us i) ≡ true → printed_units (drop i us) ≡ encode_utf8 (slice_index us i) ++ printed_units (drop (i + 1) us)
verbatim-next us i within is =
    rw (add-one, drop-cons us i 0) (verbatim-printed (slice_index us i) (drop (suc i) us) is)

-- a run grows by the next unit
pub run-grows : (us : List ℕ) (i n : ℕ) (front run : List ℕ) → n < length us → is_verbatim (slice_index us n) ≡ true → run ≡ front ++ encode_utf8 (slice_index us n) → front ++ printed_units (drop n us) ≡ printed_units (drop i us) → run ++ printed_units (drop (n + 1) us) ≡ printed_units (drop i us)
run-grows us i n front run within is grows split =
    ap (λ os. os ++ printed_units (drop (n + 1) us)) grows
    ∙ append_assoc front (encode_utf8 (slice_index us n)) (printed_units (drop (n + 1) us))
    ∙ ap (λ os. front ++ os) (sym (verbatim-next us n within is)) ∙ split
