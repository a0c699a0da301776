-- The maximum length of a printed scalar.
use Rattle.std.proofs.Common.{◌≡◌, ℕ, zero, suc, ◌+◌, ◌*◌, ◌/◌, ◌≤◌, min, Bool, true, false, List, [], ◌∷◌, ◌++◌, length, take, drop, refl, ap, arith, inl, inr, length-append}
use Rattle.std.specs.Prelude.{codes, ◌==◌, flat_map, if◌then◌else◌}
use Rattle.std.specs.Char.{encode_utf8}
use Rattle.std.specs.Char.Utf16.{surrogate_pair_char}
use Rattle.std.proofs.lemmas.Bool.{cases_lt}
use Rattle.std.proofs.lemmas.List.{take-append-drop, length-replicate}
use Rattle.std.proofs.lemmas.Str.{length-encode, len_utf8_bounds}
use Rattle.plist_value.specs.Plist.{bytes}
use Rattle.plist_value.specs.Digits.{two_digits}
use Rattle.plist_print.specs.Units.{is_invisible, is_visible_pair, printed_data, printed_unit, printed_units, printed_text}
use Rattle.plist_print.specs.Printed.{indent, enclosed, octet_lines, printed_line}
use Rattle.plist_print.proofs.DataLines.{data_lines, lines-joined, if-told, if-denied}

-- both branches are at most this long
pub if-long : (b : Bool) (xs ys : List ℕ) (n : ℕ) → length xs ≤ n → length ys ≤ n → length (if b then xs else ys) ≤ n
if-long true xs ys n h k = h
if-long false xs ys n h k = k

encoded-long : (c : ℕ) → length (encode_utf8 c) ≤ 4
encoded-long c = let e = length-encode c in let b = (len_utf8_bounds c).1 in omega (arith, e, b)

unit-long : (u : ℕ) → length (printed_unit u) ≤ 6
unfolding printed_unit
unit-long u =
    let e = encoded-long u in
    if-long (u == 34) _ _ 6 (omega arith)
    (if-long (u == 92) _ _ 6 (omega arith)
    (if-long (u == 10) _ _ 6 (omega arith)
    (if-long (u == 9) _ _ 6 (omega arith)
    (if-long (u == 13) _ _ 6 (omega arith)
    (if-long (is_invisible u) _ _ 6 (omega arith) (omega (arith, e)))))))

units-long : (us : List ℕ) → length (printed_units us) ≤ 6 * length us
units-long [] = omega arith
units-long (u ∷ []) = let e = unit-long u in omega (arith, e)
units-long (u ∷ v ∷ us) =
    let pair = encoded-long (surrogate_pair_char u v) in
    let one = unit-long u in
    let others = units-long us in
    let rest = units-long (v ∷ us) in
    let left = length-append (encode_utf8 (surrogate_pair_char u v)) (printed_units us) in
    let right = length-append (printed_unit u) (printed_units (v ∷ us)) in
    if-long (is_visible_pair u v) _ _ _ (omega (arith, pair, others, left)) (omega (arith, one, rest, right))

pub text-long : (us : List ℕ) → length (printed_text us) ≤ 6 * length us + 2
text-long us =
    let e = units-long us in let l = length-append (printed_units us) (codes "\"") in omega (arith, e, l)

digits-long : (xs : List ℕ) → length (flat_map two_digits xs) ≡ 2 * length xs
digits-long [] = refl
digits-long (x ∷ xs) = let e = digits-long xs in omega (arith, e)

pub data-long : (xs : List ℕ) → length (printed_data xs) ≡ 2 * length xs + 2
data-long xs =
    let e = digits-long xs in let l = length-append (flat_map two_digits xs) (codes ">") in omega (arith, e, l)

-- lines of data after at most 64 spaces
lines-long : (blanks : List ℕ) (n : ℕ) (xs : List ℕ) → length blanks ≤ 64 → length (data_lines blanks n xs) ≤ 65 * n + 2 * length xs
lines-long blanks zero xs few = omega arith
lines-long blanks (suc n) xs few =
    let rest = data_lines blanks n (drop 32 xs) in
    let digits = flat_map two_digits (take 32 xs) in
    let more = lines-long blanks n (drop 32 xs) few in
    let front = digits-long (take 32 xs) in
    let all = ap length (take-append-drop 32 xs) in
    let parts = length-append (take 32 xs) (drop 32 xs) in
    let outer = length-append blanks (digits ++ (10 ∷ rest)) in
    let inner = length-append digits (10 ∷ rest) in
    omega (arith, few, more, front, all, parts, outer, inner)

pub indent-long : (level : ℕ) → length (indent level) ≡ 2 * min level 32
indent-long level = length-replicate (2 * min level 32) 32

pub bytes-long : (level : ℕ) (xs : List ℕ) → length (printed_line level (bytes xs)) ≤ 5 * length xs + 70 + 2 * min level 32
bytes-long level xs = elim (cases_lt 32 (length xs)) [
  | inl long ↦ (
      let lines = octet_lines (indent (suc level)) xs in
      let blanks = indent-long (suc level) in
      let ending = indent-long level in
      let joined = ap length (lines-joined (indent (suc level)) ((length xs + 31) / 32) xs) in
      let most = lines-long (indent (suc level)) ((length xs + 31) / 32) xs (omega (arith, blanks)) in
      let outer = length-append lines (indent level ++ (62 ∷ 10 ∷ [])) in
      let inner = length-append (indent level) (62 ∷ 10 ∷ []) in
      let is : length (printed_line level (bytes xs)) ≡ length (enclosed level 60 62 lines) = ap length (if-denied _ _ (length xs) 32 long) in
      omega (arith, long, ending, joined, most, outer, inner, is)
      )
  | inr short ↦ (
      let line = data-long xs in
      let ends = length-append (printed_data xs) (codes "\n") in
      let is : length (printed_line level (bytes xs)) ≡ length (printed_data xs ++ codes "\n") = ap length (if-told _ _ (length xs) 32 short) in
      omega (arith, short, line, ends, is)
      )
]
