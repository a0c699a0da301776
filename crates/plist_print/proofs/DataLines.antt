-- Data in lines of 32 bytes.
use Rattle.std.proofs.Common.{◌≡◌, ℕ, suc, ◌+◌, ◌-◌, ◌*◌, ◌/◌, ◌<◌, ◌≤◌, min, List, ◌++◌, length, zero, [], ◌∷◌, take, drop, replicate, refl, sym, ap, ◌∙◌, arith, append_assoc, length-append, length-drop}
use Rattle.std.specs.Prelude.{codes, flat_map, nat_le, if◌then◌else◌}
use Rattle.std.specs.Simd.{first_chunks}
use Rattle.std.proofs.lemmas.List.{take_min, drop_min}
use Rattle.plist_value.specs.Plist.{bytes}
use Rattle.plist_value.specs.Digits.{two_digits}
use Rattle.plist_write.specs.BufferedSink.{PutsPiece}
use Rattle.plist_print.specs.Printed.{indent, enclosed, octet_lines, printed_line}
use Rattle.plist_print.proofs.Compared.{le-tells, le-denied}

abbrev pub data_line : List ℕ → List ℕ → List ℕ
data_line blanks xs = blanks ++ (flat_map two_digits xs ++ codes "\n")

pub count-more : (xs : List ℕ) → 0 < length xs → (length xs + 31) / 32 ≡ suc ((length (drop 32 xs) + 31) / 32)
count-more xs some =
    let left : length (drop 32 xs) ≡ length xs - 32 = length-drop 32 xs in omega (arith, left)

-- the lines, without brackets between their parts
abbrev pub data_lines : List ℕ → ℕ → List ℕ → List ℕ
data_lines blanks zero xs = []
data_lines blanks (suc lines) xs =
    blanks ++ (flat_map two_digits (take 32 xs) ++ (10 ∷ data_lines blanks lines (drop 32 xs)))

pub lines-joined : (blanks : List ℕ) (n : ℕ) (xs : List ℕ) → flat_map (data_line blanks) (first_chunks 32 n xs) ≡ data_lines blanks n xs
lines-joined blanks zero xs = refl
lines-joined blanks (suc n) xs =
    let digits = flat_map two_digits (take 32 xs) in
    let rest = data_lines blanks n (drop 32 xs) in
    ap (λ t. data_line blanks (take 32 xs) ++ t) (lines-joined blanks n (drop 32 xs))
    ∙ append_assoc blanks (digits ++ codes "\n") rest ∙ ap (λ t. blanks ++ t) (append_assoc digits (codes "\n") rest)

-- the first line, and the other lines
pub lines-first : (blanks xs : List ℕ) → 0 < length xs → octet_lines blanks xs ≡ data_line blanks (take 32 xs) ++ octet_lines blanks (drop 32 xs)
lines-first blanks xs some = ap (λ n. flat_map (data_line blanks) (first_chunks 32 n xs)) (count-more xs some)

-- there is a line
pub lines-some : (blanks xs : List ℕ) → 0 < length xs → 0 < length (octet_lines blanks xs)
lines-some blanks xs some =
    let whole = ap length (lines-first blanks xs some) ∙ length-append (data_line blanks (take 32 xs)) (octet_lines blanks (drop 32 xs)) in
    let line = length-append blanks (flat_map two_digits (take 32 xs) ++ codes "\n") in
    let ended = length-append (flat_map two_digits (take 32 xs)) (codes "\n") in
    omega (arith, whole, line, ended)

-- the line of the first bytes was appended
pub puts-line : (blanks old new xs front left : List ℕ) → 0 < length xs → front ≡ take (min 32 (length xs)) xs → left ≡ drop (min 32 (length xs)) xs → new ≡ old ++ data_line blanks front → PutsPiece old new (octet_lines blanks xs) (octet_lines blanks left)
puts-line blanks old new xs front left some is rest put = record {
  piece = data_line blanks front;
  put = put;
  split = rw (is, take_min, rest, drop_min) (lines-first blanks xs some);
}

pub if-told : (xs ys : List ℕ) (a b : ℕ) → a ≤ b → (if nat_le a b then xs else ys) ≡ xs
if-told xs ys a b h = rw (le-tells a b h) refl

pub if-denied : (xs ys : List ℕ) (a b : ℕ) → b < a → (if nat_le a b then xs else ys) ≡ ys
if-denied xs ys a b h = rw (le-denied a b h) refl

-- data of more than 32 bytes is printed in brackets, on separate lines
pub bytes-enclosed : (level above : ℕ) (xs : List ℕ) → above ≡ min level 32 → 32 < length xs → enclosed level 60 62 (octet_lines (indent (above + 1)) xs) ≡ printed_line level (bytes xs)
bytes-enclosed level above xs is long =
    let same : min (above + 1) 32 ≡ min (suc level) 32 = omega arith in
    ap (λ n. enclosed level 60 62 (octet_lines (replicate (2 * n) 32) xs)) same ∙ sym (if-denied _ _ (length xs) 32 long)
