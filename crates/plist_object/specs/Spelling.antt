-- The one canonical encoding of an object (our profile).
use Rattle.std.specs.Prelude.{ℕ, ◌+◌, ◌-◌, ◌*◌, nat_lt, if◌then◌else◌, ℤ, pos, negsuc, List, []}
use Rattle.std.specs.Prelude.{◌∷◌, ◌++◌, length, replicate}
use Rattle.std.specs.List.{list_all, flat_map}
use Rattle.byteorder.specs.Endian.{big_bytes}
use Rattle.plist_value.specs.Plist.{Scalar, text, whole, flag, real4, real8, moment, bytes}

-- the least of 1, 2, 4 and 8 bytes that n fits in
abbrev pub least_width : ℕ → ℕ
least_width n = if nat_lt n 256 then 1
    else (if nat_lt n 65536 then 2 else (if nat_lt n 4294967296 then 4 else 8))

-- the marker of an integer of 1, 2, 4 or 8 bytes
abbrev pub integer_marker : ℕ → ℕ
integer_marker n = if nat_lt n 256 then 16
    else (if nat_lt n 65536 then 17 else (if nat_lt n 4294967296 then 18 else 19))

-- a number that is not negative, in the least width
abbrev pub least_integer : ℕ → List ℕ
least_integer n = integer_marker n ∷ big_bytes (least_width n) n

-- numbers from 2^63 take sixteen bytes, negative ones eight in two's complement
abbrev pub whole_spelling : ℤ → List ℕ
whole_spelling (pos n) =
    if nat_lt n 9223372036854775808 then least_integer n else 20 ∷ (replicate 8 0 ++ big_bytes 8 n)
whole_spelling (negsuc n) = 19 ∷ big_bytes 8 (18446744073709551615 - n)

-- a marker with the count in its low half, or with 15 there and the count after it
abbrev pub head : ℕ → ℕ → List ℕ
head kind n = if nat_lt n 15 then (16 * kind + n) ∷ [] else (16 * kind + 15) ∷ least_integer n

-- each number in `width` bytes
abbrev pub references : ℕ → List ℕ → List ℕ
references width refs = flat_map (λ r. big_bytes width r) refs

abbrev pub text_spelling : List ℕ → List ℕ
text_spelling units =
    if list_all (λ u. nat_lt u 128) units then head 5 (length units) ++ units
    else head 6 (length units) ++ references 2 units

abbrev pub scalar_spelling : Scalar → List ℕ
scalar_spelling (text units) = text_spelling units
scalar_spelling (whole z) = whole_spelling z
scalar_spelling (flag b) = (if b then 9 else 8) ∷ []
scalar_spelling (real4 xs) = 34 ∷ xs
scalar_spelling (real8 xs) = 35 ∷ xs
scalar_spelling (moment xs) = 51 ∷ xs
scalar_spelling (bytes xs) = head 4 (length xs) ++ xs

abbrev pub list_spelling : ℕ → List ℕ → List ℕ
list_spelling width refs = head 10 (length refs) ++ references width refs

abbrev pub table_spelling : ℕ → List ℕ → List ℕ → List ℕ
table_spelling width keys values = head 13 (length keys)
    ++ (references width keys ++ references width values)
