-- Decoding inverts the encoding of scalars, whatever follows.
use Rattle.std.proofs.Common.{◌≡◌, ℕ, suc, ◌+◌, ◌-◌, ◌*◌, ◌/◌, ◌%◌, ◌^◌, ◌<◌, ◌≤◌, Bool, true, false, cond, ltb, eqb, ℤ, pos, negsuc, List, [], ◌∷◌, ◌++◌, length, replicate, Result, Ok, refl, ap, ◌∙◌, arith, append_assoc, ⊎_elim, lt-ltb, le-ltb}
use Rattle.std.specs.List.{list_all}
use Rattle.std.specs.Int.{w64, cast_signed}
use Rattle.std.proofs.lemmas.Bool.{cases_lt}
use Rattle.std.proofs.lemmas.Int.{ints, to_z_pos}
use Rattle.plist_object.specs.declared.object.ObjectFault.{ObjectFault}
use Rattle.byteorder.specs.Endian.{big_number, big_bytes}
use Rattle.plist_value.specs.Plist.{Scalar, text, whole, flag, real4, real8, moment, bytes, IsScalar, IsWhole, AreUnits}
use Rattle.plist_value.specs.Texts.{wide_units}
use Rattle.plist_object.specs.Objects.{holds_scalar, integer_length, whole_in, object_in, marked_object, simple_object, whole_object, real_object, moment_object, data_object, ascii_object, wide_object}
use Rattle.plist_object.specs.Spelling.{least_integer, head, references, scalar_spelling, text_spelling, whole_spelling}
use Rattle.plist_object.specs.Sizes.{IsSmall}
use Rattle.plist_object.proofs.ReadBack.{cut-append, big_number-big_bytes, is_head, object_in-head, object_in-marked, content-counted}

object_in-data : (width : ℕ) (xs rest : List ℕ) → length xs < 2 ^ 32 → object_in width ((head 4 (length xs) ++ xs) ++ rest) ≡ Ok (holds_scalar (bytes xs), rest)
unfolding marked_object data_object
object_in-data width xs rest h =
    let small : length xs < 18446744073709551616 = omega arith in
    let x = is_head 4 (length xs) (xs ++ rest) small in
    let all : length xs ≡ length xs * 1 = omega arith in
    rw (append_assoc, object_in-head width 4 (length xs) (xs ++ rest) small, content-counted 1 x.low (length xs) x.behind xs rest x.counts all) refl

object_in-ascii : (width : ℕ) (xs rest : List ℕ) → length xs < 2 ^ 32 → list_all (λ u. ltb u 128) xs ≡ true → object_in width ((head 5 (length xs) ++ xs) ++ rest) ≡ Ok (holds_scalar (text xs), rest)
unfolding marked_object ascii_object
object_in-ascii width xs rest h ascii =
    let small : length xs < 18446744073709551616 = omega arith in
    let x = is_head 5 (length xs) (xs ++ rest) small in
    let all : length xs ≡ length xs * 1 = omega arith in
    rw (append_assoc, object_in-head width 5 (length xs) (xs ++ rest) small, content-counted 1 x.low (length xs) x.behind xs rest x.counts all, ascii) refl

pub length-pairs : (us : List ℕ) → length (references 2 us) ≡ length us * 2
length-pairs [] = refl
length-pairs (u ∷ us) = let others = length-pairs us in omega (arith, others)

wide_units-references : (us : List ℕ) → AreUnits us → wide_units (references 2 us) ≡ us
wide_units-references [] h = refl
wide_units-references (u ∷ us) h =
    let first : u < 65536 = h 0 in
    let others = wide_units-references us (λ i. h (suc i)) in
    let unit : 256 * (u / 256 ^ 1 % 256) + u % 256 ≡ u = omega arith in
    rw (unit, others) refl

object_in-wide : (width : ℕ) (us rest : List ℕ) → length us < 2 ^ 32 → AreUnits us → object_in width ((head 6 (length us) ++ references 2 us) ++ rest) ≡ Ok (holds_scalar (text us), rest)
unfolding marked_object wide_object
object_in-wide width us rest h units =
    let small : length us < 18446744073709551616 = omega arith in
    let x = is_head 6 (length us) (references 2 us ++ rest) small in
    rw (append_assoc, object_in-head width 6 (length us) (references 2 us ++ rest) small, content-counted 2 x.low (length us) x.behind (references 2 us) rest x.counts (length-pairs us), wide_units-references us units) refl

object_in-either : (width : ℕ) (us rest : List ℕ) (ascii : Bool) → list_all (λ u. ltb u 128) us ≡ ascii → length us < 2 ^ 32 → AreUnits us → object_in width (cond ascii (head 5 (length us) ++ us) (head 6 (length us) ++ references 2 us) ++ rest) ≡ Ok (holds_scalar (text us), rest)
object_in-either width us rest true is h units = object_in-ascii width us rest h is
object_in-either width us rest false is h units = object_in-wide width us rest h units

object_in-text : (width : ℕ) (us rest : List ℕ) → length us < 2 ^ 32 → AreUnits us → object_in width (text_spelling us ++ rest) ≡ Ok (holds_scalar (text us), rest)
object_in-text width us rest h units =
    object_in-either width us rest (list_all (λ u. ltb u 128) us) refl h units

object_in-digits : (width w low : ℕ) (digits : List ℕ) (z : ℤ) (rest : List ℕ) → low < 16 → integer_length (16 + low) ≡ Ok w → length digits ≡ w → whole_in w digits ≡ Ok z → object_in width ((16 * 1 + low) ∷ (digits ++ rest)) ≡ Ok (holds_scalar (whole z), rest)
unfolding marked_object whole_object
object_in-digits width w low digits z rest half long exact reads =
    rw (object_in-marked width 1 low (digits ++ rest) half, long, cut-append w digits rest exact, reads) refl

-- eight bytes, as two's complement
whole_in-signed : (n : ℕ) (z : ℤ) → n < 18446744073709551616 → cast_signed w64 n ≡ z → whole_in 8 (big_bytes 8 n) ≡ Ok z
whole_in-signed n z h signed =
    let read : big_number 8 (big_bytes 8 n) ≡ n = big_number-big_bytes 8 n h in
    let number : ℕ → Result ℤ ObjectFault = λ m. Ok (cast_signed w64 m) in
    ap number read ∙ ap Ok signed

whole_in-unsigned : (w n : ℕ) → n < 256 ^ w → eqb w 16 ≡ false → eqb w 8 ≡ false → whole_in w (big_bytes w n) ≡ Ok (pos n)
whole_in-unsigned w n h long signed = rw (long, signed, big_number-big_bytes w n h) refl

object_in-least : (width n : ℕ) (rest : List ℕ) → n < 9223372036854775808 → object_in width (least_integer n ++ rest) ≡ Ok (holds_scalar (whole (pos n)), rest)
object_in-least width n rest h =
    ⊎_elim
    (λ (one : n < 256). rw (lt-ltb n 256 one) (object_in-digits width 1 0 (big_bytes 1 n) (pos n) rest (omega arith) refl refl (whole_in-unsigned 1 n one refl refl)))
    (λ (over : 256 ≤ n).
    ⊎_elim
    (λ (two : n < 65536). rw (le-ltb n 256 over, lt-ltb n 65536 two) (object_in-digits width 2 1 (big_bytes 2 n) (pos n) rest (omega arith) refl refl (whole_in-unsigned 2 n two refl refl)))
    (λ (over' : 65536 ≤ n).
    ⊎_elim
    (λ (four : n < 4294967296). rw (le-ltb n 256 over, le-ltb n 65536 over', lt-ltb n 4294967296 four) (object_in-digits width 4 2 (big_bytes 4 n) (pos n) rest (omega arith) refl refl (whole_in-unsigned 4 n four refl refl)))
    (λ (over'' : 4294967296 ≤ n). rw (le-ltb n 256 over, le-ltb n 65536 over', le-ltb n 4294967296 over'') (object_in-digits width 8 3 (big_bytes 8 n) (pos n) rest (omega arith) refl refl (whole_in-signed n (pos n) (omega arith) (to_z_pos w64 n h))))
    (cases_lt n 4294967296))
    (cases_lt n 65536))
    (cases_lt n 256)

-- sixteen bytes, of which eight are zero
whole_in-long : (n : ℕ) → n < 18446744073709551616 → whole_in 16 (replicate 8 0 ++ big_bytes 8 n) ≡ Ok (pos n)
whole_in-long n h =
    let number : ℕ → Result ℤ ObjectFault = λ m. Ok (pos m) in
    ap number (big_number-big_bytes 8 n h)

object_in-long : (width n : ℕ) (rest : List ℕ) → n < 18446744073709551616 → object_in width ((20 ∷ (replicate 8 0 ++ big_bytes 8 n)) ++ rest) ≡ Ok (holds_scalar (whole (pos n)), rest)
object_in-long width n rest h =
    object_in-digits width 16 4 (replicate 8 0 ++ big_bytes 8 n) (pos n) rest (omega arith) refl refl (whole_in-long n h)

object_in-whole : (width : ℕ) (z : ℤ) (rest : List ℕ) → IsWhole z → object_in width (whole_spelling z ++ rest) ≡ Ok (holds_scalar (whole z), rest)
object_in-whole width (pos n) rest h =
    let most : n < 18446744073709551616 = omega (arith, ints, h.most) in
    ⊎_elim
    (λ (short : n < 9223372036854775808). rw (lt-ltb n 9223372036854775808 short) (object_in-least width n rest short))
    (λ (long : 9223372036854775808 ≤ n). rw (le-ltb n 9223372036854775808 long) (object_in-long width n rest most))
    (cases_lt n 9223372036854775808)
object_in-whole width (negsuc n) rest h =
    let least : n < 9223372036854775808 = omega (arith, ints, h.least) in
    let unsigned : 18446744073709551615 - n < 18446744073709551616 = omega arith in
    let high : ltb (18446744073709551615 - n) 9223372036854775808 ≡ false = le-ltb (18446744073709551615 - n) 9223372036854775808 (omega arith) in
    let back : 18446744073709551616 - suc (18446744073709551615 - n) ≡ n = omega arith in
    let signed : cast_signed w64 (18446744073709551615 - n) ≡ negsuc n = rw high (ap negsuc back) in
    object_in-digits width 8 3 (big_bytes 8 (18446744073709551615 - n)) (negsuc n) rest (omega arith) refl refl (whole_in-signed (18446744073709551615 - n) (negsuc n) unsigned signed)

pub object_in-scalar : (width : ℕ) (s : Scalar) (rest : List ℕ) → IsScalar s → IsSmall s → object_in width (scalar_spelling s ++ rest) ≡ Ok (holds_scalar s, rest)
unfolding marked_object simple_object real_object moment_object
object_in-scalar width (text us) rest valid small = object_in-text width us rest small valid
object_in-scalar width (whole z) rest valid small = object_in-whole width z rest valid
object_in-scalar width (flag true) rest valid small = refl
object_in-scalar width (flag false) rest valid small = refl
object_in-scalar width (real4 xs) rest valid small = rw (cut-append 4 xs rest valid.long) refl
object_in-scalar width (real8 xs) rest valid small = rw (cut-append 8 xs rest valid.long) refl
object_in-scalar width (moment xs) rest valid small = rw (cut-append 8 xs rest valid.long) refl
object_in-scalar width (bytes xs) rest valid small = object_in-data width xs rest small
