-- Decoding inverts encoding, whatever follows the encoded bytes.
use Rattle.std.proofs.Common.{◌≡◌, ℕ, ◌+◌, ◌*◌, ◌/◌, ◌%◌, ◌^◌, ◌<◌, ◌≤◌, false, ltb, List, [], ◌∷◌, ◌++◌, length, Ok, refl, sym, ap, ◌∙◌, arith, length-append, ⊎_elim, lt-ltb, le-ltb}
use Rattle.std.proofs.lemmas.List.{take_at, drop_at, append-nil}
use Rattle.std.proofs.lemmas.Bool.{cases_lt}
use Rattle.std.proofs.lemmas.Bool.Decides.{nat_tests}
use Rattle.byteorder.specs.Endian.{big_number, big_bytes}
use Rattle.byteorder.specs.Numbers.{big_number-reads_back, length-bytes_high_first}
use Rattle.plist_object.specs.Objects.{cut, integer_length, count_spelled, count_of_content, content, object_in, marked_object}
use Rattle.plist_object.specs.Spelling.{least_width, integer_marker, least_integer, head}

-- n bytes are cut off from those that follow
pub cut-append : (n : ℕ) (xs rest : List ℕ) → length xs ≡ n → cut n (xs ++ rest) ≡ Ok (xs, rest)
cut-append n xs rest long =
    let enough : ltb (length (xs ++ rest)) n ≡ false = rw length-append (grind (arith, nat_tests)) in
    rw (enough, take_at xs rest n long, drop_at xs rest n long) refl

pub big_number-big_bytes : (w n : ℕ) → n < 256 ^ w → big_number w (big_bytes w n) ≡ n
big_number-big_bytes w n h =
    ap (big_number w) (sym (append-nil (big_bytes w n))) ∙ big_number-reads_back w n [] h

-- an integer after its marker
pub count_spelled-integer : (marker w n : ℕ) (rest : List ℕ) → integer_length marker ≡ Ok w → n < 256 ^ w → count_spelled (marker ∷ (big_bytes w n ++ rest)) ≡ Ok (n, rest)
unfolding count_spelled
count_spelled-integer marker w n rest marked fits =
    rw (marked, cut-append w (big_bytes w n) rest (length-bytes_high_first w n), big_number-big_bytes w n fits) refl

-- a number fits its least width, which has the number's marker
pub record IsLeast (n : ℕ) : Type 0 where
  pub marked : integer_length (integer_marker n) ≡ Ok (least_width n)
  pub fits : n < 256 ^ least_width n

pub is_least : (n : ℕ) → n < 18446744073709551616 → IsLeast n
is_least n h =
    ⊎_elim
    (λ (one : n < 256). record { marked = rw (lt-ltb n 256 one) refl; fits = rw (lt-ltb n 256 one) (omega arith) })
    (λ (over : 256 ≤ n).
    ⊎_elim
    (λ (two : n < 65536). record { marked = rw (le-ltb n 256 over, lt-ltb n 65536 two) refl; fits = rw (le-ltb n 256 over, lt-ltb n 65536 two) (omega arith) })
    (λ (over' : 65536 ≤ n).
    ⊎_elim
    (λ (four : n < 4294967296). record { marked = rw (le-ltb n 256 over, le-ltb n 65536 over', lt-ltb n 4294967296 four) refl; fits = rw (le-ltb n 256 over, le-ltb n 65536 over', lt-ltb n 4294967296 four) (omega arith) })
    (λ (over'' : 4294967296 ≤ n). record { marked = rw (le-ltb n 256 over, le-ltb n 65536 over', le-ltb n 4294967296 over'') refl; fits = rw (le-ltb n 256 over, le-ltb n 65536 over', le-ltb n 4294967296 over'') (omega arith) })
    (cases_lt n 4294967296))
    (cases_lt n 65536))
    (cases_lt n 256)

-- a least integer is decoded as a count
pub count_spelled-least_integer : (n : ℕ) (rest : List ℕ) → n < 18446744073709551616 → count_spelled (least_integer n ++ rest) ≡ Ok (n, rest)
count_spelled-least_integer n rest h =
    let least = is_least n h in
    count_spelled-integer (integer_marker n) (least_width n) n rest least.marked least.fits

-- A marker with its kind in the high half, and bytes from which the count is decoded.
pub record IsHead (kind n : ℕ) (octets rest : List ℕ) : Type 0 where
  pub low : ℕ
  pub behind : List ℕ
  pub half : low < 16
  pub is : octets ≡ (16 * kind + low) ∷ behind
  pub counts : count_of_content low behind ≡ Ok (n, rest)

pub is_head : (kind n : ℕ) (rest : List ℕ) → n < 18446744073709551616 → IsHead kind n (head kind n ++ rest) rest
unfolding count_of_content
is_head kind n rest h =
    ⊎_elim
    (λ (short : n < 15). record {
      low = n;
      behind = rest;
      half = omega arith;
      is = rw (lt-ltb n 15 short) refl;
      counts = rw (lt-ltb n 15 short) refl;
    })
    (λ (long : 15 ≤ n). record {
      low = 15;
      behind = least_integer n ++ rest;
      half = omega arith;
      is = rw (le-ltb n 15 long) refl;
      counts = count_spelled-least_integer n rest h;
    })
    (cases_lt n 15)

pub object_in-marked : (width kind low : ℕ) (octets : List ℕ) → low < 16 → object_in width ((16 * kind + low) ∷ octets) ≡ marked_object width kind low octets
object_in-marked width kind low octets h =
    let high : (16 * kind + low) / 16 ≡ kind = omega arith in
    let half : (16 * kind + low) % 16 ≡ low = omega arith in
    rw (high, half) refl

-- an object with a count is decoded by its kind and count
pub object_in-head : (width kind n : ℕ) (rest : List ℕ) (h : n < 18446744073709551616) → object_in width (head kind n ++ rest) ≡ marked_object width kind (is_head kind n rest h).low (is_head kind n rest h).behind
object_in-head width kind n rest h =
    let x = is_head kind n rest h in
    ap (object_in width) x.is ∙ object_in-marked width kind x.low x.behind x.half

-- the content after a count
pub content-counted : (unit low n : ℕ) (behind xs rest : List ℕ) → count_of_content low behind ≡ Ok (n, xs ++ rest) → length xs ≡ n * unit → content unit low behind ≡ Ok (n, xs, rest)
unfolding content
content-counted unit low n behind xs rest counts long =
    rw (counts, cut-append (n * unit) xs rest long) refl
