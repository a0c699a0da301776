-- Integers in their canonical encoding, recognised by their bytes.
use Rattle.std.proofs.Common.{◌≡◌, ℕ, suc, ◌+◌, ◌-◌, ◌^◌, ◌<◌, ◌≤◌, ℤ, pos, negsuc, List, ◌∷◌, length, take, drop, refl, sym, ◌∙◌, arith, ⊎_elim, lt-ltb, le-ltb}
use Rattle.std.specs.Prelude.{IsOk}
use Rattle.std.proofs.lemmas.Bool.{cases_lt}
use Rattle.std.proofs.lemmas.Int.{ints}
use Rattle.std.proofs.lemmas.List.{length-take-le}
use Rattle.byteorder.specs.Endian.{big_number, big_bytes}
use Rattle.byteorder.specs.Numbers.{big_from-lt}
use Rattle.plist_value.specs.Plist.{whole, AreOctets, IsWhole}
use Rattle.plist_object.specs.Objects.{object_in}
use Rattle.plist_object.specs.Shortest.{BeginsWhole, LeadsScalar}
use Rattle.plist_object.specs.Spelling.{whole_spelling, integer_marker, least_width}
use Rattle.plist_object.proofs.CanonicalHeads.{split_head}
use Rattle.plist_object.proofs.Fixed.{leads}
use Rattle.plist_object.proofs.SameOctets.{big_bytes-big_number}

-- an integer encoded by the marker and w bytes after it
begins_whole : (marker w : ℕ) (z : ℤ) (octets tail : List ℕ) → octets ≡ marker ∷ tail → w ≤ length tail → IsWhole z → whole_spelling z ≡ marker ∷ take w tail → BeginsWhole (1 + w) octets
begins_whole marker w z octets tail parts enough valid spelled =
    let long : length (take w tail) ≡ w = length-take-le w tail enough in
    record {
      number = z;
      whole = valid;
      begins = rw (spelled, parts, long) refl;
      size = rw (spelled, long) (omega arith);
    }

-- a number from 2^63 takes eight bytes
large-width : (n : ℕ) → 9223372036854775808 ≤ n → least_width n ≡ 8
large-width n long =
    rw (le-ltb n 256 (omega arith), le-ltb n 65536 (omega arith), le-ltb n 4294967296 (omega arith)) refl

large-marker : (n : ℕ) → 9223372036854775808 ≤ n → integer_marker n ≡ 19
large-marker n long =
    rw (le-ltb n 256 (omega arith), le-ltb n 65536 (omega arith), le-ltb n 4294967296 (omega arith)) refl

-- an integer of w bytes, which from 2^63 on is a negative one
number_begins : (marker w n : ℕ) (octets tail : List ℕ) → octets ≡ marker ∷ tail → w ≤ length tail → n < 256 ^ w → integer_marker n ≡ marker → least_width n ≡ w → big_bytes w n ≡ take w tail → BeginsWhole (1 + w) octets
number_begins marker w n octets tail parts enough under marked least digits =
    ⊎_elim
    (λ (short : n < 9223372036854775808).
    let valid : IsWhole (pos n) = record { least = omega (arith, ints); most = omega (arith, ints) } in
    let spelled : whole_spelling (pos n) ≡ marker ∷ take w tail = rw (lt-ltb n 9223372036854775808 short, marked, least, digits) refl in
    begins_whole marker w (pos n) octets tail parts enough valid spelled)
    (λ (long : 9223372036854775808 ≤ n).
    let eight : w ≡ 8 = sym least ∙ large-width n long in
    let is_marker : marker ≡ 19 = sym marked ∙ large-marker n long in
    let most : n < 18446744073709551616 = rw eight at under in
    let m = 18446744073709551615 - n in
    let back : 18446744073709551615 - m ≡ n = omega arith in
    let valid : IsWhole (negsuc m) = record { least = omega (arith, ints); most = omega (arith, ints) } in
    let spelled : whole_spelling (negsuc m) ≡ marker ∷ take w tail = rw (back, ← digits, eight, is_marker) refl in
    begins_whole marker w (negsuc m) octets tail parts enough valid spelled)
    (cases_lt n 9223372036854775808)

pub whole-begins : (marker w : ℕ) (octets tail : List ℕ) → octets ≡ marker ∷ tail → AreOctets octets → w ≤ length tail → ((n : ℕ) → least_width n ≡ w → integer_marker n ≡ marker) → least_width (big_number w tail) ≡ w → BeginsWhole (1 + w) octets
whole-begins marker w octets tail parts are enough marks least =
    let n = big_number w tail in
    let all : AreOctets (marker ∷ tail) = rw parts at are in
    let behind : AreOctets tail = λ i. all (suc i) in
    number_begins marker w n octets tail parts enough (big_from-lt 0 w tail behind) (marks n least) least (big_bytes-big_number w tail behind enough)

-- bytes that begin so are an integer in its canonical encoding
pub whole-leads : (n : ℕ) (octets : List ℕ) → BeginsWhole n octets → (width : ℕ) → IsOk (object_in width octets) → LeadsScalar width n octets
whole-leads n octets begins width reads =
    let z = begins.number in
    let spelled = whole_spelling z in
    leads width n (whole z) octets (drop (length spelled) octets) begins.whole tt (split_head spelled octets begins.begins) begins.size
