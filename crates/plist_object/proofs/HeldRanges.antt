-- The content of an object has its numbers in their ranges.
use Rattle.std.proofs.Common.{◌≡◌, ◌≢◌, ℕ, suc, ◌+◌, ◌-◌, ◌*◌, ◌/◌, ◌%◌, ◌^◌, ◌<◌, ◌≤◌, eqb, ltb, cond, Bool, pos, negsuc, List, [], ◌∷◌, length, take, drop, Result, Ok, Err, IfOk, nat_le, nat_lt, ◌&&◌, refl, sym, subst, ◌∙◌, arith, length-take-le}
use Rattle.std.specs.Int.{w64, cast_signed}
use Rattle.std.specs.List.{list_all}
use Rattle.std.proofs.Math.Nat.{pow-le-pow_right}
use Rattle.std.proofs.lemmas.Bool.{cond_both, ltb-false, eqb-false}
use Rattle.std.proofs.lemmas.Int.{ints}
use Rattle.byteorder.specs.Endian.{big_number}
use Rattle.byteorder.specs.Numbers.{big_from-lt}
use Rattle.plist_value.specs.Plist.{Scalar, real4, real8, moment, AreOctets, IsOctetsOf, IsWhole, IsScalar}
use Rattle.plist_value.proofs.WideUnits.{AreUnits-wide_units}
use Rattle.plist_object.specs.declared.object.ObjectFault.{ObjectFault}
use Rattle.plist_object.specs.Layout.{trailer_of}
use Rattle.plist_object.specs.Objects.{Content, holds_scalar, IsContent, ◌>>=◌, cut, integer_length, count_spelled, count_of_content, content, whole_in, simple_object, whole_object, real_object, moment_object, data_object, ascii_object, wide_object, list_object, table_object, marked_object, object_in}
use Rattle.plist_object.specs.Places.{Holds, place_of, octets_at, object_at, what_holds}
use Rattle.plist_object.proofs.Listed.{length-numbers}
use Rattle.plist_object.proofs.SameOctets.{AreOctets-take, AreOctets-drop}

-- what holds of the result of the first step is passed to the next
IfOk-then : {A B : Type 0} (m : Result A ObjectFault) (next : A → Result B ObjectFault) (P : A → Type 0) (Q : B → Type 0) → IfOk m P → ((a : A) → P a → IfOk (next a) Q) → IfOk (m >>= next) Q
IfOk-then (Ok a) next P Q h each = each a h
IfOk-then (Err e) next P Q h each = tt

-- bytes cut in two
record IsCut (n : ℕ) (parts : List ℕ × List ℕ) : Type 0 where
  long : length parts.0 ≡ n
  front : AreOctets parts.0
  back : AreOctets parts.1

cut-octets : (n : ℕ) (octets : List ℕ) → AreOctets octets → IfOk (cut n octets) (IsCut n)
cut-octets n octets h =
    cond_both (ltb (length octets) n) _ _ (λ r. IfOk r (IsCut n)) (λ _. tt)
    (λ e. let enough = ltb-false (length octets) n e in record { long = length-take-le n octets enough; front = AreOctets-take n octets h; back = AreOctets-drop n octets h })

-- an integer has sixteen bytes, or at most eight
integer_length-small : (marker : ℕ) → IfOk (integer_length marker) (λ n. n ≢ 16 → n ≤ 8)
integer_length-small marker =
    cond_both (eqb marker 16) _ _ (λ r. IfOk r (λ n. n ≢ 16 → n ≤ 8)) (λ _ _. omega arith)
    (λ _. cond_both (eqb marker 17) _ _ (λ r. IfOk r (λ n. n ≢ 16 → n ≤ 8)) (λ _ _. omega arith)
    (λ _. cond_both (eqb marker 18) _ _ (λ r. IfOk r (λ n. n ≢ 16 → n ≤ 8)) (λ _ _. omega arith)
    (λ _. cond_both (eqb marker 19) _ _ (λ r. IfOk r (λ n. n ≢ 16 → n ≤ 8)) (λ _ _. omega arith)
    (λ _. cond_both (eqb marker 20) _ _ (λ r. IfOk r (λ n. n ≢ 16 → n ≤ 8)) (λ _ apart. absurd (apart refl)) (λ _. tt)))))

-- what follows the count consists of bytes
abbrev CountsOctets : Result (ℕ × List ℕ) ObjectFault → Type 0
CountsOctets r = IfOk r (λ c. AreOctets c.1)

count-octets : (low : ℕ) (octets : List ℕ) → AreOctets octets → CountsOctets (count_of_content low octets)
unfolding count_of_content count_spelled
count-octets low [] h = cond_both (ltb low 15) _ _ CountsOctets (λ _. h) (λ _. tt)
count-octets low (marker ∷ octets) h =
    cond_both (ltb low 15) _ _ CountsOctets (λ _. h)
    (λ _. IfOk-then (integer_length marker) _ (λ n. n ≢ 16 → n ≤ 8) _ (integer_length-small marker)
    (λ n small. IfOk-then (cut n octets) _ (IsCut n) _ (cut-octets n octets (λ i. h (suc i))) (λ parts is. is.back)))

-- the content consists of bytes
abbrev HasContent : Result (ℕ × List ℕ × List ℕ) ObjectFault → Type 0
HasContent r = IfOk r (λ c. AreOctets c.1)

content-octets : (unit low : ℕ) (octets : List ℕ) → AreOctets octets → HasContent (content unit low octets)
unfolding content
content-octets unit low octets h =
    IfOk-then (count_of_content low octets) _ (λ c. AreOctets c.1) _ (count-octets low octets h)
    (λ counted behind. IfOk-then (cut (counted.0 * unit) counted.1) _ (IsCut (counted.0 * unit)) _ (cut-octets (counted.0 * unit) counted.1 behind) (λ parts is. is.front))

whole-unsigned : (n : ℕ) → n < 18446744073709551616 → IsWhole (pos n)
whole-unsigned n h = record { least = omega (arith, ints); most = omega (arith, ints) }

whole-signed : (n : ℕ) → n < 18446744073709551616 → IsWhole (cast_signed w64 n)
whole-signed n h =
    cond_both (ltb n 9223372036854775808) (pos n) (negsuc (18446744073709551616 - suc n)) IsWhole
    (λ _. whole-unsigned n h)
    (λ e. let high = ltb-false n 9223372036854775808 e in record { least = omega (arith, ints); most = omega (arith, ints) })

number-small : (n : ℕ) (octets : List ℕ) → n ≤ 8 → AreOctets octets → big_number n octets < 18446744073709551616
number-small n octets small h =
    let under = big_from-lt 0 n octets h in
    let most : 256 ^ n ≤ 256 ^ 8 = pow-le-pow_right {n = 256} (omega arith) small in
    omega arith

whole_in-range : (n : ℕ) (octets : List ℕ) → (n ≢ 16 → n ≤ 8) → AreOctets octets → IfOk (whole_in n octets) IsWhole
whole_in-range n octets small h =
    cond_both (eqb n 16) _ _ (λ r. IfOk r IsWhole)
    (λ _. cond_both (eqb (big_number 8 octets) 0) _ _ (λ r. IfOk r IsWhole) (λ _. whole-unsigned _ (number-small 8 (drop 8 octets) (omega arith) (AreOctets-drop 8 octets h))) (λ _. tt))
    (λ e. cond_both (eqb n 8) _ _ (λ r. IfOk r IsWhole)
    (λ _. whole-signed _ (number-small 8 octets (omega arith) h))
    (λ _. whole-unsigned _ (number-small n octets (small (eqb-false n 16 e)) h)))

-- the decoded content is in its ranges
abbrev ReadsHeld : Result (Content × List ℕ) ObjectFault → Type 0
ReadsHeld r = IfOk r (λ read. IsContent read.0)

simple : (low : ℕ) (octets : List ℕ) → ReadsHeld (simple_object low octets)
unfolding simple_object
simple low octets =
    cond_both (eqb low 0) _ _ ReadsHeld (λ _. tt) (λ _. cond_both (eqb low 8) _ _ ReadsHeld (λ _. tt) (λ _. cond_both (eqb low 9) _ _ ReadsHeld (λ _. tt) (λ _. tt)))

module _ (octets : List ℕ) (h : AreOctets octets) where
  whole_read : (low : ℕ) → ReadsHeld (whole_object low octets)
  unfolding whole_object
  whole_read low =
      IfOk-then (integer_length (16 + low)) _ (λ n. n ≢ 16 → n ≤ 8) _ (integer_length-small (16 + low))
      (λ n small. IfOk-then (cut n octets) _ (IsCut n) _ (cut-octets n octets h)
      (λ parts is. IfOk-then (whole_in n parts.0) _ IsWhole _ (whole_in-range n parts.0 small is.front) (λ z whole. whole)))

  -- n bytes are the content of a scalar of n bytes
  exact : (n : ℕ) (kind : List ℕ → Scalar) → ((xs : List ℕ) → IsOctetsOf n xs → IsScalar (kind xs)) → ReadsHeld (cut n octets >>= λ parts. Ok (holds_scalar (kind parts.0), parts.1))
  exact n kind valid =
      IfOk-then (cut n octets) _ (IsCut n) _ (cut-octets n octets h) (λ parts is. valid parts.0 (record { long = is.long; octets = is.front }))

  real : (low : ℕ) → ReadsHeld (real_object low octets)
  unfolding real_object
  real low =
      cond_both (eqb low 2) _ _ ReadsHeld (λ _. exact 4 real4 (λ xs is. is))
      (λ _. cond_both (eqb low 3) _ _ ReadsHeld (λ _. exact 8 real8 (λ xs is. is)) (λ _. tt))

  moment_read : (low : ℕ) → ReadsHeld (moment_object low octets)
  unfolding moment_object
  moment_read low = cond_both (eqb low 3) _ _ ReadsHeld (λ _. exact 8 moment (λ xs is. is)) (λ _. tt)

  data_read : (low : ℕ) → ReadsHeld (data_object low octets)
  unfolding data_object
  data_read low = IfOk-then (content 1 low octets) _ (λ c. AreOctets c.1) _ (content-octets 1 low octets h) (λ c is. is)

  ascii : (low : ℕ) → ReadsHeld (ascii_object low octets)
  unfolding ascii_object
  ascii low =
      IfOk-then (content 1 low octets) _ (λ c. AreOctets c.1) _ (content-octets 1 low octets h)
      (λ c is. cond_both (list_all (λ octet. ltb octet 128) c.1) _ _ ReadsHeld (λ _ i. omega (arith, is i)) (λ _. tt))

  wide : (low : ℕ) → ReadsHeld (wide_object low octets)
  unfolding wide_object
  wide low =
      IfOk-then (content 2 low octets) _ (λ c. AreOctets c.1) _ (content-octets 2 low octets h) (λ c is. AreUnits-wide_units c.1 is)

  list_read : (width low : ℕ) → ReadsHeld (list_object width low octets)
  unfolding list_object
  list_read width low =
      IfOk-then (content width low octets) _ (λ c. AreOctets c.1) _ (content-octets width low octets h) (λ c is. tt)

  table_read : (width low : ℕ) → ReadsHeld (table_object width low octets)
  unfolding table_object
  table_read width low =
      IfOk-then (content (2 * width) low octets) _ (λ c. AreOctets c.1) _ (content-octets (2 * width) low octets h)
      (λ c is. length-numbers width c.0 c.1 ∙ sym (length-numbers width c.0 (drop (c.0 * width) c.1)))

  by_test : (b : Bool) (x y : Result (Content × List ℕ) ObjectFault) → ReadsHeld x → ReadsHeld y → ReadsHeld (cond b x y)
  by_test b x y p q = cond_both b x y ReadsHeld (λ _. p) (λ _. q)

  marked : (width high low : ℕ) → ReadsHeld (marked_object width high low octets)
  unfolding marked_object
  marked width high low =
      by_test (eqb high 0) _ _ (simple low octets)
      (by_test (eqb high 1) _ _ (whole_read low)
      (by_test (eqb high 2) _ _ (real low)
      (by_test (eqb high 3) _ _ (moment_read low)
      (by_test (eqb high 4) _ _ (data_read low)
      (by_test (eqb high 5) _ _ (ascii low)
      (by_test (eqb high 6) _ _ (wide low)
      (by_test (eqb high 8) _ _ tt
      (by_test (eqb high 10) _ _ (list_read width low)
      (by_test (eqb high 12) _ _ tt
      (by_test (eqb high 13) _ _ (table_read width low) tt))))))))))

object_in-held : (width : ℕ) (octets : List ℕ) → AreOctets octets → ReadsHeld (object_in width octets)
object_in-held width [] h = tt
object_in-held width (marker ∷ octets) h = marked octets (λ i. h (suc i)) width (marker / 16) (marker % 16)

abbrev GivesOctets : Result (List ℕ) ObjectFault → Type 0
GivesOctets r = IfOk r AreOctets

octets_at-octets : (f : List ℕ) (i : ℕ) → AreOctets f → GivesOctets (octets_at f i)
unfolding octets_at
octets_at-octets f i h =
    cond_both (nat_le 8 (place_of f i) && nat_lt (place_of f i) (trailer_of f).table) _ _ GivesOctets
    (λ _. AreOctets-drop (place_of f i) (take (trailer_of f).table f) (AreOctets-take (trailer_of f).table f h))
    (λ _. tt)

object_at-held : (f : List ℕ) (i : ℕ) → AreOctets f → ReadsHeld (object_at f i)
unfolding object_at
object_at-held f i h =
    IfOk-then (octets_at f i) _ AreOctets _ (octets_at-octets f i h) (λ octets are. object_in-held (trailer_of f).reference_width octets are)

what_holds-held : (f : List ℕ) (i : ℕ) → AreOctets f → IfOk (what_holds f i) IsContent
unfolding what_holds
what_holds-held f i h = IfOk-then (object_at f i) _ (λ read. IsContent read.0) _ (object_at-held f i h) (λ read is. is)

pub Holds-held : (f : List ℕ) (i : ℕ) (held : Content) → AreOctets f → Holds f i held → IsContent held
Holds-held f i held h holds = subst (λ r. IfOk r IsContent) holds.reads (what_holds-held f i h)
