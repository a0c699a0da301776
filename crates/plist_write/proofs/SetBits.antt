-- Setting one bit in a list of words.
use Rattle.std.proofs.Common.{◌≡◌, ℕ, ◌*◌, ◌/◌, ◌%◌, ◌^◌, ◌<◌, ◌≤◌, ◌∙◌, List, length, get_or, set, replicate, sym, ap, true, inl, inr, arith, w64, eqb, eq-eqb, eqb-true}
use Rattle.std.specs.Prelude.{◌↔◌, bit_and, bit_or}
use Rattle.std.specs.Int.{bit_at}
use Rattle.std.proofs.lemmas.Bool.{cases_eq}
use Rattle.std.proofs.lemmas.List.{get_or-set_same, get_or-set_other, get_or_past, get_or-replicate}
use Rattle.std.proofs.lemmas.Grind.{get_or_default_zero}
use Rattle.std.proofs.lemmas.Nat.Bits.{bit_at_set_same, bit_at_set_other, bit_at_ones, bit_at-zero, shr_and_one}
use Rattle.plist_write.specs.Bits.{IsSet}

abbrev ones : ℕ
ones = 18446744073709551615

pub bit_in_word : (words : List ℕ) (n : ℕ) → n / 64 < length words → (eqb (bit_and (get_or words (n / 64) 0 / 2 ^ (n % 64)) 1) 1 ≡ true) ↔ IsSet words n
unfolding IsSet
bit_in_word words n within =
    let word = get_or words (n / 64) 0 in
    rw (get_or_default_zero words (n / 64) ones within, shr_and_one word (n % 64)) (eqb-true (bit_at word (n % 64)) 1, eq-eqb (bit_at word (n % 64)) 1)

pub bit_behind : (words : List ℕ) (n : ℕ) → length words ≤ n / 64 → IsSet words n
unfolding IsSet
bit_behind words n past =
    rw (get_or_past words (n / 64) ones past) (bit_at_ones 64 (n % 64) (omega arith))

module _ (words : List ℕ) (n : ℕ) (within : n / 64 < length words) where
  abbrev word : ℕ
  word = get_or words (n / 64) 0

  abbrev joined : ℕ
  joined = bit_or word (1 * 2 ^ (n % 64) % 2 ^ 64)

  abbrev after : List ℕ
  after = set words (n / 64) joined

  low : n % 64 < 64
  low = omega arith

  now : get_or after (n / 64) ones ≡ joined
  now = get_or-set_same words (n / 64) joined ones within

  pub bit_set : IsSet after n
  unfolding IsSet
  bit_set = rw now (bit_at_set_same w64 word (n % 64) low)

  same_word : (m : ℕ) → m / 64 ≡ n / 64 → IsSet words m → IsSet after m
  unfolding IsSet
  same_word m is has =
      let here : get_or words (n / 64) ones ≡ word = get_or_default_zero words (n / 64) ones within in
      let had : bit_at word (m % 64) ≡ 1 = rw (is, here) at has in
      let bit : bit_at joined (m % 64) ≡ 1 = elim (cases_eq (m % 64) (n % 64)) [
        | inl same ↦ rw same (bit_at_set_same w64 word (n % 64) low)
        | inr other ↦ bit_at_set_other w64 word (n % 64) low (m % 64) other ∙ had
      ] in
      rw (is, now) bit

  other_word : (m : ℕ) → (m / 64 ≡ n / 64 → ⊥) → IsSet words m → IsSet after m
  unfolding IsSet
  other_word m apart has =
      rw (get_or-set_other words (n / 64) (m / 64) joined ones apart) has

  pub bits_kept : (m : ℕ) → IsSet words m → IsSet after m
  bits_kept m has = elim (cases_eq (m / 64) (n / 64)) [
    | inl is ↦ same_word m is has
    | inr apart ↦ other_word m apart has
  ]

-- words of zeros have no bit set
pub no_bit : (n count : ℕ) → n / 64 < count → IsSet (replicate count 0) n → ⊥
unfolding IsSet
no_bit n count within is =
    let zero : get_or (replicate count 0) (n / 64) ones ≡ 0 = get_or-replicate count (n / 64) 0 ones within in
    let none : 0 ≡ 1 = sym (ap (λ word. bit_at word (n % 64)) zero ∙ bit_at-zero (n % 64)) ∙ is in
    absurd (omega (arith, none))
