-- Whether the next units of a string fit 8 bits.
use Rattle.std.proofs.Common.{◌≡◌, ℕ, ◌+◌, ◌-◌, ◌<◌, ◌≤◌, List, length, get_or, drop, take, sym, ap, ◌∙◌, subst, arith, inl, inr}
use Rattle.std.proofs.lemmas.Bool.{cases_lt}
use Rattle.std.proofs.lemmas.List.{get_or-drop, get_or-take, get_or_default, length-drop, length-take}
use Rattle.plist_value.specs.declared.text_ref.TextRef.{TextRef}
use Rattle.plist_keys.specs.declared.order.Row.{Row}
use Rattle.plist_keys.specs.KeyOrder.{row_units}
use Rattle.plist_keys.specs.Prefixes.{IsNarrow}

-- the unit at an index of the next eight
next_unit : (units : List ℕ) (front k d : ℕ) → k < 8 → front + k < length units → get_or (take 8 (drop front units)) k d ≡ get_or units (front + k) 0
next_unit units front k d few within =
    get_or-take 8 (drop front units) k d few ∙ get_or-drop front units k d ∙ get_or_default units (front + k) d 0 within

pub narrow_part : (units : List ℕ) (front : ℕ) → ((k : ℕ) → front ≤ k → k < front + 8 → k < length units → get_or units k 0 < 256) → IsNarrow (drop front units)
narrow_part units front each k d h =
    let taken = length-take 8 (drop front units) in
    let dropped = length-drop front units in
    let few : k < 8 = omega (arith, taken, h) in
    let within : front + k < length units = omega (arith, taken, dropped, h) in
    subst (λ (n : ℕ). n < 256) (sym (next_unit units front k d few within)) (each (front + k) (omega arith) (omega (arith, few)) within)

pub wide_part : (units : List ℕ) (front i : ℕ) → front ≤ i → i < front + 8 → i < length units → 256 ≤ get_or units i 0 → ¬ IsNarrow (drop front units)
wide_part units front i low high within wide narrow =
    let taken = length-take 8 (drop front units) in
    let dropped = length-drop front units in
    let back : front + (i - front) ≡ i = omega (arith, low) in
    let few : i - front < 8 = omega (arith, low, high) in
    let under : front + (i - front) < length units = omega (arith, back, within) in
    let below = narrow (i - front) 0 (omega (arith, taken, dropped, few, under)) in
    let is = next_unit units front (i - front) 0 few under ∙ ap (λ (n : ℕ). get_or units n 0) back in
    omega (arith, below, is, wide)

-- one more string whose next units are narrow
pub narrow_more : (texts : List TextRef) (rows : List Row) (front i : ℕ) (e : Row) → i < length rows → ((k : ℕ) (d : Row) → k < i → IsNarrow (drop front (row_units texts (get_or rows k d)))) → IsNarrow (drop front (row_units texts (get_or rows i e))) → (k : ℕ) (d : Row) → k < i + 1 → IsNarrow (drop front (row_units texts (get_or rows k d)))
narrow_more texts rows front i e within before last k d h =
    elim (cases_lt k i) [
      | inl earlier ↦ before k d earlier
      | inr late ↦ (
          let is : i ≡ k = omega (arith, h, late) in
          let same : get_or rows i e ≡ get_or rows k d = get_or_default rows i e d within ∙ ap (λ (n : ℕ). get_or rows n d) is in
          subst (λ (row : Row). IsNarrow (drop front (row_units texts row))) same last)
    ]
