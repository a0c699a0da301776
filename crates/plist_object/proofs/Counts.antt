-- The number of bytes of encoded numbers.
use Rattle.std.proofs.Common.{◌≡◌, ℕ, ◌+◌, ◌*◌, ◌<◌, ◌≤◌, true, false, cond, ltb, List, [], ◌∷◌, length, drop, get_or, refl, ap, ◌∙◌, arith, length-append}
use Rattle.std.proofs.lemmas.List.{drop_more}
use Rattle.std.specs.List.{list_all}
use Rattle.byteorder.specs.Numbers.{length-bytes_high_first}
use Rattle.plist_object.specs.Spelling.{references, text_spelling, list_spelling, table_spelling, head, least_integer, least_width}
use Rattle.plist_object.specs.Sizes.{head_size}

pub length-references : (width : ℕ) (refs : List ℕ) → length (references width refs) ≡ width * length refs
length-references width [] = omega arith
length-references width (r ∷ refs) =
    let first = length-bytes_high_first width r in
    let others = length-references width refs in
    rw length-append (omega (arith, first, others))

pub length-head : (kind n : ℕ) → length (head kind n) ≡ head_size n
length-head kind n =
    elim (ltb n 15) as (λ short. length (cond short ((16 * kind + n) ∷ []) ((16 * kind + 15) ∷ least_integer n)) ≡ cond short 1 (2 + least_width n)) [
      | true ↦ refl
      | false ↦ (let digits = length-bytes_high_first (least_width n) n in omega (arith, digits))
    ]

-- a string with a unit above 7f
pub length-wide_text : (units : List ℕ) → list_all (λ u. ltb u 128) units ≡ false → length (text_spelling units) ≡ head_size (length units) + 2 * length units
length-wide_text units wide =
    rw (wide, length-append) (omega (arith, length-head 6 (length units), length-references 2 units))

pub length-list : (width : ℕ) (refs : List ℕ) → length (list_spelling width refs) ≡ head_size (length refs) + width * length refs
length-list width refs =
    rw length-append (omega (arith, length-head 10 (length refs), length-references width refs))

pub length-table : (width : ℕ) (keys values : List ℕ) → length (table_spelling width keys values) ≡ head_size (length keys) + (width * length keys + width * length values)
length-table width keys values =
    rw (length-append, length-append) (omega (arith, length-head 13 (length keys), length-references width keys, length-references width values))

pub length-table_parts : (width : ℕ) (keys values : List ℕ) → length (table_spelling width keys values) ≡ length (head 13 (length keys)) + (length (references width keys) + length (references width values))
length-table_parts width keys values = rw (length-append, length-append) refl

pub length-list_parts : (width count : ℕ) (refs : List ℕ) → length refs ≡ count → length (list_spelling width refs) ≡ length (head 10 count) + length (references width refs)
length-list_parts width count refs e =
    length-append (head 10 (length refs)) (references width refs) ∙ ap (λ n. length (head 10 n) + length (references width refs)) e

pub length-table_counted : (width count : ℕ) (keys values : List ℕ) → length keys ≡ count → length (table_spelling width keys values) ≡ length (head 13 count) + (length (references width keys) + length (references width values))
length-table_counted width count keys values e =
    length-table_parts width keys values ∙ ap (λ n. length (head 13 n) + (length (references width keys) + length (references width values))) e

-- the bytes of one reference remain if one reference remains
pub references-first : (width : ℕ) (refs : List ℕ) (i : ℕ) → i < length refs → width ≤ length (references width (drop i refs))
references-first width refs i h =
    rw (drop_more refs i 0 h, length-append) (omega (arith, length-bytes_high_first width (get_or refs i 0)))
