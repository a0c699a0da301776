-- Decoding inverts the encoding of arrays and dictionaries, whatever follows.
use Rattle.std.proofs.Common.{◌≡◌, ℕ, suc, ◌*◌, ◌^◌, ◌<◌, List, [], ◌∷◌, ◌++◌, length, drop, Ok, refl, sym, ap, ◌∙◌, arith, length-append, append_assoc}
use Rattle.std.proofs.lemmas.List.{drop_at, append-nil}
use Rattle.std.specs.List.{AllByRecursion}
use Rattle.byteorder.specs.Endian.{big_bytes}
use Rattle.byteorder.specs.Numbers.{big_number-reads_back, length-bytes_high_first}
use Rattle.plist_object.specs.Objects.{holds_list, holds_table, numbers, object_in, marked_object, list_object, table_object}
use Rattle.plist_object.specs.Spelling.{references, list_spelling, table_spelling}
use Rattle.plist_object.proofs.Counts.{length-references}
use Rattle.plist_object.proofs.ReadBack.{is_head, object_in-head, content-counted}

-- each number fits `width` bytes
abbrev pub AllFit : ℕ → List ℕ → Type 0
AllFit width refs = AllByRecursion (λ r. r < 256 ^ width) refs

pub numbers-references : (width : ℕ) (refs rest : List ℕ) → AllFit width refs → numbers width (length refs) (references width refs ++ rest) ≡ refs
numbers-references width [] rest fit = refl
numbers-references width (r ∷ refs) rest fit =
    let regrouped : references width (r ∷ refs) ++ rest ≡ big_bytes width r ++ (references width refs ++ rest) = append_assoc (big_bytes width r) (references width refs) rest in
    let first = big_number-reads_back width r (references width refs ++ rest) fit.0 in
    let behind = drop_at (big_bytes width r) (references width refs ++ rest) width (length-bytes_high_first width r) in
    let others = numbers-references width refs rest fit.1 in
    ap (λ (xs : List ℕ). numbers width (suc (length refs)) xs) regrouped ∙ rw (first, behind, others) refl

pub object_in-list : (width : ℕ) (refs rest : List ℕ) → length refs < 2 ^ 32 → AllFit width refs → object_in width (list_spelling width refs ++ rest) ≡ Ok (holds_list refs, rest)
unfolding marked_object list_object
object_in-list width refs rest h fit =
    let small : length refs < 18446744073709551616 = omega arith in
    let x = is_head 10 (length refs) (references width refs ++ rest) small in
    let long : length (references width refs) ≡ length refs * width = omega (arith, length-references width refs) in
    let none : references width refs ≡ references width refs ++ [] = sym (append-nil (references width refs)) in
    let read : numbers width (length refs) (references width refs) ≡ refs = ap (numbers width (length refs)) none ∙ numbers-references width refs [] fit in
    rw (append_assoc, object_in-head width 10 (length refs) (references width refs ++ rest) small, content-counted width x.low (length refs) x.behind (references width refs) rest x.counts long, read) refl

pub object_in-table : (width : ℕ) (keys values rest : List ℕ) → length keys < 2 ^ 32 → length keys ≡ length values → AllFit width keys → AllFit width values → object_in width (table_spelling width keys values ++ rest) ≡ Ok (holds_table keys values, rest)
unfolding marked_object table_object
object_in-table width keys values rest h same fit_keys fit_values =
    let small : length keys < 18446744073709551616 = omega arith in
    let both = references width keys ++ references width values in
    let x = is_head 13 (length keys) (both ++ rest) small in
    let long_keys : length (references width keys) ≡ length keys * width = omega (arith, length-references width keys) in
    let long_values : length (references width values) ≡ length keys * width = rw same (omega (arith, length-references width values)) in
    let long : length both ≡ length keys * (2 * width) = rw length-append (omega arith) in
    let none : references width values ≡ references width values ++ [] = sym (append-nil (references width values)) in
    let read_keys : numbers width (length keys) both ≡ keys = numbers-references width keys (references width values) fit_keys in
    let behind : drop (length keys * width) both ≡ references width values = drop_at (references width keys) (references width values) (length keys * width) long_keys in
    let read_values : numbers width (length keys) (references width values) ≡ values = rw same (ap (numbers width (length values)) none ∙ numbers-references width values [] fit_values) in
    rw (append_assoc, object_in-head width 13 (length keys) (both ++ rest) small, content-counted (2 * width) x.low (length keys) x.behind both rest x.counts long, read_keys, behind, read_values) refl
