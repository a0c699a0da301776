-- The content of objects, once its bytes are cut off.
use Rattle.std.proofs.Common.{◌≡◌, ℕ, ◌*◌, ◌<◌, ltb, lt-ltb, true, List, [], ◌∷◌, take, drop, Ok, refl, arith}
use Rattle.std.specs.List.{All, AllByRecursion, list_all}
use Rattle.std.proofs.lemmas.List.Elements.{recursion_from_All}
use Rattle.plist_value.specs.Plist.{text}
use Rattle.plist_object.specs.Objects.{holds_scalar, holds_table, content, numbers, ascii_object, table_object}
use Rattle.plist_object.proofs.Listed.{numbers-take}

ascii-by_recursion : (xs : List ℕ) → AllByRecursion (λ x. x < 128) xs → list_all (λ x. ltb x 128) xs ≡ true
ascii-by_recursion [] h = refl
ascii-by_recursion (x ∷ xs) h = rw (lt-ltb x 128 h.0, ascii-by_recursion xs h.1) refl

pub ascii_object-reads : (low n : ℕ) (octets part rest : List ℕ) → content 1 low octets ≡ Ok (n, part, rest) → All (λ x. x < 128) part → ascii_object low octets ≡ Ok (holds_scalar (text part), rest)
unfolding ascii_object
ascii_object-reads low n octets part rest read ascii =
    rw (read, ascii-by_recursion part (recursion_from_All _ _ ascii)) refl

pub table_object-reads : (width low n half : ℕ) (octets part rest : List ℕ) → content (2 * width) low octets ≡ Ok (n, part, rest) → half ≡ n * width → table_object width low octets ≡ Ok (holds_table (numbers width n (take half part)) (numbers width n (drop half part)), rest)
unfolding table_object
table_object-reads width low n half octets part rest read is_half =
    rw (read, is_half, numbers-take width n (n * width) part (omega arith)) refl
