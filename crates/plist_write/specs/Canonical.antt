-- The canonical file of a value (our profile): one list of bytes for each value.
use Rattle.std.specs.Prelude.{ℕ, suc, ◌+◌, List, length, map}
use Rattle.std.specs.List.{concat}
use Rattle.plist_value.specs.Plist.{Plist, scalar, list, table}
use Rattle.plist_object.specs.Files.{trailer_with, file_with}
use Rattle.plist_object.specs.Spelling.{least_width, scalar_spelling, list_spelling, table_spelling}
use Rattle.plist_write.specs.Tree.{preorder, key_texts}
use Rattle.plist_write.specs.Tree.{item_positions, key_positions, value_positions}
use Rattle.plist_write.specs.Sharing.{kept_positions, number_among}

-- The bytes of the object of position k, where v is. A container refers to its children by their
-- numbers, of `width` bytes each.
abbrev pub object_octets : (ℕ → ℕ) → ℕ → ℕ → Plist → List ℕ
object_octets number width k (scalar s) = scalar_spelling s
object_octets number width k (list vs) = list_spelling width
    (map number (item_positions (suc k) vs))
object_octets number width k (table ps) =
    table_spelling width (map number (key_positions (suc k) ps))
    (map number (value_positions (suc k + length (key_texts ps)) ps))

-- the objects of a tree in the order of their numbers; references have the least width that the
-- number of objects fits in
abbrev pub objects_of : List Plist → List (List ℕ)
objects_of all =
    let kept = kept_positions all in
    let width = least_width (length kept) in
    map (λ p. object_octets (number_among all kept) width p.0 p.1) kept

-- the trailer of a file with least widths whose top object is the first
abbrev pub trailer_octets : ℕ → ℕ → List ℕ
trailer_octets count offset = trailer_with (least_width offset) (least_width count) count 0 offset

-- the file of objects, with least widths and the first object as its top
abbrev pub file_of : List (List ℕ) → List ℕ
file_of objects =
    file_with (least_width (8 + length (concat objects))) (least_width (length objects)) 0 objects

unfoldable pub canon : Plist → List ℕ
canon v = file_of (objects_of (preorder v))
