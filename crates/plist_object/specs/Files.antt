-- The binary file of given objects, for any widths and top object.
use Rattle.std.specs.Prelude.{ℕ, ◌+◌, List, [], ◌∷◌, ◌++◌, length, replicate}
use Rattle.std.specs.List.{concat}
use Rattle.byteorder.specs.Endian.{big_bytes}
use Rattle.plist_object.specs.Layout.{header}
use Rattle.plist_object.specs.Spelling.{references}

-- the offsets of contiguous objects, the first of which begins at k
abbrev pub starts : ℕ → List (List ℕ) → List ℕ
starts k [] = []
starts k (object ∷ objects) = k ∷ starts (k + length object) objects

-- The trailer, the last 32 bytes: six zero bytes, the widths of an offset and of a reference, the
-- number of objects, the number of the top object, and the offset of the offset table.
abbrev pub trailer_with : ℕ → ℕ → ℕ → ℕ → ℕ → List ℕ
trailer_with offset_width reference_width count top place =
    replicate 6 0
    ++ (offset_width ∷ reference_width
    ∷ (big_bytes 8 count ++ (big_bytes 8 top ++ big_bytes 8 place)))

-- the file of given objects: the header, the objects one after another, the offset table, the
-- trailer
abbrev pub file_with : ℕ → ℕ → ℕ → List (List ℕ) → List ℕ
file_with offset_width reference_width top objects =
    let body = concat objects in
    let place = 8 + length body in
    header
    ++ (body
    ++ (references offset_width (starts 8 objects)
    ++ trailer_with offset_width reference_width (length objects) top place))
