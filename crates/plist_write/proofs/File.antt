-- The file of given objects with least widths, whose top is the first object.
use Rattle.std.proofs.Common.{◌≡◌, ℕ, ◌+◌, ◌*◌, ◌^◌, ◌<◌, ◌≤◌, List, [], ◌++◌, length, get_or, refl, arith}
use Rattle.std.specs.List.{concat}
use Rattle.plist_object.specs.Layout.{Trailer, trailer_of, IsLaid}
use Rattle.plist_object.specs.Objects.{object_in}
use Rattle.plist_object.specs.Places.{place_of, object_at}
use Rattle.plist_object.specs.Spelling.{least_width}
use Rattle.plist_object.specs.Files.{starts}
use Rattle.plist_object.proofs.Files as files
use Rattle.plist_object.proofs.Files.{CanStand, is_piece}
use Rattle.plist_write.specs.Canonical.{trailer_octets, file_of}
use Rattle.plist_write.proofs.Widths.{least_width-least, least_width-holds}
use Rattle.plist_write.proofs.Sizes.{least_width-most}

abbrev pub trailer_for : ℕ → ℕ → Trailer
trailer_for n t = files.trailer_for (least_width t) (least_width n) n 0 t

pub length-trailer_octets : (n t : ℕ) → length (trailer_octets n t) ≡ 32
length-trailer_octets n t = refl

pub length-file_of : (objects : List (List ℕ)) → length (file_of objects) ≡ 8 + length (concat objects) + least_width (8 + length (concat objects)) * length objects + 32
length-file_of objects = files.length-file_with (least_width (8 + length (concat objects))) (least_width (length objects)) 0 objects

module _ (objects : List (List ℕ)) (some : 1 ≤ length objects)
    (each : (i : ℕ) → i < length objects → 1 ≤ length (get_or objects i []))
    (count_fits : length objects < 18446744073709551616) (table_fits : 8 + length (concat objects) < 18446744073709551616) where
  abbrev offset_width : ℕ
  offset_width = least_width (8 + length (concat objects))

  abbrev reference_width : ℕ
  reference_width = least_width (length objects)

  starts_fit : (i : ℕ) → i < length objects → get_or (starts 8 objects) i 0 < 256 ^ offset_width
  starts_fit i h =
      let x = is_piece 8 objects i h in
      omega (arith, least_width-holds (8 + length (concat objects)) table_fits, x.start, x.within)

  can_stand : CanStand offset_width reference_width 0 objects
  can_stand = record {
    offset_width_least = least_width-least (8 + length (concat objects));
    offset_width_most = least_width-most (8 + length (concat objects));
    reference_width_least = least_width-least (length objects);
    reference_width_most = least_width-most (length objects);
    top_below = some;
    each = each;
    starts_fit = starts_fit;
    count_fits = count_fits;
    table_fits = table_fits;
  }

  pub trailer_of-file : trailer_of (file_of objects) ≡ trailer_for (length objects) (8 + length (concat objects))
  trailer_of-file = files.trailer_of-file offset_width reference_width 0 objects can_stand

  pub is_laid : IsLaid (file_of objects)
  is_laid = files.is_laid offset_width reference_width 0 objects can_stand

  pub place_of-file : (i : ℕ) → i < length objects → place_of (file_of objects) i ≡ get_or (starts 8 objects) i 0
  place_of-file = files.place_of-file offset_width reference_width 0 objects can_stand

  -- an object is decoded from its bytes, whatever follows them
  pub object_at-file : (i : ℕ) → i < length objects → (behind : List ℕ) × (object_at (file_of objects) i ≡ object_in reference_width (get_or objects i [] ++ behind))
  object_at-file = files.object_at-file offset_width reference_width 0 objects can_stand
