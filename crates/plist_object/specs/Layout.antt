-- The layout of a binary property list: the header, objects, the offset table, and a trailer of 32
-- bytes (CFBinaryPList.c; the bounds of the numbers are our profile).
use Rattle.std.specs.Prelude.{◌≡◌, ◌≢◌, ℕ, ◌+◌, ◌-◌, ◌*◌, ◌<◌, ◌≤◌, List, [], ◌∷◌, length, take}
use Rattle.std.specs.Prelude.{drop, slice_index}
use Rattle.byteorder.specs.Endian.{big_number}
use Rattle.plist_object.specs.declared.layout.LayoutFault.{LayoutFault}
use Rattle.plist_object.specs.declared.layout.LayoutFault.TheVariants.{TooShort, BadHeader}
use Rattle.plist_object.specs.declared.layout.LayoutFault.TheVariants.{BadTrailer}

-- `bplist00`
abbrev pub header : List ℕ
header = 98 ∷ 112 ∷ 108 ∷ 105 ∷ 115 ∷ 116 ∷ 48 ∷ 48 ∷ []

-- the number in the eight bytes that begin `back` bytes before the end of the file
abbrev pub number_before_end : ℕ → List ℕ → ℕ
number_before_end back f = big_number 8 (drop (length f - back) f)

-- the numbers in the trailer
pub record Trailer : Type 0 where
  pub offset_width : ℕ
  pub reference_width : ℕ
  pub count : ℕ
  pub top : ℕ
  pub table : ℕ

abbrev pub trailer_of : List ℕ → Trailer
trailer_of f = record {
  offset_width = slice_index f (length f - 26);
  reference_width = slice_index f (length f - 25);
  count = number_before_end 24 f;
  top = number_before_end 16 f;
  table = number_before_end 8 f;
}

-- the first six bytes of the trailer, which have no meaning
abbrev pub slack_of : List ℕ → List ℕ
slack_of f = take 6 (drop (length f - 32) f)

-- the numbers are consistent with one another and with a file of `size` bytes
pub record IsTrailer (size : ℕ) (x : Trailer) : Type 0 where
  pub offset_width_least : 1 ≤ x.offset_width
  pub offset_width_most : x.offset_width ≤ 8
  pub reference_width_least : 1 ≤ x.reference_width
  pub reference_width_most : x.reference_width ≤ 8
  pub some_object : 1 ≤ x.count
  pub top_below : x.top < x.count
  pub table_behind : 9 ≤ x.table
  pub ends : x.table + x.count * x.offset_width + 32 ≡ size

-- the bytes have the layout
pub record IsLaid (f : List ℕ) : Type 0 where
  pub long : 42 ≤ length f
  pub headed : take 8 f ≡ header
  pub trailed : IsTrailer (length f) (trailer_of f)

-- the first reason why the bytes do not have the layout
abbrev pub IsLayoutFault : LayoutFault → List ℕ → Type 0
IsLayoutFault TooShort f = length f < 42
IsLayoutFault BadHeader f = (42 ≤ length f) × (take 8 f ≢ header)
IsLayoutFault BadTrailer f = (42 ≤ length f) × (take 8 f ≡ header)
    × ¬ IsTrailer (length f) (trailer_of f)
