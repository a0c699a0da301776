-- The printed text of a value.
use Rattle.std.specs.Prelude.{ℕ, suc, ◌+◌, ◌*◌, ◌/◌, min, true, false, nat_le, List, [], ◌∷◌, ◌++◌}
use Rattle.std.specs.Prelude.{length, replicate, flat_map, codes, if◌then◌else◌}
use Rattle.std.specs.Simd.{first_chunks}
use Rattle.std.specs.Fmt.{signed_decimal}
use Rattle.plist_value.specs.Plist.{Scalar, text, whole, flag, real4, real8, moment, bytes, Plist}
use Rattle.plist_value.specs.Plist.{scalar, list, table, Items, no_items, item, Pairs, no_pairs}
use Rattle.plist_value.specs.Plist.{pair}
use Rattle.plist_value.specs.Digits.{two_digits}
use Rattle.plist_print.specs.Units.{printed_data, printed_text}
use Rattle.plist_print.specs.Reals.{single, double, printed_real}
use Rattle.plist_print.specs.Dates.{printed_date}

-- a scalar on one line
abbrev pub printed_scalar : Scalar → List ℕ
printed_scalar (text units) = printed_text units
printed_scalar (whole z) = signed_decimal z
printed_scalar (flag true) = codes "true"
printed_scalar (flag false) = codes "false"
printed_scalar (real4 xs) = printed_real single xs ++ codes "f"
printed_scalar (real8 xs) = printed_real double xs
printed_scalar (moment xs) = codes "date " ++ printed_date xs
printed_scalar (bytes xs) = printed_data xs

-- two spaces for each level, up to 32 levels
abbrev pub indent : ℕ → List ℕ
indent level = replicate (2 * min level 32) 32

-- an opening bracket, lines, and the closing bracket on a line of this level
abbrev pub enclosed : ℕ → ℕ → ℕ → List ℕ → List ℕ
enclosed level open_with close_with lines =
    open_with ∷ 10 ∷ (lines ++ (indent level ++ (close_with ∷ 10 ∷ [])))

-- lines of 32 bytes after these spaces, the last with the rest
abbrev pub octet_lines : List ℕ → List ℕ → List ℕ
octet_lines blanks xs =
    flat_map (λ line. blanks ++ (flat_map two_digits line ++ codes "\n"))
    (first_chunks 32 ((length xs + 31) / 32) xs)

-- A scalar up to the end of its last line. More than 32 bytes of data take several lines.
abbrev pub printed_line : ℕ → Scalar → List ℕ
printed_line level (bytes xs) =
    if nat_le (length xs) 32 then printed_data xs ++ codes "\n"
    else enclosed level 60 62 (octet_lines (indent (suc level)) xs)
printed_line level s = printed_scalar s ++ codes "\n"

-- A value up to the end of its last line. Its first line has this level, and its spaces are printed
-- already. An array is `[`, a line for each item, and `]`; a dictionary is `{`, a line for each key
-- and value, and `}`.
abbrev mutual
  pub printed_at : ℕ → Plist → List ℕ
  printed_at level (scalar s) = printed_line level s
  printed_at level (list no_items) = codes "[]\n"
  printed_at level (list vs) = enclosed level 91 93 (printed_items (suc level) vs)
  printed_at level (table no_pairs) = codes "{}\n"
  printed_at level (table ps) = enclosed level 123 125 (printed_pairs (suc level) ps)

  pub printed_items : ℕ → Items → List ℕ
  printed_items level no_items = []
  printed_items level (item v vs) = indent level ++ (printed_at level v ++ printed_items level vs)

  pub printed_pairs : ℕ → Pairs → List ℕ
  printed_pairs level no_pairs = []
  printed_pairs level (pair key v ps) =
      indent level
      ++ (printed_text key ++ (codes " => " ++ (printed_at level v ++ printed_pairs level ps)))

-- the complete text
abbrev pub printed : Plist → List ℕ
printed v = printed_at 0 v
