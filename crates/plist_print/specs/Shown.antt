-- What the types of the code represent.
use Rattle.std.specs.Prelude.{◌≡◌, ℕ, ◌+◌, ◌^◌, ◌≤◌, Bool, true, false, not, ◌&&◌, ◌==◌, List, []}
use Rattle.std.specs.Prelude.{◌∷◌, Option, Some, None, if◌then◌else◌}
use Rattle.ucd_table.specs.Rows.{Range}
use Rattle.plist_value.specs.Plist.{Scalar, text}
use Rattle.plist_print.specs.Units.{is_invisible}
use Rattle.plist_print.specs.Reals.{Scaled, nearest, reads_as}
use Rattle.plist_print.specs.declared.numbers.Decimal.{Decimal}
use Rattle.plist_print.specs.declared.numbers.Format.{Format}

-- the numerator and the number of digits after the decimal point
abbrev pub decimal_in : Decimal → ℕ × ℕ
decimal_in d = (d.numerator, d.digits)

-- the numbers of a format fit those of the code
pub record Fits (f : Format) : Type 0 where
  pub some : 1 ≤ f.octets
  pub few : f.octets ≤ 8
  pub sign : 1 ≤ f.sign
  pub least : 1 ≤ f.hidden
  pub most : f.hidden ≤ 2 ^ 52
  pub one : 126 ≤ f.one
  pub to : f.to ≡ f.one + 3

-- a real as a multiple of half the distance to the next real
abbrev pub placed : ℕ → ℕ → ℕ → Scaled
placed below here unit = record { below = below; here = here; above = here + 2; unit = unit }

-- the numerator over `over` that is nearest to the real, if it reads as the real
abbrev pub tried : Scaled → ℕ → Option ℕ
tried x over = if reads_as x over (nearest x over) then Some (nearest x over) else None

-- no string
abbrev pub is_short : Scalar → Bool
is_short (text units) = false
is_short _ = true

-- the visible code points; those of most texts are first
abbrev pub visible_ranges : List Range
visible_ranges =
    (0x20, 0x7e)
    ∷ (0x3165, 0xd7ff)
    ∷ (0x350, 0x5ff)
    ∷ (0xae, 0x34e)
    ∷ (0x3001, 0x3163)
    ∷ (0x1d17b, 0xdffff)
    ∷ (0xa1, 0xac)
    ∷ (0x606, 0x61b)
    ∷ (0x61d, 0x6dc)
    ∷ (0x6de, 0x70e)
    ∷ (0x710, 0x88f)
    ∷ (0x892, 0x8e1)
    ∷ (0x8e3, 0x115e)
    ∷ (0x1161, 0x167f)
    ∷ (0x1681, 0x17b3)
    ∷ (0x17b6, 0x180a)
    ∷ (0x1810, 0x1fff)
    ∷ (0x2010, 0x2027)
    ∷ (0x2030, 0x205e)
    ∷ (0x2070, 0x2fff)
    ∷ (0xe000, 0xfdff)
    ∷ (0xfe10, 0xfefe)
    ∷ (0xff00, 0xff9f)
    ∷ (0xffa1, 0xffef)
    ∷ (0xfffc, 0x110bc)
    ∷ (0x110be, 0x110cc)
    ∷ (0x110ce, 0x1342f)
    ∷ (0x13440, 0x1bc9f)
    ∷ (0x1bca4, 0x1d172)
    ∷ (0xe1000, 0x10ffff)
    ∷ []

-- a visible unit that needs no escape
abbrev pub is_verbatim : ℕ → Bool
is_verbatim unit = not (unit == 34) && (not (unit == 92) && not (is_invisible unit))
