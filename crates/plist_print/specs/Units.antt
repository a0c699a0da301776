-- How strings are printed.
use Rattle.std.specs.Prelude.{ℕ, ◌/◌, ◌%◌, Bool, true, false, not, ◌&&◌, ◌||◌, ◌==◌, List, [], ◌∷◌}
use Rattle.std.specs.Prelude.{◌++◌, codes, flat_map, if◌then◌else◌}
use Rattle.std.specs.Char.{encode_utf8}
use Rattle.std.specs.Char.Utf16.{is_high_surrogate, is_low_surrogate, surrogate_pair_char}
use Rattle.std.specs.Int.{is_in_range}
use Rattle.ucd_category.specs.declared.GeneralCategory.{GeneralCategory}
use Rattle.ucd_category.specs.declared.GeneralCategory.TheVariants.{SpaceSeparator, LineSeparator}
use Rattle.ucd_category.specs.declared.GeneralCategory.TheVariants.{ParagraphSeparator, Control}
use Rattle.ucd_category.specs.declared.GeneralCategory.TheVariants.{Format}
use Rattle.ucd_category.specs.GeneralCategory.{general_category}
use Rattle.ucd_derived.specs.Binary.{is_default_ignorable_code_point}
use Rattle.plist_value.specs.Digits.{two_digits}

-- `<`, the bytes, `>`
abbrev pub printed_data : List ℕ → List ℕ
printed_data xs = 60 ∷ (flat_map two_digits xs ++ codes ">")

-- the general categories Zs, Zl, Zp, Cc and Cf
abbrev pub is_blank : GeneralCategory → Bool
is_blank SpaceSeparator = true
is_blank LineSeparator = true
is_blank ParagraphSeparator = true
is_blank Control = true
is_blank Format = true
is_blank _ = false

-- A character that is invisible, or changes how others are displayed: a lone surrogate, one of the
-- categories above other than U+0020, or one with the property Default_Ignorable_Code_Point.
unfoldable pub is_invisible : ℕ → Bool
is_invisible c =
    is_in_range 0xd800 0xdfff c
    || (not (c == 32) && (is_blank (general_category c) || is_default_ignorable_code_point c))

-- A unit that is not part of a visible pair: as an escape, or as `\U` and four lower-case
-- hexadecimal digits if it is invisible, or as itself in UTF-8.
unfoldable pub printed_unit : ℕ → List ℕ
printed_unit unit =
    if unit == 34 then codes "\\\""
    else (if unit == 92 then codes "\\\\"
    else (if unit == 10 then codes "\\n"
    else (if unit == 9 then codes "\\t"
    else (if unit == 13 then codes "\\r"
    else (if is_invisible unit then codes "\\U" ++ (two_digits (unit / 256)
    ++ two_digits (unit % 256))
    else encode_utf8 unit)))))

-- two units that are a surrogate pair of a visible character
abbrev pub is_visible_pair : ℕ → ℕ → Bool
is_visible_pair unit next =
    is_high_surrogate unit
    && (is_low_surrogate next && not (is_invisible (surrogate_pair_char unit next)))

-- each such pair as its character in UTF-8, and each other unit by itself
abbrev pub printed_units : List ℕ → List ℕ
printed_units [] = []
printed_units (unit ∷ []) = printed_unit unit
printed_units (unit ∷ next ∷ units) =
    if is_visible_pair unit next
    then encode_utf8 (surrogate_pair_char unit next) ++ printed_units units
    else printed_unit unit ++ printed_units (next ∷ units)

-- the units in quotes
abbrev pub printed_text : List ℕ → List ℕ
printed_text units = 34 ∷ (printed_units units ++ codes "\"")
