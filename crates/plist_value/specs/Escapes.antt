-- Units of a string between quotes.
use Rattle.std.specs.Prelude.{ℕ, ◌/◌, ◌%◌, Bool, not, ◌&&◌, ◌==◌, List, [], ◌∷◌, ◌++◌, codes, take}
use Rattle.std.specs.Prelude.{take_while, if◌then◌else◌}
use Rattle.std.specs.Int.{is_in_range}
use Rattle.plist_value.specs.Digits.{two_digits}

-- as an escape of one letter, as it is, or as `\U` and four lower-case hexadecimal digits
abbrev pub quoted_unit : ℕ → List ℕ
quoted_unit unit =
    if unit == 34 then codes "\\\""
    else (if unit == 92 then codes "\\\\"
    else (if unit == 10 then codes "\\n"
    else (if unit == 9 then codes "\\t"
    else (if unit == 13 then codes "\\r"
    else (if is_in_range 0x20 0x7e unit then unit ∷ []
    else codes "\\U" ++ two_digits (unit / 256) ++ two_digits (unit % 256))))))

-- a unit that needs no escape: printable ASCII but for `"` and `\`
abbrev pub is_literal : ℕ → Bool
is_literal unit = is_in_range 0x20 0x7e unit && (not (unit == 34) && not (unit == 92))

-- the units before the first that needs an escape, at most 4,096
abbrev pub literal_run : List ℕ → List ℕ
literal_run units = take_while is_literal (take 4096 units)
