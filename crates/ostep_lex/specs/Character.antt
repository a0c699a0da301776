-- The classes of characters in the text form.
use Rattle.std.specs.Prelude.{ℕ, Bool, ◌||◌, ◌==◌}
use Rattle.std.specs.Int.{is_in_range}
use Rattle.std.specs.Char.{is_ascii_alphanumeric}

-- U+0009 to U+000D, U+0020, U+2028 and U+2029
abbrev pub is_white : ℕ → Bool
is_white c = is_in_range 9 13 c || (c == 32) || is_in_range 0x2028 0x2029 c

-- U+000A, U+000D, U+2028 and U+2029
abbrev pub is_line_end : ℕ → Bool
is_line_end c = (c == 10) || (c == 13) || is_in_range 0x2028 0x2029 c

-- the characters of an unquoted string: ASCII letters, digits, `$` `-` `.` `/` `:` `_`
abbrev pub is_run : ℕ → Bool
is_run c = is_ascii_alphanumeric c || (c == 36) || is_in_range 45 47 c || (c == 58) || (c == 95)

-- `"` and `'`
abbrev pub is_quote : ℕ → Bool
is_quote c = (c == 34) || (c == 39)
