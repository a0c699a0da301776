-- Examples of the definitions, by computation.
use Rattle.std.proofs.Common.{◌≡◌, true, [], ◌∷◌, replicate, refl}
use Rattle.std.specs.Prelude.{codes, negsuc}
use Rattle.plist_value.specs.Plist.{text, whole, flag, real4, real8, moment, bytes, scalar, list, table, no_items, item, no_pairs, pair}
use Rattle.ucd_category.specs.GeneralCategory.{general_category}
use Rattle.ucd_category.specs.GeneralCategoryRows.{general_category_rows}
use Rattle.ucd_derived.specs.Binary.{is_default_ignorable_code_point}
use Rattle.ucd_derived.specs.DefaultIgnorableCodePointRanges.{default_ignorable_code_point_ranges}
use Rattle.ucd_table.specs.Rows.{value_in, in_ranges}
use Rattle.plist_print.specs.Units.{is_invisible, printed_unit}
use Rattle.plist_print.specs.Reals.{value_of, decimal_of, last_digits}
use Rattle.plist_print.specs.Dates.{days_before, days_of_months, year_of, month_of, printed_day, printed_time, printed_moment, second_of}
use Rattle.plist_print.specs.Printed.{printed}
use Rattle.std.specs.Fmt.{digits}
use Rattle.std.specs.Char.{encode_utf8}

pub printed_three : printed (scalar (real8 (0x40 ∷ 0x0a ∷ 0 ∷ 0 ∷ 0 ∷ 0 ∷ 0 ∷ 0 ∷ []))) ≡ codes "3.25\n"
unfolding decimal_of value_of digits last_digits
printed_three = refl

pub printed_small : printed (scalar (real4 (0x40 ∷ 0x50 ∷ 0 ∷ 0 ∷ []))) ≡ codes "3.25f\n"
unfolding decimal_of value_of digits last_digits
printed_small = refl

pub printed_infinity : printed (scalar (real4 (0xff ∷ 0x80 ∷ 0 ∷ 0 ∷ []))) ≡ codes "-infinityf\n"
printed_infinity = refl

pub printed_nan : printed (scalar (real8 (0x7f ∷ 0xf8 ∷ 0 ∷ 0 ∷ 0 ∷ 0 ∷ 0 ∷ 0 ∷ []))) ≡ codes "nan <7ff8000000000000>\n"
printed_nan = refl

pub printed_least : printed (scalar (real8 (0 ∷ 0 ∷ 0 ∷ 0 ∷ 0 ∷ 0 ∷ 0 ∷ 1 ∷ []))) ≡ codes "real <0000000000000001>\n"
unfolding decimal_of value_of
printed_least = refl

pub printed_date : printed (scalar (moment (0x41 ∷ 0xc7 ∷ 0x69 ∷ 0x26 ∷ 0x37 ∷ 0 ∷ 0 ∷ 0 ∷ []))) ≡ codes "date 785534062.0 (2025-11-22T19:54:22Z)\n"
unfolding decimal_of value_of digits second_of printed_moment printed_day printed_time year_of month_of days_of_months last_digits
printed_date = refl

-- not a whole second
pub printed_date_half : printed (scalar (moment (0x3f ∷ 0xe0 ∷ 0 ∷ 0 ∷ 0 ∷ 0 ∷ 0 ∷ 0 ∷ []))) ≡ codes "date 0.5\n"
unfolding decimal_of value_of digits second_of printed_moment printed_day printed_time year_of month_of days_of_months last_digits
printed_date_half = refl

-- the first and the last second with a date in parentheses, and the next
pub printed_date_first : printed (scalar (moment (0xc2 ∷ 0x2d ∷ 0x63 ∷ 0xc3 ∷ 0x7f ∷ 0 ∷ 0 ∷ 0 ∷ []))) ≡ codes "date -63113904000.0 (0001-01-01T00:00:00Z)\n"
unfolding decimal_of value_of digits second_of printed_moment printed_day printed_time year_of month_of days_of_months last_digits
printed_date_first = refl

pub printed_date_last : printed (scalar (moment (0x42 ∷ 0x4d ∷ 0x62 ∷ 0xd2 ∷ 0x3c ∷ 0x7f ∷ 0x80 ∷ 0 ∷ []))) ≡ codes "date 252423993599.0 (9999-12-31T23:59:59Z)\n"
unfolding decimal_of value_of digits second_of printed_moment printed_day printed_time year_of month_of days_of_months last_digits
printed_date_last = refl

pub printed_date_behind : printed (scalar (moment (0x42 ∷ 0x4d ∷ 0x62 ∷ 0xd2 ∷ 0x3c ∷ 0x80 ∷ 0 ∷ 0 ∷ []))) ≡ codes "date 252423993600.0\n"
unfolding decimal_of value_of digits second_of printed_moment printed_day printed_time year_of month_of days_of_months last_digits
printed_date_behind = refl

-- days of the calendar; day 0 is 0001-01-01
pub first_of_2001 : days_before 2001 ≡ 730485
first_of_2001 = refl

pub leap_century : printed_day 730178 ≡ codes "2000-02-29"
unfolding printed_day year_of month_of days_of_months last_digits
leap_century = refl

pub after_century : printed_day 693654 ≡ codes "1900-03-01"
unfolding printed_day year_of month_of days_of_months last_digits
after_century = refl

pub year_end : printed_day 738884 ≡ codes "2023-12-31"
unfolding printed_day year_of month_of days_of_months last_digits
year_end = refl

pub printed_escapes : printed (scalar (text (34 ∷ 92 ∷ 10 ∷ 9 ∷ 13 ∷ 7 ∷ 126 ∷ 127 ∷ []))) ≡ codes "\"\\\"\\\\\\n\\t\\r\\U0007~\\U007f\"\n"
unfolding printed_unit is_invisible general_category general_category_rows is_default_ignorable_code_point default_ignorable_code_point_ranges value_in in_ranges encode_utf8
printed_escapes = refl

-- `é`, a surrogate pair, a lone surrogate, and a mark that changes the direction
pub printed_wide : printed (scalar (text (0xe9 ∷ 0xd83d ∷ 0xde00 ∷ 0xde00 ∷ 0x202e ∷ []))) ≡ 34 ∷ 0xc3 ∷ 0xa9 ∷ 0xf0 ∷ 0x9f ∷ 0x98 ∷ 0x80 ∷ codes "\\Ude00\\U202e\"\n"
unfolding printed_unit is_invisible general_category general_category_rows is_default_ignorable_code_point default_ignorable_code_point_ranges value_in in_ranges encode_utf8
printed_wide = refl

-- a soft hyphen, spaces, a joiner, a filler, and a tag, which is an invisible pair
pub printed_unseen : printed (scalar (text (0xad ∷ 0xa0 ∷ 0x3000 ∷ 0x200d ∷ 0x3164 ∷ 0xdb40 ∷ 0xdc01 ∷ []))) ≡ codes "\"\\U00ad\\U00a0\\U3000\\U200d\\U3164\\Udb40\\Udc01\"\n"
unfolding printed_unit is_invisible general_category general_category_rows is_default_ignorable_code_point default_ignorable_code_point_ranges value_in in_ranges encode_utf8
printed_unseen = refl

pub printed_nested : printed (table (pair (codes "a") (list (item (scalar (whole (negsuc 4))) (item (list no_items) no_items))) (pair (codes "b") (table no_pairs) (pair (codes "c") (scalar (flag true)) (pair (codes "d") (scalar (bytes (10 ∷ 11 ∷ []))) no_pairs))))) ≡ codes "{\n  \"a\" => [\n    -5\n    []\n  ]\n  \"b\" => {}\n  \"c\" => true\n  \"d\" => <0a0b>\n}\n"
unfolding printed_unit is_invisible general_category general_category_rows is_default_ignorable_code_point default_ignorable_code_point_ranges value_in in_ranges encode_utf8 digits
printed_nested = refl

-- data of 33 bytes in an array
pub printed_long : printed (list (item (scalar (bytes (replicate 33 171))) no_items)) ≡ codes "[\n  <\n    abababababababababababababababababababababababababababababababab\n    ab\n  >\n]\n"
printed_long = refl
