-- How dates are printed: the seconds since 2001 and, in parentheses, date and time in UTC.
use Rattle.std.specs.Prelude.{ℕ, zero, suc, ◌+◌, ◌-◌, ◌*◌, ◌/◌, ◌%◌, ◌^◌, Bool, ◌&&◌, ◌||◌, ◌==◌}
use Rattle.std.specs.Prelude.{nat_le, nat_lt, List, [], ◌++◌, Option, Some, None, codes}
use Rattle.std.specs.Prelude.{if◌then◌else◌}
use Rattle.std.specs.Option.{option_and_then}
use Rattle.byteorder.specs.Endian.{big_number}
use Rattle.plist_print.specs.Reals.{double, decimal_of, last_digits, printed_real}

-- the number of days from year 1 to the start of this year, in the proleptic Gregorian calendar
abbrev pub days_before : ℕ → ℕ
days_before year = 365 * (year - 1) + (year - 1) / 4 - (year - 1) / 100 + (year - 1) / 400

-- Thirty days have September, April, June and November. February has what the others leave.
abbrev pub days_in_month : ℕ → ℕ → ℕ
days_in_month year month =
    if month == 2 then days_before (year + 1) - days_before year - 337
    else (if (month == 4) || (month == 6) || (month == 9) || (month == 11) then 30 else 31)

-- the number of days from January to the end of this month
unfoldable pub days_of_months : ℕ → ℕ → ℕ
days_of_months year zero = 0
days_of_months year (suc months) = days_of_months year months + days_in_month year (suc months)

-- the greatest number from 1 to n that passes the test, or 0 if there is none
abbrev pub last_such : (ℕ → Bool) → ℕ → ℕ
last_such passes zero = 0
last_such passes (suc n) = if passes (suc n) then suc n else last_such passes n

-- The year of a day: the last year that has begun by then, up to 9999. Day 0 is 0001-01-01.
unfoldable pub year_of : ℕ → ℕ
year_of day = last_such (λ year. nat_le (days_before year) day) 9999

-- The month of a day of the year: the last month that has begun by then. Day 0 is 1 January.
unfoldable pub month_of : ℕ → ℕ → ℕ
month_of year day = last_such (λ month. nat_le (days_of_months year (month - 1)) day) 12

-- year, month and day, such as 2025-11-22
unfoldable pub printed_day : ℕ → List ℕ
printed_day day =
    let year = year_of day in
    let left = day - days_before year in
    let month = month_of year left in
    last_digits 4 year
    ++ (codes "-"
    ++ (last_digits 2 month
    ++ (codes "-" ++ last_digits 2 (left - days_of_months year (month - 1) + 1))))

-- hour, minute and second, such as 19:54:22
unfoldable pub printed_time : ℕ → List ℕ
printed_time second =
    last_digits 2 (second / 3600)
    ++ (codes ":"
    ++ (last_digits 2 (second / 60 % 60) ++ (codes ":" ++ last_digits 2 (second % 60))))

-- date and time of this second after 0001-01-01T00:00:00Z, such as 2025-11-22T19:54:22Z
unfoldable pub printed_moment : ℕ → List ℕ
printed_moment second =
    printed_day (second / 86400) ++ (codes "T" ++ (printed_time (second % 86400) ++ codes "Z"))

-- seconds before 2001, or since, as seconds after 0001-01-01T00:00:00Z, if they are in the years 1
-- to 9999
abbrev pub second_at : Bool → ℕ → Option ℕ
second_at negative seconds =
    let start = 86400 * days_before 2001 in
    if negative then (if nat_le seconds start then Some (start - seconds) else None)
    else (if nat_lt (start + seconds) (86400 * days_before 10000) then Some (start + seconds)
    else None)

-- the second of the bytes of a date, if its decimal ends with `.0`
unfoldable pub second_of : List ℕ → Option ℕ
second_of xs =
    let bits = big_number 8 xs in
    let second : ℕ × ℕ → Option ℕ = λ d. if (d.1 == 1) && (d.0 % 10 == 0)
    then second_at (nat_le (2 ^ 63) bits) (d.0 / 10) else None in
    option_and_then second (decimal_of double (bits % 2 ^ 63))

-- date and time in parentheses, after a space
abbrev pub in_brackets : Option ℕ → List ℕ
in_brackets None = []
in_brackets (Some second) = codes " (" ++ (printed_moment second ++ codes ")")

-- the seconds, and date and time if there are any
abbrev pub printed_date : List ℕ → List ℕ
printed_date xs = printed_real double xs ++ in_brackets (second_of xs)
