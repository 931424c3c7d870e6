-- The texts that are dates, and the days of moments. A day is its number: 0 is 1970-01-01.
use Rattle.std.specs.Prelude.{ℕ, ◌&&◌, ◌==◌, List, take, drop, length, slice_index, Bool, nat_le, ℤ, pos, Option, Some, None, is_some, if◌then◌else◌}
use Rattle.std.specs.Int.{int_div_euclid}
use Rattle.std.specs.Str.Parse.{digits_value}
use Rattle.jiff_core.specs.Calendar.{days_in_month, days_from_civil}
use Rattle.fv_datum.specs.Decimals.{are_digits}

-- ten bytes: four digits, `-`, two digits, `-`, two digits
abbrev pub has_date_form : List ℕ → Bool
has_date_form s = (length s == 10)
    && are_digits (take 4 s) && (slice_index s 4 == 45)
    && are_digits (take 2 (drop 5 s)) && (slice_index s 7 == 45)
    && are_digits (take 2 (drop 8 s))

-- the number that stands for the year
abbrev pub year_of : List ℕ → ℕ
year_of s = digits_value 10 (take 4 s)

-- the number that stands for the month
abbrev pub month_of : List ℕ → ℕ
month_of s = digits_value 10 (take 2 (drop 5 s))

-- the number that stands for the day of the month
abbrev pub month_day_of : List ℕ → ℕ
month_day_of s = digits_value 10 (take 2 (drop 8 s))

-- the calendar has the day, in the year 1 or a later one
abbrev pub is_calendar_day : ℕ → ℕ → ℕ → Bool
is_calendar_day y m d = nat_le 1 y && nat_le 1 m && nat_le m 12 && nat_le 1 d && nat_le d (days_in_month (pos y) m)

-- the day of the calendar with these numbers of a year, of a month and of a day of the month, if there is one, in the year 1 or a later one
abbrev pub calendar_day : ℕ → ℕ → ℕ → Option ℤ
calendar_day y m d =
    if nat_le 1 y && nat_le 1 m && nat_le m 12 && nat_le 1 d && nat_le d (days_in_month (pos y) m) then Some (days_from_civil (pos y) m d) else None

-- the day of a date, if the text is one
abbrev pub day_of : List ℕ → Option ℤ
day_of s =
    if has_date_form s then calendar_day (digits_value 10 (take 4 s)) (digits_value 10 (take 2 (drop 5 s))) (digits_value 10 (take 2 (drop 8 s))) else None

-- the text is a date
abbrev pub is_date : List ℕ → Bool
is_date s = is_some (day_of s)

-- the day of a moment: its seconds divided by those of a day, rounded down
abbrev pub day_at : ℤ → ℤ
day_at seconds = int_div_euclid seconds (pos 86400)
