-- Dates and times of day: their forms, and the seconds that they name. Which dates there are, and
-- their day numbers, is the calendar of `jiff`.
use Rattle.std.specs.Prelude.{ℕ, ℤ, pos, ◌+◌, ◌-◌, ◌*◌, ◌*ℤ◌, List, length, slice_index, Bool, nat_le, ◌&&◌, ◌==◌, Option, Some, None, if◌then◌else◌}
use Rattle.bl_syntax.specs.Names.{is_digit}
use Rattle.jiff_core.specs.Calendar.{days_in_month, days_from_civil}

-- whether two digits stand there
abbrev pub has_two : List ℕ → ℕ → Bool
has_two bytes place = is_digit (slice_index bytes place) && is_digit (slice_index bytes (place + 1))

-- whether that byte stands there
abbrev pub has_byte : List ℕ → ℕ → ℕ → Bool
has_byte bytes place byte = slice_index bytes place == byte

-- whether the bytes begin as `yyyy-mm-dd`
abbrev pub has_date_front : List ℕ → Bool
has_date_front bytes = nat_le 10 (length bytes) && has_two bytes 0 && has_two bytes 2
    && has_byte bytes 4 45 && has_two bytes 5 && has_byte bytes 7 45 && has_two bytes 8

-- whether the bytes go on from the tenth as `Thh:mm:ssZ`
abbrev pub has_time_of_day : List ℕ → Bool
has_time_of_day bytes = nat_le 20 (length bytes) && has_byte bytes 10 84 && has_two bytes 11
    && has_byte bytes 13 58 && has_two bytes 14 && has_byte bytes 16 58 && has_two bytes 17
    && has_byte bytes 19 90

-- the number that two digits write
abbrev pub two_at : List ℕ → ℕ → ℕ
two_at bytes place = (slice_index bytes place - 48) * 10 + (slice_index bytes (place + 1) - 48)

abbrev pub year_at : List ℕ → ℕ
year_at bytes = two_at bytes 0 * 100 + two_at bytes 2

-- whether there is such a date, from the year 1 on
abbrev pub is_date : ℕ → ℕ → ℕ → Bool
is_date year month day = nat_le 1 year && nat_le 1 month && nat_le month 12 && nat_le 1 day && nat_le day (days_in_month (pos year) month)

-- the second with which a date begins, counted from 1970-01-01T00:00:00Z
abbrev pub date_second : ℕ → ℕ → ℕ → Option ℤ
date_second year month day = if is_date year month day then Some (days_from_civil (pos year) month day *ℤ pos 86_400) else None

-- the second of a day
abbrev pub day_second : ℕ → ℕ → ℕ → Option ℕ
day_second hour minute second = if nat_le hour 23 && nat_le minute 59 && nat_le second 59 then Some (hour * 3600 + minute * 60 + second) else None

-- the second of the date with which the bytes begin
abbrev pub date_second_at : List ℕ → Option ℤ
date_second_at bytes = date_second (year_at bytes) (two_at bytes 5) (two_at bytes 8)

-- the second of the time of day that stands after the date
abbrev pub day_second_at : List ℕ → Option ℕ
day_second_at bytes = day_second (two_at bytes 11) (two_at bytes 14) (two_at bytes 17)
