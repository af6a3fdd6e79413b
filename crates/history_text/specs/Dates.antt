-- Dates of seconds, by the calendar of Gregory from the year 1 on (as in RFC 3339).
use Rattle.std.specs.Prelude.{ℕ, ℤ, pos, negsuc, ◌+◌, ◌-◌, ◌*◌, ◌/◌, ◌%◌, ◌+ℤ◌, List, ◌++◌, codes, nat_lt, if◌then◌else◌}
use Rattle.std.specs.Fmt.{decimal}

-- a number with at least two digits
abbrev pub two_digits : ℕ → List ℕ
two_digits number = if nat_lt number 10 then codes "0" ++ decimal number else decimal number

-- and with at least four
abbrev pub four_digits : ℕ → List ℕ
four_digits number =
    if nat_lt number 10 then codes "000" ++ decimal number else
    if nat_lt number 100 then codes "00" ++ decimal number else
    if nat_lt number 1000 then codes "0" ++ decimal number else decimal number

-- ---- days are counted from the first of March of the year 0, and a year from its March, so that
-- the day of a leap year is its last

-- the day within 400 years
abbrev pub day_of_cycle : ℕ → ℕ
day_of_cycle day = day % 146097

-- the year within 400 years
abbrev pub year_of_cycle : ℕ → ℕ
year_of_cycle day = (day + day / 36524 - (day / 1460 + day / 146096)) / 365

-- the day of the year, of a day within 400 years
abbrev pub day_of_year : ℕ → ℕ
day_of_year day = day + year_of_cycle day / 100 - (365 * year_of_cycle day + year_of_cycle day / 4)

-- the month of a day of the year: 0 for March
abbrev pub month_from_march : ℕ → ℕ
month_from_march day = (5 * day + 2) / 153

abbrev pub day_of_month : ℕ → ℕ
day_of_month day = day - (153 * month_from_march day + 2) / 5 + 1

abbrev pub month_of : ℕ → ℕ
month_of march = if nat_lt march 10 then march + 3 else march - 9

-- January and February belong to the year before
abbrev pub year_of : ℕ → ℕ → ℕ
year_of march_year month = if nat_lt month 3 then march_year + 1 else march_year

-- the date of a day of the year that began in that March
abbrev pub day_text : ℕ → ℕ → List ℕ
day_text march_year day =
    four_digits (year_of march_year (month_of (month_from_march day)))
    ++ (codes "-" ++ (two_digits (month_of (month_from_march day))
    ++ (codes "-" ++ two_digits (day_of_month day))))

abbrev pub clock_text : ℕ → List ℕ
clock_text second = codes "T" ++ (two_digits (second / 3600)
    ++ (codes ":" ++ (two_digits (second / 60 % 60)
    ++ (codes ":" ++ (two_digits (second % 60) ++ codes "Z")))))

-- the seconds since the first of March of the year 0; 0 before it
abbrev pub natural : ℤ → ℕ
natural (pos n) = n
natural (negsuc n) = 0

abbrev pub since_march : ℤ → ℕ
since_march second = natural (second +ℤ pos 62162035200)

abbrev pub days_text : ℕ → List ℕ
days_text day = day_text (day / 146097 * 400 + year_of_cycle (day_of_cycle day)) (day_of_year (day_of_cycle day))

-- the date and time of a second, from the year 1 to 9999
abbrev pub date_text : ℤ → List ℕ
date_text second = days_text (since_march second / 86400) ++ clock_text (since_march second % 86400)
