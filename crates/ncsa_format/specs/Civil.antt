-- The day and the clock of a time, in UTC, and how they are printed (varnishncsa(1), "%t"; the directives are those of strftime(3)).
use Rattle.std.specs.Prelude.{ℕ, zero, suc, ◌+◌, ◌-◌, ◌/◌, ◌%◌, nat_lt, if◌then◌else◌, pos, List, [], ◌∷◌, ◌++◌, length, replicate, codes, decimal}
use Rattle.std.specs.List.{flat_map, slice_index_or}
use Rattle.jiff_core.specs.Calendar.{days_in_month}
use Rattle.vsl_decimal.specs.Decimal.{scale}
use Rattle.vsl_select.specs.RawLine.{at_right}
use Rattle.ncsa_format.specs.declared.formatter.TimeForm.{TimeForm}
use Rattle.ncsa_format.specs.declared.formatter.TimeForm.TheVariants as forms
use Rattle.ncsa_format.specs.declared.formatter.TimePart.{TimePart}
use Rattle.ncsa_format.specs.declared.formatter.TimePart.TheVariants as parts

-- a day of the calendar; months and days count from 1
pub record Day : Type 0 where
  pub year : ℕ
  pub month : ℕ
  pub day : ℕ

-- the day after a day: in its month, or the first of the next month, or of the next year
abbrev pub next_day : Day → Day
next_day d =
    if nat_lt d.day (days_in_month (pos d.year) d.month) then record d { day = d.day + 1 } else
    (if nat_lt d.month 12 then record d { month = d.month + 1; day = 1 }
    else record { year = d.year + 1; month = 1; day = 1 })

-- the day so many days after 1 January 1970
unfoldable pub day_at : ℕ → Day
day_at zero = record { year = 1970; month = 1; day = 1 }
day_at (suc n) = next_day (day_at n)

-- the day of a second since the epoch
abbrev pub day_of : ℕ → Day
day_of second = day_at (second / 86400)

-- a number with zeros before it, as many as fill its columns
abbrev pub padded : ℕ → ℕ → List ℕ
padded columns n = replicate (columns - length (decimal n)) 48 ++ decimal n

-- the names of the months, in order
abbrev pub month_names : List (List ℕ)
month_names =
    codes "Jan" ∷ codes "Feb" ∷ codes "Mar" ∷ codes "Apr" ∷ codes "May" ∷ codes "Jun" ∷ codes "Jul" ∷ codes "Aug" ∷ codes "Sep" ∷ codes "Oct" ∷ codes "Nov" ∷ codes "Dec" ∷ []

-- the date of a second, as `2023-01-02`
abbrev pub date_text : ℕ → List ℕ
date_text second = padded 4 (day_of second).year ++ codes "-" ++ padded 2 (day_of second).month ++ codes "-" ++ padded 2 (day_of second).day

-- the hour of a second
abbrev pub hour_of : ℕ → ℕ
hour_of second = second / 3600 % 24

-- its minute
abbrev pub minute_of : ℕ → ℕ
minute_of second = second / 60 % 60

-- the clock at a second, as `03:04:05`
abbrev pub clock_text : ℕ → List ℕ
clock_text second = padded 2 (hour_of second) ++ codes ":" ++ padded 2 (minute_of second) ++ codes ":" ++ padded 2 (second % 60)

-- a part of a time at a second
abbrev pub part_text : ℕ → TimePart → List ℕ
part_text second (parts.Byte b) = b ∷ []
part_text second parts.Year = padded 4 (day_of second).year
part_text second parts.Month = padded 2 (day_of second).month
part_text second parts.Day = padded 2 (day_of second).day
part_text second parts.SpacedDay = at_right 2 (decimal (day_of second).day)
part_text second parts.Hour = padded 2 (hour_of second)
part_text second parts.Minute = padded 2 (minute_of second)
part_text second parts.Second = padded 2 (second % 60)
part_text second parts.MonthName = slice_index_or month_names ((day_of second).month - 1) []
part_text second parts.Date = date_text second
part_text second parts.Clock = clock_text second
part_text second parts.Zone = codes "+0000"

-- a time in a form; times are counted in units of 10^-18 seconds, and all is cut. Times are UTC, so that a log gives
-- the same lines wherever it is read (this project's choice)
abbrev pub time_text : TimeForm → ℕ → List ℕ
time_text forms.Seconds time = decimal (time / scale)
time_text forms.Millis time = decimal (time / 1_000_000_000_000_000)
time_text forms.Micros time = decimal (time / 1_000_000_000_000)
time_text forms.MillisPart time = padded 3 (time / 1_000_000_000_000_000 % 1000)
time_text forms.MicrosPart time = padded 6 (time / 1_000_000_000_000 % 1_000_000)
time_text (forms.Text all) time = flat_map (part_text (time / scale)) all

-- the form of `%t`, as `[02/Jan/2023:03:04:05 +0000]`
abbrev pub stamp_parts : List TimePart
stamp_parts =
    parts.Byte 91 ∷ parts.Day ∷ parts.Byte 47 ∷ parts.MonthName ∷ parts.Byte 47 ∷ parts.Year ∷ parts.Byte 58 ∷
    parts.Clock ∷ parts.Byte 32 ∷ parts.Zone ∷ parts.Byte 93 ∷ []
