-- The days of the calendar, counted from 1 January 1970.
use Rattle.std.proofs.Common.{◌≡◌, ◌≢◌, ℕ, zero, suc, ◌+◌, ◌/◌, ◌<◌, ◌≤◌, nat_lt, Bool, true, false, if◌then◌else◌, refl, sym, ap, ◌∙◌, arith, rules, pos, ◌*ℤ◌}
use Rattle.std.proofs.lemmas.Bool.{ltb-true, ltb-false}
use Rattle.jiff_core.specs.Calendar.{days_from_civil, days_in_month, IsCivilDate}
use Rattle.jiff_core.specs.Date.{epoch_day}
use Rattle.jiff_core.specs.DateTime.{civil_nanos}
use Rattle.jiff_core.specs.declared.civil.date.Date.{Date}
use Rattle.jiff_core.specs.declared.civil.datetime.DateTime.{DateTime}
use Rattle.jiff_core.proofs.SignedLemmas.{signed_arith}
use Rattle.jiff_core.proofs.CalendarLemmas.{days_in_month_bounds}
use Rattle.jiff_core.proofs.DateLemmas.{days_from_civil-day, days_from_civil-next_month, days_from_civil-next_year, days_from_civil-max, epoch_day_injective}
use Rattle.jiff_core.proofs.DateTimeLemmas.{civil_nanos-parts, time_nanos_bound}
use Rattle.ncsa_format.specs.Civil.{Day, next_day, day_at, day_of}
use Rattle.ncsa_format.specs.Value.{last_second}

-- the day is one of the calendar, so many days after 1 January 1970
record IsDayAt (n : ℕ) (d : Day) : Type 0 where
  civil : IsCivilDate (pos d.year) d.month d.day
  is : days_from_civil (pos d.year) d.month d.day ≡ pos n

-- so is the day after it; 31 December 9999 is 2_932_896 days after
next : (n : ℕ) (d : Day) → n < 2_932_896 → IsDayAt n d → IsDayAt (suc n) (next_day d)
next n d below h = of_tests _ _ refl refl
  where
    of_tests : (in_month in_year : Bool) → nat_lt d.day (days_in_month (pos d.year) d.month) ≡ in_month → nat_lt d.month 12 ≡ in_year
        → IsDayAt (suc n) (if in_month then record d { day = d.day + 1 } else (if in_year then record d { month = d.month + 1; day = 1 } else record { year = d.year + 1; month = 1; day = 1 }))
    of_tests true in_year e f = record {
      civil = (h.civil.0, h.civil.1, (omega arith, omega (arith, ltb-true)));
      is = omega (arith, signed_arith, h.is, days_from_civil-day (pos d.year) d.month d.day (d.day + 1) h.civil.2.0 (omega arith));
    }
    of_tests false true e f = record {
      civil = (h.civil.0, (omega arith, omega (arith, ltb-true)), (omega arith, omega (arith, days_in_month_bounds (pos d.year) (d.month + 1))));
      is = omega (arith, signed_arith, h.is, days_from_civil-next_month (pos d.year) d.month d.day h.civil.1.0 (omega (arith, h.civil, ltb-false)));
    }
    of_tests false false e f =
        let december : d.month ≡ 12 = omega (arith, h.civil, ltb-false) in
        let long : days_in_month (pos d.year) d.month ≡ 31 = ap (days_in_month (pos d.year)) december in
        let last : d.day ≡ 31 = omega (arith, h.civil, ltb-false) in
        let here : days_from_civil (pos d.year) 12 31 ≡ pos n = rw (december, last) at h.is in
        let not_the_last_year : d.year ≢ 9999 = λ y. omega (arith, signed_arith, days_from_civil-max, rw y at here) in
        record {
          civil = (omega (arith, signed_arith, h.civil), (omega arith, omega arith), (omega arith, omega arith));
          is = omega (arith, signed_arith, here, days_from_civil-next_year (pos d.year) (pos (d.year + 1)) (omega (arith, signed_arith)) (omega (arith, signed_arith)));
        }

-- and each day
each_day : (n : ℕ) → n ≤ 2_932_896 → IsDayAt n (day_at n)
unfolding day_at days_from_civil
each_day zero below = record { civil = search rules; is = omega (arith, signed_arith) }
each_day (suc n) below = next n (day_at n) below (each_day n (omega arith))

-- a date so many days after 1 January 1970 is that day
pub date_at : (date : Date) (n : ℕ) → n ≤ 2_932_896 → epoch_day date ≡ pos n → (date.year ≡ pos (day_at n).year) × (date.month ≡ (day_at n).month) × (date.day ≡ (day_at n).day)
date_at date n below e =
    let d = day_at n in
    let h = each_day n below in
    epoch_day_injective date (record { year = pos d.year; month = d.month; day = d.day; year_in = h.civil.0; month_in = h.civil.1; day_in = h.civil.2 }) (e ∙ sym h.is)

-- the date of a second is its day
pub date_of : (dt : DateTime) (second : ℕ) → second ≤ last_second → civil_nanos dt ≡ pos second *ℤ pos 1_000_000_000
    → (dt.date.year ≡ pos (day_of second).year) × (dt.date.month ≡ (day_of second).month) × (dt.date.day ≡ (day_of second).day)
date_of dt second below e = date_at dt.date (second / 86400) (omega arith) (omega (arith, signed_arith, e, civil_nanos-parts dt, time_nanos_bound dt.time))

-- up to the last second that is printed years have four digits, and days two
pub day_within : (second : ℕ) → second ≤ last_second → ((day_of second).year ≤ 9999) × ((day_of second).day ≤ 31)
day_within second below =
    let h = each_day (second / 86400) (omega arith) in
    let d = day_at (second / 86400) in
    (omega (arith, signed_arith, h.civil.0), omega (arith, h.civil.2, days_in_month_bounds (pos d.year) d.month))
