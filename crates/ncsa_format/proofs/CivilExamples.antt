-- Worked examples of days, clocks and times.
use Rattle.std.proofs.Common.{◌≡◌, ◌+◌, ◌*◌, [], ◌∷◌, ◌≤◌, ℕ, refl, sym, arith, rules, pos}
use Rattle.std.specs.Prelude.{codes}
use Rattle.std.specs.Fmt.{digits}
use Rattle.jiff_core.specs.Calendar.{days_from_civil, IsCivilDate}
use Rattle.jiff_core.proofs.CalendarLemmas.{days_from_civil-day_count}
use Rattle.jiff_core.proofs.MarchLemmas.{day_count-early, day_count-late}
use Rattle.jiff_core.proofs.SignedLemmas.{signed_arith}
use Rattle.vsl_decimal.specs.Decimal.{scale}
use Rattle.ncsa_format.specs.Civil.{Day, day_at, clock_text, stamp_parts, time_text}
use Rattle.ncsa_format.specs.declared.formatter.TimeForm.TheVariants.{Text, MillisPart, MicrosPart}
use Rattle.ncsa_format.specs.declared.formatter.TimePart.TheVariants.{Byte, Year, Month, SpacedDay, Date, Hour, Minute, Second}
use Rattle.ncsa_format.specs.Value.{last_second}
use Rattle.ncsa_format.proofs.CivilLemmas.{date_at}

february : day_at 31 ≡ record { year = 1970; month = 2; day = 1 }
unfolding day_at
february = refl

march : day_at 59 ≡ record { year = 1970; month = 3; day = 1 }
unfolding day_at
march = refl

clock : clock_text 45_296 ≡ codes "12:34:56"
unfolding digits
clock = refl

-- the first second
epoch : time_text (Text stamp_parts) 0 ≡ codes "[01/Jan/1970:00:00:00 +0000]"
unfolding digits day_at
epoch = refl

-- a day that the calendar has at its place is met on the walk
day_is : (d : Day) (n : ℕ) → n ≤ 2_932_896 → IsCivilDate (pos d.year) d.month d.day → days_from_civil (pos d.year) d.month d.day ≡ pos n → day_at n ≡ d
day_is d n below civil e =
    let is = date_at (record { year = pos d.year; month = d.month; day = d.day; year_in = civil.0; month_in = civil.1; day_in = civil.2 }) n below e in
    let year : (day_at n).year ≡ d.year = omega (arith, signed_arith) in
    let month = sym is.1 in
    let day = sym is.2 in
    λ i. record { year = year i; month = month i; day = day i }

leap_day : day_at 11_016 ≡ record { year = 2000; month = 2; day = 29 }
leap_day = day_is _ 11_016 (omega arith) (search rules) (omega (arith, signed_arith, days_from_civil-day_count, day_count-early (pos 2000) 11_999 2 29 refl (omega arith) (omega arith) (omega arith)))

winter : day_at 19_359 ≡ record { year = 2023; month = 1; day = 2 }
winter = day_is _ 19_359 (omega arith) (search rules) (omega (arith, signed_arith, days_from_civil-day_count, day_count-early (pos 2023) 12_022 1 2 refl (omega arith) (omega arith) (omega arith)))

last_day : day_at 2_932_893 ≡ record { year = 9999; month = 12; day = 28 }
last_day = day_is _ 2_932_893 (omega arith) (search rules) (omega (arith, signed_arith, days_from_civil-day_count, day_count-late (pos 9999) 19_999 12 28 refl (omega arith) (omega arith) (omega arith)))

-- the form of `%t`, where what is less than a second is cut
stamp : time_text (Text stamp_parts) (1_672_628_645 * scale + 999_999_999_999_999_999) ≡ codes "[02/Jan/2023:03:04:05 +0000]"
unfolding digits
stamp = rw winter refl

last_stamp : time_text (Text stamp_parts) (last_second * scale) ≡ codes "[28/Dec/9999:12:26:40 +0000]"
unfolding digits
last_stamp = rw last_day refl

-- other parts, and a day with a space in place of a zero
other_parts : time_text (Text (Year ∷ Byte 32 ∷ Month ∷ Byte 32 ∷ SpacedDay ∷ Byte 32 ∷ Date ∷ Byte 32 ∷ Hour ∷ Minute ∷ Second ∷ [])) (1_672_628_645 * scale) ≡ codes "2023 01  2 2023-01-02 030405"
unfolding digits
other_parts = rw winter refl

-- milliseconds and microseconds in the second
fractions : (time_text MillisPart (scale + 20_300_000_000_000_000) ≡ codes "020") × (time_text MicrosPart (scale + 20_300_000_000_000_000) ≡ codes "020300")
unfolding digits
fractions = (refl, refl)
