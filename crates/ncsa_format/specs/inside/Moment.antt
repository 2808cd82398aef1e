-- The day of a moment.
use Rattle.std.specs.Prelude.{◌≡◌, ◌≤◌}
use Rattle.ncsa_format.specs.Civil.{day_of}
use Rattle.ncsa_format.specs.declared.civil.Moment.{Moment}

-- the moment has the day of its second; months count from 1 to 12, and years have four digits
pub record IsMoment (moment : Moment) : Type 0 where
  pub year : moment.year ≡ (day_of moment.second).year
  pub month : moment.month ≡ (day_of moment.second).month
  pub day : moment.day ≡ (day_of moment.second).day
  pub first : 1 ≤ moment.month
  pub last : moment.month ≤ 12
  pub last_year : moment.year ≤ 9999
  pub last_day : moment.day ≤ 31
