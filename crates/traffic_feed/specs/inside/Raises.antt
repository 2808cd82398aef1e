-- By how much a record raises the counter of a cause, where there is one.
use Rattle.std.specs.Prelude.{ℕ, Option, None, Some}
use Rattle.vsl_record.specs.declared.record_type.Record.{Record}
use Rattle.traffic_feed.specs.Counted.{Cause, raise, unit_raise}

-- by how much a record raises a counter of this cause; nothing raises the counter that isn't there
abbrev pub raise_at : Option Cause → Record → ℕ
raise_at None rec = 0
raise_at (Some cause) rec = raise cause rec

-- the same for a unit beside its records
abbrev pub unit_raise_at : Option Cause → ℕ
unit_raise_at None = 0
unit_raise_at (Some cause) = unit_raise cause
