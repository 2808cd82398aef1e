-- A cursor and the log in which it stands.
use Rattle.std.specs.Prelude.{◌≡◌, ℕ, None}
use Rattle.vsl_record.specs.Unit.{Log}
use Rattle.ring_plain.specs.Ring.{RingState, IsRingOf}
use Rattle.ring_plain.specs.Cursor.{CursorState, Stands}

-- a ring stands for a log, and a cursor that isn't overrun stands in that log
pub record StandsIn (ring : RingState) (cursor : CursorState) : Type 0 where
  pub shape : cursor.seg ≡ ring.seg
  pub log : Log
  pub ring_of : IsRingOf ring log
  pub number : ℕ
  pub stands : cursor.lost ≡ None → Stands cursor log number
