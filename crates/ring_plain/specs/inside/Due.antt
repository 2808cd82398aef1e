-- What a ring has at a place where a unit is due (this project's choice).
use Rattle.std.specs.Prelude.{◌≡◌, ℕ, ◌+◌, ◌*◌, ◌/◌, ◌%◌, ◌==◌, ◌≤◌, if◌then◌else◌, length, take, drop, slice_index, slice_get, Option, Some, None}
use Rattle.vsl_record.specs.Unit.{LogUnit, Log}
use Rattle.vsl_record.specs.Words.{unit_words}
use Rattle.vsl_record.specs.Views.{Spells}
use Rattle.ring_layout.specs.Places.{last_tail, tail, wrap_mark}
use Rattle.ring_plain.specs.declared.ring.Stretch.{Stretch}
use Rattle.ring_plain.specs.Ring.{RingState}

-- where the unit starts that is due at a place: there, or where the wrap mark stands there at the next lap
abbrev pub unit_place : RingState → ℕ → ℕ
unit_place ring p = if slice_index ring.words (p % (8 * ring.seg)) == wrap_mark then (p / (8 * ring.seg) + 1) *
    (8 * ring.seg) else p

-- the k-th unit of a log stands in the ring, from a place on, in so many words
pub record IsUnitAt (ring : RingState) (log : Log) (k place count : ℕ) : Type 0 where
  pub unit : LogUnit
  pub kth : slice_get log k ≡ Some unit
  pub fits : count ≤ ring.seg
  pub inside : place % (8 * ring.seg) + count ≤ 8 * ring.seg
  pub low : place + count ≤ last_tail
  pub behind : place + count ≡ tail unit_words ring.seg (take (k + 1) log)
  pub spells : Spells (take count (drop (place % (8 * ring.seg)) ring.words)) unit

-- where the k-th unit of a log is due there stands the unit, or nothing where the log ends
abbrev pub IsDue : RingState → Log → ℕ → Option Stretch → Type 0
IsDue ring log k (Some stretch) = IsUnitAt ring log k stretch.place stretch.words
IsDue ring log k None = k ≡ length log
