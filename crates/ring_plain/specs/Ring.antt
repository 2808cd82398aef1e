-- A ring on one thread, and the logs that it stands for (this project's choice).
use Rattle.std.specs.Prelude.{◌≡◌, ℕ, ◌+◌, ◌*◌, ◌/◌, ◌≤◌, nat_lt, if◌then◌else◌, Bool, List, [], ◌∷◌, length, slice_index, Option, Some, None}
use Rattle.std.specs.List.{AllByRecursion}
use Rattle.vsl_record.specs.Unit.{LogUnit, Log}
use Rattle.vsl_record.specs.Words.{IsUnit, unit_words}
use Rattle.ring_layout.specs.declared.steps.PutFault.{PutFault}
use Rattle.ring_layout.specs.declared.steps.PutFault.TheVariants.{TooLong, Exhausted}
use Rattle.ring_layout.specs.Places.{IsSegment, last_tail, stays, end_at, tail, AreFit}
use Rattle.ring_layout.specs.Content.{HoldsLog, HoldsNumbers}

-- what contracts see of a ring: how many words a segment has, the starts of segments and the numbers of their first units by the segments' remainders by eight, how many
-- units were put, the words, the tail, its segment, how many units wrapped, and whether no unit will be put any more
pub record RingState : Type 0 where
  pub seg : ℕ
  pub starts : List ℕ
  pub numbers : List ℕ
  pub units : ℕ
  pub words : List ℕ
  pub tail : ℕ
  pub counter : ℕ
  pub wraps : ℕ
  pub ended : Bool

-- how many units wrap of those that are put from a tail on
abbrev pub wraps_from : ℕ → ℕ → Log → ℕ
wraps_from seg t [] = 0
wraps_from seg t (u ∷ us) = (if stays seg t (length (unit_words u)) then 0 else 1) + wraps_from seg
    (end_at seg t (length (unit_words u))) us

-- how many units of a log wrap
abbrev pub count_wraps : ℕ → Log → ℕ
count_wraps seg log = wraps_from seg 0 log

-- the ring stands for a log: it has eight segments, the units have at most as many words as one, the tail is the log's, and so is what lies less than eight segments
-- behind the tail's; and it counts the units, and those that wrapped
pub record IsRingOf (ring : RingState) (log : Log) : Type 0 where
  pub segment : IsSegment ring.seg
  pub eight : length ring.starts ≡ 8
  pub eight_numbers : length ring.numbers ≡ 8
  pub units_are : ring.units ≡ length log
  pub lap : length ring.words ≡ 8 * ring.seg
  pub are_units : AllByRecursion IsUnit log
  pub fit : AreFit unit_words ring.seg log
  pub tail_is : ring.tail ≡ tail unit_words ring.seg log
  pub low : ring.tail ≤ last_tail
  pub counter_is : ring.counter ≡ ring.tail / ring.seg
  pub wraps_are : ring.wraps ≡ count_wraps ring.seg log
  pub holds : HoldsLog unit_words ring.seg log ring.counter (slice_index ring.starts) (slice_index ring.words)
  pub holds_numbers : HoldsNumbers unit_words ring.seg log ring.counter (slice_index ring.numbers)

-- why a unit isn't put into a ring: it has more words than a segment, or the tail behind it would be above the last one
abbrev pub put_fault : RingState → LogUnit → Option PutFault
put_fault ring u =
    if nat_lt ring.seg (length (unit_words u)) then Some (TooLong (length (unit_words u)))
    else (if nat_lt last_tail (end_at ring.seg ring.tail (length (unit_words u))) then Some (Exhausted ring.tail)
    else None)
