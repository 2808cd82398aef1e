-- What a put stores (this project's choice).
use Rattle.std.specs.Prelude.{ℕ, ◌+◌, ◌*◌, ◌/◌, ◌%◌, nat_lt, not, if◌then◌else◌, List, length, slice_set}
use Rattle.vsl_record.specs.Unit.{LogUnit}
use Rattle.vsl_record.specs.Words.{unit_words}
use Rattle.ring_layout.specs.Stretch.{with_words}
use Rattle.ring_layout.specs.Places.{stays, start_at, end_at, end_mark, wrap_mark}
use Rattle.ring_plain.specs.Ring.{RingState}

-- what is kept of segments, with x for the segment of a place where that is behind the counter
abbrev pub with_kept : ℕ → ℕ → ℕ → ℕ → List ℕ → List ℕ
with_kept seg c p x kept = if nat_lt c (p / seg) then slice_set kept (p / seg % 8) x else kept

-- the starts of segments where a unit of w words was put at a tail: its start, or else its end, in each segment that it enters
abbrev pub starts_with : ℕ → ℕ → ℕ → ℕ → List ℕ → List ℕ
starts_with seg c t w starts = with_kept seg c (start_at seg t w) (start_at seg t w)
    (with_kept seg c (end_at seg t w) (end_at seg t w) starts)

-- the numbers of their first units, where n units stand before that one
abbrev pub numbers_with : ℕ → ℕ → ℕ → ℕ → ℕ → List ℕ → List ℕ
numbers_with seg c t w n numbers =
    with_kept seg c (start_at seg t w) n (with_kept seg c (end_at seg t w) (n + 1) numbers)

-- the words of a ring, with the wrap mark at the tail where a unit of w words wraps
abbrev pub with_wrap : ℕ → ℕ → ℕ → List ℕ → List ℕ
with_wrap seg t w words = if not (stays seg t w) then slice_set words (t % (8 * seg)) wrap_mark else words

-- the words of a ring where a unit of these words was put at the tail
abbrev pub words_with : ℕ → ℕ → List ℕ → List ℕ → List ℕ
words_with seg t new words =
    let i = start_at seg t (length new) % (8 * seg) in
    slice_set (with_words i new (with_wrap seg t (length new) words)) (i + length new) end_mark

-- a ring where a unit was put
abbrev pub ring_with : RingState → LogUnit → RingState
ring_with ring u = let w = length (unit_words u) in record {
  seg = ring.seg;
  starts = starts_with ring.seg ring.counter ring.tail w ring.starts;
  numbers = numbers_with ring.seg ring.counter ring.tail w ring.units ring.numbers;
  units = ring.units + 1;
  words = words_with ring.seg ring.tail (unit_words u) ring.words;
  tail = end_at ring.seg ring.tail w;
  counter = end_at ring.seg ring.tail w / ring.seg;
  wraps = if not (stays ring.seg ring.tail w) then ring.wraps + 1 else ring.wraps;
  ended = ring.ended;
}
