-- What contracts see of a writer, and what a put leaves (this project's choice).
use Rattle.std.specs.Prelude.{◌≡◌, ◌≢◌, ◌⊎◌, ℕ, ◌+◌, ◌-◌, ◌^◌, ◌≤◌, ◌<◌, max, min, if◌then◌else◌, List, [], ◌∷◌, ◌++◌, length, map}
use Rattle.std.specs.List.{AllByRecursion}
use Rattle.std.specs.List.{range_with_len}
use Rattle.vsl_record.specs.Unit.{LogUnit, Log}
use Rattle.vsl_record.specs.Words.{unit_words}
use Rattle.ring_layout.specs.declared.steps.PutFault.{PutFault}
use Rattle.ring_layout.specs.declared.steps.PutFault.TheVariants.{TooLong, Busy, Exhausted}
use Rattle.ring_layout.specs.Places.{last_tail, stays, end_at}
use Rattle.log_ring.specs.Ring.{RingSet}

-- what contracts see of a writer: of which ring it is, its number, the units that it put, each beside the tail at which it was put, the greatest tail that it found, and
-- how often it found the write token taken
pub record WriterState : Type 0 where
  pub ring : RingSet
  pub number : ℕ
  pub entries : List (ℕ × LogUnit)
  pub found : ℕ
  pub busy : ℕ

-- a writer that put nothing
abbrev pub new_writer : RingSet → ℕ → WriterState
new_writer ring k = record { ring = ring; number = k; entries = []; found = 0; busy = 0 }

-- the first n writers of a ring, which put nothing
abbrev pub new_writers : RingSet → ℕ → List WriterState
new_writers ring n = map (new_writer ring) (range_with_len 0 n)

-- these writers are of the ring
abbrev pub AreWritersOf : RingSet → List WriterState → Type 0
AreWritersOf ring ws = AllByRecursion (λ (w : WriterState). w.ring ≡ ring) ws

-- the writer put a unit: it found a tail at which the unit has a place
pub record HasPut (u : LogUnit) (old new : WriterState) : Type 0 where
  pub tail : ℕ
  pub fits : length (unit_words u) ≤ old.ring.seg
  pub low : end_at old.ring.seg tail (length (unit_words u)) ≤ last_tail
  pub is : new ≡ record old { entries = old.entries ++ (tail, u) ∷ []; found = max old.found tail }

-- why a unit isn't put, and what is left: it has more words than a segment; another writer had the write token; the
-- write token was got, and the unit has no place at the tail found. With logs of less than 2^62 words the last never
-- comes
abbrev pub IsRefused : LogUnit → WriterState → PutFault → WriterState → Type 0
IsRefused u old (TooLong n) new = (old.ring.seg < length (unit_words u)) × (n ≡ length (unit_words u)) × (new ≡ old)
IsRefused u old Busy new = (length (unit_words u) ≤ old.ring.seg) × (new ≡ record old { busy = old.busy + 1 }) ×
    (1 < old.ring.writers)
IsRefused u old (Exhausted t) new = (length (unit_words u) ≤ old.ring.seg) ×
    (last_tail < end_at old.ring.seg t (length (unit_words u))) × (new ≡ record old { found = max old.found t })

-- the writer, once it found the write token taken so often more
abbrev pub with_busy : ℕ → WriterState → WriterState
with_busy times w = record w { busy = w.busy + times }

-- the writer found the write token taken so often, as far as 64 bits go, and then put the unit; alone it finds it taken never
pub record HasWaited (u : LogUnit) (old : WriterState) (busy : ℕ) (new : WriterState) : Type 0 where
  pub times : ℕ
  pub busy_is : busy ≡ min times (2 ^ 64 - 1)
  pub alone : (times ≡ 0) ⊎ (1 < old.ring.writers)
  pub put : HasPut u (with_busy times old) new

-- the writer found the write token taken some times, alone never, and then the unit was refused for another reason
pub record IsRefusedAtLast (u : LogUnit) (old : WriterState) (fault : PutFault) (new : WriterState) : Type 0 where
  pub times : ℕ
  pub alone : (times ≡ 0) ⊎ (1 < old.ring.writers)
  pub not_busy : fault ≢ Busy
  pub refused : IsRefused u (with_busy times old) fault new

-- how many of these units wrapped
abbrev pub count_wrapped : ℕ → List (ℕ × LogUnit) → ℕ
count_wrapped seg [] = 0
count_wrapped seg (e ∷ es) = (if stays seg e.0 (length (unit_words e.1)) then 0 else 1) + count_wrapped seg es

-- the units that a writer put, each beside its tail
abbrev pub entries_of : WriterState → List (ℕ × LogUnit)
entries_of w = w.entries

-- the units that a writer put
abbrev pub units_put : WriterState → Log
units_put w = map (λ (e : ℕ × LogUnit). e.1) w.entries

-- how often a writer found the write token taken
abbrev pub busy_of : WriterState → ℕ
busy_of w = w.busy
