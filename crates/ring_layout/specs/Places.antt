-- Where the units of a log lie on the line of places (this project's choice). `seg` is the number of words of a segment; the ring's words are a lap, which is
-- eight of them, and a place lies in the word of its remainder. All goes from the front, with the tail before the first unit.
use Rattle.std.specs.Prelude.{ℕ, ◌+◌, ◌-◌, ◌*◌, ◌/◌, ◌%◌, ◌^◌, ◌==◌, ◌&&◌, ◌<◌, ◌≤◌, not, nat_lt, nat_le, if◌then◌else◌, Bool, true, false, List, [], ◌∷◌, length, slice_index, Option, Some, None}
use Rattle.std.specs.Option.{option_or}

-- a segment has from 64 to 1,048,576 words
abbrev pub IsSegment : ℕ → Type 0
IsSegment seg = (64 ≤ seg) × (seg ≤ 1048576)

-- the fewest words of a unit: those of one record without a payload
abbrev pub fewest_words : ℕ
fewest_words = 4

-- the last tail that a ring has
abbrev pub last_tail : ℕ
last_tail = 2 ^ 62

-- the word behind the last unit
abbrev pub end_mark : ℕ
end_mark = 1162757197

-- the word at a tail from which a unit wrapped
abbrev pub wrap_mark : ℕ
wrap_mark = 1465008464

-- a cursor is overrun where the writers came so many segments ahead of its own
abbrev pub overrun_distance : ℕ
overrun_distance = 6

-- a cursor that was overrun goes on so many segments behind the writers'
abbrev pub seek_distance : ℕ
seek_distance = 4

-- whether a unit of w words, put at the tail t, stays in its lap
abbrev pub stays : ℕ → ℕ → ℕ → Bool
stays seg t w = nat_lt (t % (8 * seg) + w) (8 * seg)

-- where it starts: at the tail, or where it wraps at the next lap
abbrev pub start_at : ℕ → ℕ → ℕ → ℕ
start_at seg t w = if stays seg t w then t else (t / (8 * seg) + 1) * (8 * seg)

-- where it ends, which is the new tail
abbrev pub end_at : ℕ → ℕ → ℕ → ℕ
end_at seg t w = start_at seg t w + w

-- a number where a test holds
abbrev pub if_some : Bool → ℕ → Option ℕ
if_some true x = Some x
if_some false x = None

-- the first place of a list that lies in a segment
abbrev pub first_in : ℕ → ℕ → List ℕ → Option ℕ
first_in seg s [] = None
first_in seg s (p ∷ ps) = option_or (if_some (p / seg == s) p) (first_in seg s ps)

-- of a log of any kind of unit, by its words; where a tail is named, of the units behind it
module _ {U : Type 0} (words : U → List ℕ) (seg : ℕ) where
  -- the tail of units that are put from a tail on
  abbrev pub tail_from : ℕ → List U → ℕ
  tail_from t [] = t
  tail_from t (u ∷ us) = tail_from (end_at seg t (length (words u))) us

  -- what a unit that is put at a tail has at a place: the wrap mark at the tail where it wraps, or one of its words
  abbrev pub placed_word : ℕ → U → ℕ → Option ℕ
  placed_word t u q = option_or (if_some ((q == t) && not (stays seg t (length (words u)))) wrap_mark)
      (if_some (nat_le (start_at seg t (length (words u))) q && nat_lt q (end_at seg t (length (words u))))
      (slice_index (words u) (q - start_at seg t (length (words u)))))

  -- what units that are put from a tail on have at a place
  abbrev pub words_from : ℕ → List U → ℕ → Option ℕ
  words_from t [] q = None
  words_from t (u ∷ us) q = option_or (placed_word t u q) (words_from (end_at seg t (length (words u))) us q)

  -- their starts and ends, in order
  abbrev pub ends_from : ℕ → List U → List ℕ
  ends_from t [] = []
  ends_from t (u ∷ us) = start_at seg t (length (words u)) ∷ end_at seg t (length (words u)) ∷ ends_from
      (end_at seg t (length (words u))) us

  -- the tail of a log, which begins at 0
  abbrev pub tail : List U → ℕ
  tail log = tail_from 0 log

  -- the word that a log has at a place: that of a unit, or the end mark at its tail; other places have none
  abbrev pub word_at : List U → ℕ → Option ℕ
  word_at log q = option_or (words_from 0 log q) (if_some (q == tail log) end_mark)

  -- the start of a segment: the first of 0 and of the starts and ends of units that lies in it
  abbrev pub segment_start : List U → ℕ → Option ℕ
  segment_start log s = first_in seg s (0 ∷ ends_from 0 log)

  -- each unit has a word or more, and at most as many as a segment
  abbrev pub AreFit : List U → Type 0
  AreFit [] = Unit {0}
  AreFit (u ∷ us) = ((0 < length (words u)) × (length (words u) ≤ seg)) × AreFit us
