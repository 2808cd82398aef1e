-- What words a ring has for a log (this project's choice). A ring is seen by three functions: `ent` gives the word that keeps a segment's start, and `num` the one that
-- keeps the number of its first unit, by the segment's number below 8, and `word` a word of the ring, by its number below a lap.
use Rattle.std.specs.Prelude.{◌≡◌, ℕ, ◌+◌, ◌*◌, ◌/◌, ◌%◌, ◌<◌, ◌≤◌, if◌then◌else◌, List, [], ◌∷◌, ◌++◌, length, slice_index, Some}
use Rattle.ring_layout.specs.Places.{stays, start_at, end_at, tail, word_at, segment_start, end_mark, wrap_mark}
use Rattle.ring_layout.specs.History.{first_number}

module _ {U : Type 0} (words : U → List ℕ) (seg : ℕ) where
  -- what lies less than eight segments behind the counter c is the log's: the starts of segments, and the words
  pub record HoldsLog (log : List U) (c : ℕ) (ent word : ℕ → ℕ) : Type 0 where
    pub segment_starts : (s p : ℕ) → s ≤ tail words seg log / seg → c < s + 8 → segment_start words seg log s ≡ Some p →
        ent (s % 8) ≡ p
    pub word_at : (q x : ℕ) → word_at words seg log q ≡ Some x → c < q / seg + 8 → word (q % (8 * seg)) ≡ x

  -- the numbers of the first units of segments that lie less than eight segments behind the counter c are the log's
  abbrev pub HoldsNumbers : List U → ℕ → (ℕ → ℕ) → Type 0
  HoldsNumbers log c num = (s : ℕ) → s ≤ tail words seg log / seg → c < s + 8 →
      num (s % 8) ≡ first_number words seg log s

  -- the number of the first word of a unit that isn't stored last: the word at the old tail is
  abbrev pub first_word : ℕ → ℕ → ℕ
  first_word t w = if stays seg t w then 1 else 0

  -- a put of the unit u is in progress: the starts of the segments below e that it enters are stored, its words below m, and where k isn't 0 the end mark
  pub record HasStored (log : List U) (u : U) (e m k : ℕ) (ent word : ℕ → ℕ) : Type 0 where
    pub segment_starts : (s p : ℕ) → tail words seg log / seg < s → s < e →
        segment_start words seg (log ++ u ∷ []) s ≡ Some p → ent (s % 8) ≡ p
    pub stored : (j : ℕ) → first_word (tail words seg log) (length (words u)) ≤ j → j < m →
        word ((start_at seg (tail words seg log) (length (words u)) + j) % (8 * seg)) ≡ slice_index (words u) j
    pub marked : 0 < k → word (end_at seg (tail words seg log) (length (words u)) % (8 * seg)) ≡ end_mark

  -- the word that a put stores last, at the old tail: the unit's first, or the wrap mark
  abbrev pub last_word : ℕ → U → ℕ
  last_word t u = if stays seg t (length (words u)) then slice_index (words u) 0 else wrap_mark
