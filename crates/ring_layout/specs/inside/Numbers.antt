-- What a put that is in progress stores of the numbers of segments' first units (this project's choice).
use Rattle.std.specs.Prelude.{◌≡◌, ℕ, ◌+◌, ◌/◌, ◌%◌, ◌<◌, ◌≤◌, ◌==◌, if◌then◌else◌, List, [], ◌∷◌, ◌++◌, length}
use Rattle.ring_layout.specs.Places.{end_at, tail}
use Rattle.ring_layout.specs.History.{first_number}

-- the number of the first unit of a segment that a put enters, where n units stand before its unit: the unit's, where it starts there, and else the next
abbrev pub entered_number : ℕ → ℕ → ℕ → ℕ → ℕ
entered_number seg n start s = if start / seg == s then n else n + 1

-- a put of the unit u is in progress: of the segments below e that it enters, the numbers are stored
abbrev pub HasNumbered : {U : Type 0} → (U → List ℕ) → ℕ → List U → U → ℕ → (ℕ → ℕ) → Type 0
HasNumbered words seg log u e num = (s : ℕ) → tail words seg log / seg < s → s < e →
    s ≤ end_at seg (tail words seg log) (length (words u)) / seg →
    num (s % 8) ≡ first_number words seg (log ++ u ∷ []) s
