-- Rows as tables: the first row that fits counts (this project's choice).
use Rattle.std.specs.Prelude.{ℕ, ◌==◌, if◌then◌else◌, List, [], ◌∷◌, Option, Some, None}
use Rattle.std.specs.Str.{bytes_eq}

-- what a letter is by the first row that has it
abbrev pub first_letter : {C : Type 0} → List (ℕ × C) → ℕ → Option C
first_letter [] letter = None
first_letter (row ∷ rows) letter = if row.0 == letter then Some row.1 else first_letter rows letter

-- what a word is by the first row of this name
abbrev pub first_name : {R C : Type 0} → (R → List ℕ) → (R → C) → List R → List ℕ → Option C
first_name name choice [] word = None
first_name name choice (row ∷ rows) word = if bytes_eq (name row) word then Some (choice row) else first_name name choice rows word
