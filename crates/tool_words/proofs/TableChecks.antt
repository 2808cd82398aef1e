-- The tables: no row of an option hides another.
use Rattle.std.proofs.Common.{◌≡◌, ℕ, Bool, true, List, [], ◌∷◌, ◌&&◌, ◌==◌, map, refl}
use Rattle.std.specs.Prelude.{not}
use Rattle.std.specs.List.{list_any}
use Rattle.std.specs.Str.{bytes_eq}
use Rattle.tool_words.specs.declared.job.Tool.{Tool}
use Rattle.tool_words.specs.declared.job.Tool.TheVariants as tools
use Rattle.tool_words.specs.declared.options.Meaning.{Meaning}
use Rattle.tool_words.specs.declared.options.TheConstants.{WORDS}
use Rattle.tool_words.specs.Letters.{HasLetters, HasWords}
use Rattle.tool_words.specs.Options.{letters_of}

-- whether each of a list is another
abbrev are_distinct : {A : Type 0} → (A → A → Bool) → List A → Bool
are_distinct is_same [] = true
are_distinct is_same (one ∷ more) = not (list_any (is_same one) more) && are_distinct is_same more

-- a tool has at most one row for a letter
one_row : (tool : Tool) → are_distinct (λ a b. a == b) (map (λ (row : ℕ × Meaning). row.0) (letters_of tool)) ≡ true
one_row tools.Log = refl
one_row tools.Ncsa = refl
one_row tools.Top = refl
one_row tools.Stat = refl

-- no two rows have the same word
one_word : are_distinct bytes_eq (map (λ row. row.0.now) WORDS) ≡ true
one_word = refl

-- the rows are those that are written out
pub all_letters : (tool : Tool) → HasLetters tool
all_letters tools.Log = refl
all_letters tools.Ncsa = refl
all_letters tools.Top = refl
all_letters tools.Stat = refl

pub all_words : HasWords
all_words = refl
