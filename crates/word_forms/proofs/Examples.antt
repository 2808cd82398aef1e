-- Worked words, by the rows of a command that has the flag `a`, the options `r` and `--out` with a value, and behind its one operand the flag `b` alone.
use Rattle.std.proofs.Common.{◌≡◌, ℕ, ◌==◌, Bool, true, false, List, [], ◌∷◌, ◌||◌, refl}
use Rattle.std.specs.Prelude.{codes, if◌then◌else◌, Some, None, Ok, Err}
use Rattle.std.specs.Str.{bytes_eq}
use Rattle.word_forms.specs.declared.fault.WordFault.TheVariants.{UnknownOption, NoValue, BadOperand}
use Rattle.word_forms.specs.Items.{Item, Table, gives, items, folded}

-- an option is its letter, or 0 for `--out`; the rows are of whether the operand was met
abbrev rows : Table Bool ℕ
rows = record {
  letter = λ met letter. if met then (if letter == 98 then Some letter else None) else (if letter == 97 || letter == 114 then Some letter else None);
  name = λ met word. if bytes_eq word (codes "--out") then Some 0 else None;
  wants = λ choice. choice == 114 || choice == 0;
  behind = λ met operand. if met then None else Some true;
}

abbrev read : List (List ℕ) → List (Item ℕ)
read words = items rows false 0 None words

letters_share_a_word : read (codes "-aar" ∷ codes "f" ∷ []) ≡ gives (Some 97) 0 [] ∷ gives (Some 97) 0 [] ∷ gives (Some 114) 1 (codes "f") ∷ []
letters_share_a_word = refl

rest_is_the_value : read (codes "-ara" ∷ codes "f" ∷ []) ≡ gives (Some 97) 0 [] ∷ gives (Some 114) 0 (codes "a") ∷ gives None 1 (codes "f") ∷ []
rest_is_the_value = refl

any_word_is_a_value : read (codes "-r" ∷ codes "-a" ∷ codes "--out" ∷ [] ∷ []) ≡ gives (Some 114) 1 (codes "-a") ∷ gives (Some 0) 3 [] ∷ []
any_word_is_a_value = refl

names_are_whole_words : read (codes "--out=f" ∷ codes "--" ∷ []) ≡ Err (UnknownOption 0) ∷ Err (UnknownOption 1) ∷ []
names_are_whole_words = refl

minus_alone_is_an_operand : read (codes "-" ∷ [] ∷ []) ≡ gives None 0 (codes "-") ∷ Err (BadOperand 1) ∷ []
minus_alone_is_an_operand = refl

unknown_letter_ends_its_word : read (codes "-aZa" ∷ codes "-a" ∷ []) ≡ gives (Some 97) 0 [] ∷ Err (UnknownOption 0) ∷ gives (Some 97) 1 [] ∷ []
unknown_letter_ends_its_word = refl

last_word_lacks_its_value : read (codes "-ar" ∷ []) ≡ gives (Some 97) 0 [] ∷ Err (NoValue 0) ∷ []
last_word_lacks_its_value = refl

other_rows_behind_an_operand : items rows false 7 None (codes "f" ∷ codes "-ba" ∷ []) ≡ gives None 7 (codes "f") ∷ gives (Some 98) 8 [] ∷ Err (UnknownOption 8) ∷ []
other_rows_behind_an_operand = refl

first_fault_counts : folded (λ (n : ℕ) one. Ok one.place) (λ fault. fault) 9 (read (codes "-a" ∷ codes "-Z" ∷ codes "-r" ∷ [])) ≡ Err (UnknownOption 1)
first_fault_counts = refl
