-- How words are read: options with their values, and operands (the Utility Syntax Guidelines of POSIX; options that are whole words, and operands between options, are this project's choice).
use Rattle.std.specs.Prelude.{ℕ, ◌+◌, ◌-◌, ◌==◌, if◌then◌else◌, Bool, true, false, List, [], ◌∷◌, ◌++◌, drop, Option, Some, None, Result, Ok, Err}
use Rattle.word_forms.specs.declared.fault.WordFault.{WordFault}
use Rattle.word_forms.specs.declared.fault.WordFault.TheVariants.{UnknownOption, NoValue, BadOperand}

-- what the rows of a command say: which option a letter is, and which a whole word is; whether an option has a value; and
-- which rows hold behind an operand, where it is taken
pub record Table (S C : Type 0) : Type 0 where
  pub letter : S → ℕ → Option C
  pub name : S → List ℕ → Option C
  pub wants : C → Bool
  pub behind : S → List ℕ → Option S

-- an option that is given, or an operand, which is of no choice; with the place of the word that has the value, and of a
-- flag its own
pub record Given (C : Type 0) : Type 0 where
  pub choice : Option C
  pub place : ℕ
  pub value : List ℕ

-- what is given, or what is wrong with a word
abbrev pub Item : Type 0 → Type 0
Item C = Result (Given C) WordFault

-- this is given
abbrev pub gives : {C : Type 0} → Option C → ℕ → List ℕ → Item C
gives choice at value = Ok (record { choice = choice; place = at; value = value })

-- whether a word has a minus sign in front and more behind it
abbrev pub has_letters : List ℕ → Bool
has_letters [] = false
has_letters (b ∷ []) = false
has_letters (b ∷ letter ∷ text) = b == 45

-- what is given in a word, and the option whose value is the next word
pub record Spelt (C : Type 0) : Type 0 where
  pub items : List (Item C)
  pub wanted : Option C

-- an option, with what is left of its word: that is its value, or the next word is where nothing is left; a flag has none,
-- and the word is read on
abbrev pub option_of : {C : Type 0} → Bool → ℕ → C → List ℕ → Spelt C → Spelt C
option_of false at choice rest more = record { items = gives (Some choice) at [] ∷ more.items; wanted = more.wanted }
option_of true at choice [] more = record { items = []; wanted = Some choice }
option_of true at choice (b ∷ value) more = record { items = gives (Some choice) at (b ∷ value) ∷ []; wanted = None }

-- letters, each an option. Behind one that is none the word isn't read on
abbrev pub letters_of : {C : Type 0} → (ℕ → Option C) → (C → Bool) → ℕ → List ℕ → Spelt C
letters_of letter wants at [] = record { items = []; wanted = None }
letters_of letter wants at (b ∷ rest) = elim (letter b) [
  | None ↦ record { items = Err (UnknownOption at) ∷ []; wanted = None }
  | Some choice ↦ option_of (wants choice) at choice rest (letters_of letter wants at rest)
]

-- an operand, and the rows behind it, where it is taken
abbrev pub operand_of : {S C : Type 0} → Option S → S → ℕ → List ℕ → Spelt C × S
operand_of None s at word = (record { items = Err (BadOperand at) ∷ []; wanted = None }, s)
operand_of (Some next) s at word = (record { items = gives None at word ∷ []; wanted = None }, next)

-- what a word gives, and the rows behind it: by its name it is an option, or it has letters, or it is an operand
abbrev pub of_word : {S C : Type 0} → Table S C → S → ℕ → List ℕ → Spelt C × S
of_word rows s at word = elim (rows.name s word) [
  | Some choice ↦ (option_of (rows.wants choice) at choice [] (record { items = []; wanted = None }), s)
  | None ↦
      if has_letters word then (letters_of (rows.letter s) rows.wants at (drop 1 word), s)
      else operand_of (rows.behind s word) s at word
]

-- what the words from a place on give, the first of which is the value that an option wants, or is read
abbrev pub items : {S C : Type 0} → Table S C → S → ℕ → Option C → List (List ℕ) → List (Item C)
items rows s at None [] = []
items rows s at (Some choice) [] = Err (NoValue (at - 1)) ∷ []
items rows s at (Some choice) (word ∷ words) = gives (Some choice) at word ∷ items rows s (at + 1) None words
items rows s at None (word ∷ words) =
    (of_word rows s at word).0.items ++ items rows (of_word rows s at word).1 (at + 1) (of_word rows s at word).0.wanted words

-- what the items come to, each in turn, or the first fault
abbrev pub folded : {A E C : Type 0} → (A → Given C → Result A E) → (WordFault → E) → A → List (Item C) → Result A E
folded add fault a [] = Ok a
folded add fault a (Err e ∷ items) = Err (fault e)
folded add fault a (Ok one ∷ items) = elim (add a one) [ Ok next ↦ folded add fault next items | Err e ↦ Err e ]
