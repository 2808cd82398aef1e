-- What the steps of the reader come to.
use Rattle.std.specs.Prelude.{◌≡◌, ℕ, ◌+◌, List, [], ◌∷◌, drop, map, Option, Some, None, Result, Ok, Err}
use Rattle.std.specs.String.{string_bytes}
use Rattle.word_forms.specs.declared.fault.WordFault.{WordFault}
use Rattle.word_forms.specs.declared.words.Given.{Given as GivenView}
use Rattle.word_forms.specs.declared.words.Words.{Words}
use Rattle.word_forms.specs.Items.{Item, Table, items, option_of}
use Rattle.word_forms.specs.Words.{and_behind, given_as, letters_left}

-- an answer is the first item
abbrev pub IsItem : {C : Type 0} → List (Item C) → Result (GivenView C) WordFault → List (Item C) → Type 0
IsItem before (Ok one) after = before ≡ Ok (given_as one) ∷ after
IsItem before (Err fault) after = before ≡ Err fault ∷ after

-- the items that are left where the word before has an option, and behind it this text
abbrev pub option_left : {S C : Type 0} → Table S C → Words S → C → List ℕ → List (Item C)
option_left rows w choice rest = and_behind rows w (option_of (rows.wants choice) w.place choice rest (letters_left rows w rest))

-- the items that are left where nothing of the word before was read
abbrev pub word_left : {S C : Type 0} → Table S C → Words S → List ℕ → List (Item C)
word_left rows w word = items rows w.rows w.place None (word ∷ drop w.next (map string_bytes w.words.now))

-- the word that is taken, and what a reader has then
pub record Took {S : Type 0} (before : Words S) (word : List ℕ) (after : Words S) : Type 0 where
  pub word_is : drop before.next (map string_bytes before.words.now) ≡ word ∷ drop after.next (map string_bytes after.words.now)
  pub rows : after.rows ≡ before.rows
  pub next : after.next ≡ before.next + 1
  pub place : after.place ≡ before.next
  pub letters : after.letters.now ≡ before.letters.now

-- there is no word
pub record TookNone {S : Type 0} (before after : Words S) : Type 0 where
  pub none : drop before.next (map string_bytes before.words.now) ≡ []
  pub same : after ≡ before

-- a word was taken, or there is none
abbrev pub IsWord : {S : Type 0} → Words S → Option (List ℕ) → Words S → Type 0
IsWord before (Some word) after = Took before word after
IsWord before None after = TookNone before after
