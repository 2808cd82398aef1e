-- What a reader of words has left (this project's choice).
use Rattle.std.specs.Prelude.{◌≡◌, ℕ, List, [], ◌∷◌, ◌++◌, drop, map, Option, Some, None, Result, Ok, Err}
use Rattle.std.specs.String.{string_bytes}
use Rattle.word_forms.specs.declared.fault.WordFault.{WordFault}
use Rattle.word_forms.specs.declared.words.Given.{Given as GivenView}
use Rattle.word_forms.specs.declared.words.Words.{Words}
use Rattle.word_forms.specs.Items.{Given, Item, Spelt, Table, items, letters_of}

-- what is given, with the bytes of its value
abbrev pub given_as : {C : Type 0} → GivenView C → Given C
given_as one = record { choice = one.choice; place = one.place; value = one.value.now }

-- these items, and behind them those of the next words
abbrev pub and_behind : {S C : Type 0} → Table S C → Words S → Spelt C → List (Item C)
and_behind rows w spelt = spelt.items ++ items rows w.rows w.next spelt.wanted (drop w.next (map string_bytes w.words.now))

-- the letters that are left of the word before
abbrev pub letters_left : {S C : Type 0} → Table S C → Words S → List ℕ → Spelt C
letters_left rows w letters = letters_of (rows.letter w.rows) rows.wants w.place letters

-- the items that are left
abbrev pub left : {S C : Type 0} → Table S C → Words S → List (Item C)
left rows w = and_behind rows w (letters_left rows w w.letters.now)

-- an answer is the first item, or there is none
abbrev pub IsNext : {C : Type 0} → List (Item C) → Result (Option (GivenView C)) WordFault → List (Item C) → Type 0
IsNext before (Ok None) after = (before ≡ []) × (after ≡ [])
IsNext before (Ok (Some one)) after = before ≡ Ok (given_as one) ∷ after
IsNext before (Err fault) after = before ≡ Err fault ∷ after
