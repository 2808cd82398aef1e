-- What is so of the options that words give, where it is so of the rows of the tables: none is added that no row has, with a value that it doesn't take.
use Rattle.std.proofs.Common.{◌≡◌, ℕ, Bool, true, List, [], ◌∷◌, ◌++◌, ◌==◌, Option, Some, None, Result, Ok, Err, refl}
use Rattle.std.specs.Prelude.{IfSome, IfOk, codes}
use Rattle.std.specs.List.{list_all}
use Rattle.std.specs.Str.{bytes_eq}
use Rattle.std.proofs.lemmas.Bool.{and_parts, cond_both}
use Rattle.word_forms.specs.Items.{Given as WordGiven}
use Rattle.word_forms.specs.Lookup.{first_letter, first_name}
use Rattle.word_forms.proofs.ItemLemmas.{kept}
use Rattle.tool_words.specs.declared.fault.UsageFault.TheVariants.{UnknownOption, BadValue}
use Rattle.tool_words.specs.declared.job.Tool.{Tool}
use Rattle.tool_words.specs.declared.options.Choice.{Choice}
use Rattle.tool_words.specs.declared.options.Form.{Form}
use Rattle.tool_words.specs.declared.options.Meaning.{Meaning}
use Rattle.tool_words.specs.declared.options.Meaning.TheVariants.{Flag, Value, NotHere}
use Rattle.tool_words.specs.declared.options.TheConstants.{WORDS}
use Rattle.tool_words.specs.declared.reading.Given.{Given}
use Rattle.tool_words.specs.declared.reading.Reading.{Reading}
use Rattle.tool_words.specs.Answers.{usage_of}
use Rattle.tool_words.specs.Options.{letters_of}
use Rattle.tool_words.specs.Reading.{letter_for, name_for, nothing, read_all, read_given, read_next, read_tool, takes, tool_named, tool_rows, with_given}

-- one more option
abbrev pub with_one : List Given → Choice → ℕ → List ℕ → List Given
with_one given choice at value = given ++ record { choice = choice; word = at; value = value } ∷ []

-- what rows are so, as those of the tables are, and what is kept by each option that such a row gives
module _ (is_so : Meaning → Bool) (Keeps : List Given → Type 0)
    (flag : (choice : Choice) (given : List Given) (at : ℕ) (value : List ℕ) → is_so (Flag choice) ≡ true → Keeps given → Keeps (with_one given choice at value))
    (valued : (choice : Choice) (form : Form) (given : List Given) (at : ℕ) (value : List ℕ) → is_so (Value choice form) ≡ true → takes given choice form value ≡ true → Keeps given → Keeps (with_one given choice at value))
    (tables : (tool : Tool) → list_all (λ (row : ℕ × Meaning). is_so row.1) (letters_of tool) ≡ true) (long : list_all (λ row. is_so row.1) WORDS ≡ true) where
  abbrev IsSo : Meaning → Type 0
  IsSo meaning = is_so meaning ≡ true

  abbrev Kept : Reading → Type 0
  Kept reading = Keeps reading.given

  -- a table whose rows are so gives no other meaning
  row-so : (rows : List (ℕ × Meaning)) (letter : ℕ) → list_all (λ (row : ℕ × Meaning). is_so row.1) rows ≡ true → IfSome (first_letter rows letter) IsSo
  row-so [] letter all = tt
  row-so (row ∷ rows) letter all =
      let parts = and_parts _ _ all in
      cond_both (row.0 == letter) (Some row.1) (first_letter rows letter) (λ o. IfSome o IsSo) (λ same. parts.0) (λ other. row-so rows letter parts.1)

  named-so : {R : Type 0} (name : R → List ℕ) (meaning : R → Meaning) (rows : List R) (word : List ℕ) → list_all (λ (row : R). is_so (meaning row)) rows ≡ true
      → IfSome (first_name name meaning rows word) IsSo
  named-so name meaning [] word all = tt
  named-so name meaning (row ∷ rows) word all =
      let parts = and_parts _ _ all in
      cond_both (bytes_eq (name row) word) (Some (meaning row)) (first_name name meaning rows word) (λ o. IfSome o IsSo) (λ same. parts.0) (λ other. named-so name meaning rows word parts.1)

  letter-so : (tool : Option Tool) (letter : ℕ) → IfSome (letter_for tool letter) IsSo
  letter-so None letter = tt
  letter-so (Some tool) letter = row-so (letters_of tool) letter (tables tool)

  word-so : (tool : Option Tool) (word : List ℕ) → IfSome (name_for tool word) IsSo
  word-so None word = named-so (λ row. row.0.now) (λ row. row.1) WORDS word long
  word-so (Some tool) word = tt

  tool-kept : (tool : Option Tool) (reading : Reading) (at : ℕ) → Kept reading → IfOk (read_tool tool reading at) Kept
  tool-kept None reading at k = tt
  tool-kept (Some tool) reading at k = k

  given-kept : (meant : Option Meaning) (reading : Reading) (at : ℕ) (value : List ℕ) → IfSome meant IsSo → Kept reading → IfOk (read_given meant reading at value) Kept
  given-kept None reading at word so k =
      cond_both (bytes_eq word (codes "-")) (Err (UnknownOption at)) (read_tool (tool_named word) reading at) (λ r. IfOk r Kept) (λ minus. tt) (λ other. tool-kept (tool_named word) reading at k)
  given-kept (Some (Flag choice)) reading at value so k = flag choice reading.given at value so k
  given-kept (Some (Value choice form)) reading at value so k =
      cond_both (takes reading.given choice form value) (Ok (with_given choice reading at value)) (Err (BadValue at)) (λ r. IfOk r Kept)
      (λ took. valued choice form reading.given at value so took k) (λ other. tt)
  given-kept (Some NotHere) reading at value so k = tt

  -- it is so of all that words give
  pub all-so : (words : List (List ℕ)) → Keeps [] → IfOk (read_all words) Kept
  all-so words k =
      kept read_next usage_of IsSo Kept (λ reading one so k. given-kept one.choice reading one.place one.value so k)
      tool_rows (λ rows letter. letter-so rows.tool letter) (λ rows word. word-so rows.tool word) words (record { tool = None }) 0 None tt nothing k
