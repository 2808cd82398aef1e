-- The options that words give have values that say what they want.
use Rattle.std.proofs.Common.{◌≡◌, ℕ, Bool, true, false, ◌||◌, not, List, [], Some, refl}
use Rattle.std.specs.Prelude.{IfOk, if◌then◌else◌, is_some, None, codes}
use Rattle.std.specs.List.{All, list_all}
use Rattle.std.specs.Str.{bytes_eq}
use Rattle.std.proofs.lemmas.List.Elements.{All-nil, All-push}
use Rattle.txn_rows.specs.declared.group.Grouping.TheVariants.{Raw, Vxid, Request, Session}
use Rattle.tool_words.specs.declared.job.Tool.{Tool}
use Rattle.tool_words.specs.declared.job.Tool.TheVariants as tools
use Rattle.tool_words.specs.declared.options.Choice.{Choice}
use Rattle.tool_words.specs.declared.options.Choice.TheVariants.{Group, Limit, RecordLength, Segment, Timeout}
use Rattle.tool_words.specs.declared.options.Form.{Form}
use Rattle.tool_words.specs.declared.options.Form.TheVariants.{AnyGrouping, AccessGrouping, Number}
use Rattle.tool_words.specs.declared.options.Meaning.{Meaning}
use Rattle.tool_words.specs.declared.options.Meaning.TheVariants.{Flag, Value, NotHere}
use Rattle.tool_words.specs.declared.reading.Given.{Given}
use Rattle.tool_words.specs.Again.{AllSay, says}
use Rattle.tool_words.specs.Options.{letters_of}
use Rattle.tool_words.specs.Reading.{read_all, takes}
use Rattle.tool_words.proofs.GivenLemmas.{all-so}

-- whether an option wants a value that says something
abbrev wants : Choice → Bool
wants Group = true
wants Limit = true
wants RecordLength = true
wants Segment = true
wants Timeout = true
wants choice = false

-- whether an option takes such values alone, if it wants them
abbrev is_said : Meaning → Bool
is_said (Value Group AnyGrouping) = true
is_said (Value Group AccessGrouping) = true
is_said (Value Limit Number) = true
is_said (Value RecordLength Number) = true
is_said (Value Segment Number) = true
is_said (Value Timeout Number) = true
is_said (Value choice form) = not (wants choice)
is_said (Flag choice) = not (wants choice)
is_said NotHere = true

tables-said : (tool : Tool) → list_all (λ (row : ℕ × Meaning). is_said row.1) (letters_of tool) ≡ true
tables-said tools.Log = refl
tables-said tools.Ncsa = refl
tables-said tools.Top = refl
tables-said tools.Stat = refl

unwanted : (choice : Choice) (value : List ℕ) → not (wants choice) ≡ true → says choice value ≡ true
unwanted Group value none = absurd cc
unwanted Limit value none = absurd cc
unwanted RecordLength value none = absurd cc
unwanted Segment value none = absurd cc
unwanted Timeout value none = absurd cc
unwanted choice value none = refl

-- the groupings of access lines are groupings
is_grouping : (raw vxid request session : Bool) → (vxid || request) ≡ true → is_some (if raw then Some Raw else (if vxid then Some Vxid else (if request then Some Request else (if session then Some Session else None)))) ≡ true
is_grouping true vxid request session one = refl
is_grouping false true request session one = refl
is_grouping false false true session one = refl
is_grouping false false false session one = absurd cc

taken : (given : List Given) (choice : Choice) (form : Form) (value : List ℕ) → is_said (Value choice form) ≡ true → takes given choice form value ≡ true → says choice value ≡ true
taken given Group AnyGrouping value so took = took
taken given Group AccessGrouping value so took = is_grouping (bytes_eq value (codes "raw")) (bytes_eq value (codes "vxid")) (bytes_eq value (codes "request")) (bytes_eq value (codes "session")) took
taken given Limit Number value so took = took
taken given RecordLength Number value so took = took
taken given Segment Number value so took = took
taken given Timeout Number value so took = took
taken given choice form value so took = unwanted choice value so

abbrev IsSaid : Given → Type 0
IsSaid one = says one.choice one.value ≡ true

pub all_said : (words : List (List ℕ)) → IfOk (read_all words) (λ r. AllSay r.given)
all_said words =
    all-so is_said (All IsSaid)
    (λ choice given at value so all. All-push IsSaid given (record { choice = choice; word = at; value = value }) all (unwanted choice value so))
    (λ choice form given at value so took all. All-push IsSaid given (record { choice = choice; word = at; value = value }) all (taken given choice form value so took))
    tables-said refl words (All-nil IsSaid)
