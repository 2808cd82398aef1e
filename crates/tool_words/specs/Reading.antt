-- What the words give: each option, with the place and the text of its value, or the first fault from the left (varnishlog(1), varnishncsa(1), varnishtop(1), varnishstat(1), "OPTIONS"; what stands before the tool, and the order of faults, are this project's choice).
use Rattle.std.specs.Prelude.{ℕ, ◌||◌, nat_lt, if◌then◌else◌, Bool, true, false, is_some, List, [], ◌∷◌, ◌++◌, count_by, Option, Some, None, Result, Ok, Err, codes}
use Rattle.std.specs.Str.{bytes_eq}
use Rattle.word_forms.specs.Items.{Given as WordGiven, Table, folded, items}
use Rattle.word_forms.specs.Lookup.{first_letter}
use Rattle.tool_words.specs.declared.fault.UsageFault.{UsageFault}
use Rattle.tool_words.specs.declared.fault.UsageFault.TheVariants.{UnknownTool, UnknownOption, BadValue}
use Rattle.tool_words.specs.declared.fault.UsageFault.TheVariants as faults
use Rattle.tool_words.specs.declared.job.Tool.{Tool}
use Rattle.tool_words.specs.declared.job.Tool.TheVariants as tools
use Rattle.tool_words.specs.declared.options.Choice.{Choice}
use Rattle.tool_words.specs.declared.options.Choice.TheVariants.{Feed}
use Rattle.tool_words.specs.declared.options.Form.{Form}
use Rattle.tool_words.specs.declared.options.Form.TheVariants.{Text, FeedName, Number, CountAndSeed, AnyGrouping, AccessGrouping}
use Rattle.tool_words.specs.declared.options.Meaning.{Meaning}
use Rattle.tool_words.specs.declared.options.Meaning.TheVariants as meanings
use Rattle.tool_words.specs.declared.reading.Given.{Given}
use Rattle.tool_words.specs.declared.reading.Reading.{Reading}
use Rattle.tool_words.specs.declared.rows.ToolRows.{ToolRows}
use Rattle.tool_words.specs.Answers.{usage_of}
use Rattle.tool_words.specs.Fold.{number_for}
use Rattle.tool_words.specs.Number.{count_and_seed, grouping_named}
use Rattle.tool_words.specs.Options.{letters_of, long_meaning_of}

-- ---- which rows are read

-- the tool of this name
abbrev pub tool_named : List ℕ → Option Tool
tool_named text =
    if bytes_eq text (codes "varnishlog") then Some tools.Log else
    (if bytes_eq text (codes "varnishncsa") then Some tools.Ncsa else
    (if bytes_eq text (codes "varnishtop") then Some tools.Top else
    (if bytes_eq text (codes "varnishstat") then Some tools.Stat else None)))

-- what a letter means: before the tool there are none
abbrev pub letter_for : Option Tool → ℕ → Option Meaning
letter_for None letter = None
letter_for (Some tool) letter = first_letter (letters_of tool) letter

-- what a whole word means: behind the tool there are none
abbrev pub name_for : Option Tool → List ℕ → Option Meaning
name_for None word = long_meaning_of word
name_for (Some tool) word = None

-- whether an option has a value
abbrev pub has_value : Meaning → Bool
has_value (meanings.Value choice form) = true
has_value meaning = false

-- the rows of the words before the tool, and behind its name those of the tool. No tool takes operands, from which `--`
-- could divide the options
abbrev pub tool_rows : Table ToolRows Meaning
tool_rows = record {
  letter = λ rows letter. letter_for rows.tool letter;
  name = λ rows word. name_for rows.tool word;
  wants = has_value;
  behind = λ rows word. if is_some rows.tool then None else Some (record { tool = tool_named word });
}

-- ---- what is given

-- whether an option names a listing
abbrev pub is_feed : Choice → Bool
is_feed Feed = true
is_feed choice = false

-- whether an option takes this value, after those given
abbrev pub takes : List Given → Choice → Form → List ℕ → Bool
takes given choice Text value = true
takes given choice (FeedName most) value = nat_lt (count_by (λ (g : Given). is_feed g.choice) given) most
takes given choice Number value = is_some (number_for choice value)
takes given choice CountAndSeed value = is_some (count_and_seed value)
takes given choice AnyGrouping value = is_some (grouping_named value)
takes given choice AccessGrouping value = bytes_eq value (codes "vxid") || bytes_eq value (codes "request")

-- an option is given, with its value, none for a flag
abbrev pub with_given : Choice → Reading → ℕ → List ℕ → Reading
with_given choice reading at value =
    record { tool = reading.tool; given = reading.given ++ record { choice = choice; word = at; value = value } ∷ [] }

-- the name of the tool
abbrev pub read_tool : Option Tool → Reading → ℕ → Result Reading UsageFault
read_tool None reading at = Err (UnknownTool at)
read_tool (Some tool) reading at = Ok (record { tool = Some tool; given = reading.given })

-- an operand is the name of the tool, and `-` is none
abbrev pub read_operand : Reading → ℕ → List ℕ → Result Reading UsageFault
read_operand reading at word = if bytes_eq word (codes "-") then Err (UnknownOption at) else read_tool (tool_named word) reading at

-- an option, or the tool's name, after those before it
abbrev pub read_given : Option Meaning → Reading → ℕ → List ℕ → Result Reading UsageFault
read_given None reading at word = read_operand reading at word
read_given (Some (meanings.Flag choice)) reading at value = Ok (with_given choice reading at value)
read_given (Some (meanings.Value choice form)) reading at value = if takes reading.given choice form value then
    Ok (with_given choice reading at value) else Err (BadValue at)
read_given (Some meanings.NotHere) reading at value = Err (faults.NotHere at)

-- what is given next
abbrev pub read_next : Reading → WordGiven Meaning → Result Reading UsageFault
read_next reading one = read_given one.choice reading one.place one.value

-- before the first word
abbrev pub nothing : Reading
nothing = record { tool = None; given = [] }

-- what the words from a place on give, after what was given before, by these rows
abbrev pub read_from : ToolRows → Reading → ℕ → List (List ℕ) → Result Reading UsageFault
read_from rows reading at words = folded read_next usage_of reading (items tool_rows rows at None words)

-- what all words give
abbrev pub read_all : List (List ℕ) → Result Reading UsageFault
read_all words = read_from (record { tool = None }) nothing 0 words
