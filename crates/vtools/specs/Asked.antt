-- What the words of a command line ask of the program itself, and what is answered (this project's choice).
use Rattle.std.specs.Prelude.{ℕ, List, [], ◌∷◌, Option, Some, None, option_map, unwrap_or, codes, if◌then◌else◌}
use Rattle.std.specs.Str.{bytes_eq}
use Rattle.system_world.specs.Questions.{is_help}
use Rattle.tool_words.specs.Commands.{command_named, is_same_command}
use Rattle.tool_words.specs.declared.commands.CommandName.{CommandName}
use Rattle.vtools.specs.declared.answers.TheConstants.{VERSION}
use Rattle.vtools.specs.declared.asked.Asked.{Asked}
use Rattle.vtools.specs.declared.asked.Asked.TheVariants.{Help, HelpOf, Version}
use Rattle.vtools.specs.declared.help.TheConstants.{HELP, HELPS}

-- as the only word `--help` asks for the program's help, and `--version` for its version
abbrev pub asked_alone : List ℕ → Option Asked
asked_alone word =
    if bytes_eq word (codes "--help") then Some Help else
    (if bytes_eq word (codes "--version") then Some Version else None)

-- as the only word behind a command's name `--help` or `-h` asks for the command's help
abbrev pub asked_behind : List ℕ → List ℕ → Option Asked
asked_behind name word = if is_help word then option_map HelpOf (command_named name) else None

-- what the words ask of the program itself; none but these one or two ask it for more than a command's work. They are
-- answered before the top call, whose contract so has one meaning for all words: to it these are faults like others
abbrev pub asked_of : List (List ℕ) → Option Asked
asked_of [] = None
asked_of (word ∷ []) = asked_alone word
asked_of (name ∷ word ∷ []) = asked_behind name word
asked_of (name ∷ word ∷ more ∷ words) = None

-- the text of a command by the first row that has it
abbrev pub help_in : {R : Type 0} → (R → CommandName) → (R → List ℕ) → List R → CommandName → Option (List ℕ)
help_in command_of text_of [] command = None
help_in command_of text_of (row ∷ rows) command =
    if is_same_command (command_of row) command then Some (text_of row) else help_in command_of text_of rows command

-- the help of a command by its row
abbrev pub help_row : CommandName → Option (List ℕ)
help_row command = help_in (λ row. row.0) (λ row. row.1.now) HELPS command

-- the help of a command: that of its row, which each command has
abbrev pub help_of : CommandName → List ℕ
help_of command = unwrap_or (help_row command) HELP.now

-- what is printed where this is asked
abbrev pub text_of : Asked → List ℕ
text_of Help = HELP.now
text_of (HelpOf command) = help_of command
text_of Version = VERSION.now
