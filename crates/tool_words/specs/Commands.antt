-- The commands of `vtools`: what the rows of `commands.rt` say (this project's choice).
use Rattle.std.specs.Prelude.{ℕ, Bool, true, false, List, Option}
use Rattle.std.specs.List.{list_any}
use Rattle.word_forms.specs.Lookup.{first_name}
use Rattle.tool_words.specs.declared.commands.CommandName.{CommandName}
use Rattle.tool_words.specs.declared.commands.CommandName.TheVariants as commands
use Rattle.tool_words.specs.declared.commands.TheConstants.{COMMANDS}
use Rattle.tool_words.specs.declared.job.Tool.{Tool}
use Rattle.tool_words.specs.declared.job.Tool.TheVariants as tools

-- whether two tools are one
abbrev pub is_same_tool : Tool → Tool → Bool
is_same_tool tools.Log tools.Log = true
is_same_tool tools.Ncsa tools.Ncsa = true
is_same_tool tools.Top tools.Top = true
is_same_tool tools.Stat tools.Stat = true
is_same_tool one other = false

-- whether two commands are one
abbrev pub is_same_command : CommandName → CommandName → Bool
is_same_command (commands.Tool one) (commands.Tool other) = is_same_tool one other
is_same_command commands.Convert commands.Convert = true
is_same_command one other = false

-- whether a command is among these
abbrev pub is_among : CommandName → List CommandName → Bool
is_among command having = list_any (λ one. is_same_command one command) having

-- the command of a name, where there is one
abbrev pub command_named : List ℕ → Option CommandName
command_named name = first_name (λ row. row.0.now) (λ row. row.1) COMMANDS name
