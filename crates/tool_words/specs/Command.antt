-- What words ask for: a command, with what it is to do (this project's choice).
use Rattle.std.specs.Prelude.{ℕ, if◌then◌else◌, Bool, false, List, [], ◌∷◌, Result, Ok, Err, codes}
use Rattle.std.specs.Str.{bytes_eq}
use Rattle.tool_words.specs.declared.command.Command.{Command}
use Rattle.tool_words.specs.declared.command.Command.TheVariants.{ForTool, ForConvert}
use Rattle.tool_words.specs.declared.command.Names.{Names}
use Rattle.tool_words.specs.declared.fault.UsageFault.{UsageFault}
use Rattle.tool_words.specs.declared.fault.UsageFault.TheVariants.{NoLog, BadValue}
use Rattle.tool_words.specs.declared.job.Job.{Job}
use Rattle.tool_words.specs.Job.{job_of}
use Rattle.tool_words.specs.Sound.{IsSound}

-- whether words ask for a command that is no tool, by the first of them: its own words behind it are no options
abbrev pub is_other : List (List ℕ) → Bool
is_other [] = false
is_other (word ∷ words) = bytes_eq word (codes "convert")

-- the two names behind the name of a command, or what is wrong with them. Each word is a name, as `-` is that of a stream
abbrev pub names_of : List (List ℕ) → Result Names UsageFault
names_of [] = Err NoLog
names_of (name ∷ []) = Err NoLog
names_of (name ∷ input ∷ []) = Err NoLog
names_of (name ∷ input ∷ output ∷ []) = Ok (record { input = input; output = output })
names_of (name ∷ input ∷ output ∷ more ∷ words) = Err (BadValue 3)

-- a log is converted under these names
abbrev pub convert_command : Result Names UsageFault → Result Command UsageFault
convert_command (Ok names) = Ok (ForConvert names)
convert_command (Err why) = Err why

-- the job of a tool, as a command
abbrev pub tool_command : Result Job UsageFault → Result Command UsageFault
tool_command (Ok job) = Ok (ForTool job)
tool_command (Err why) = Err why

-- the command that words ask for, or what is wrong with them. Whatever the words are it says which
abbrev pub command_of : List (List ℕ) → Result Command UsageFault
command_of words = if is_other words then convert_command (names_of words) else tool_command (job_of words)

-- what every command keeps to, whatever the words are
abbrev pub IsSoundCommand : Command → Type 0
IsSoundCommand (ForTool job) = IsSound job
IsSoundCommand (ForConvert names) = Unit {0}
