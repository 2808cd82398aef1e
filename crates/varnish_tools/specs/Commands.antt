-- The commands, a line each: which steps of a command are taken in the world, and what its run is behind all of them (this project's choice). What words ask for says `command_of`, and which steps a
-- command has `command_steps`.
use Rattle.std.specs.Prelude.{ℕ, if◌then◌else◌, is_some, List, [], Option}
use Rattle.vio.specs.World.{Seen}
use Rattle.vio.specs.Calls.{Call}
use Rattle.vsl_select.specs.Shown.{rules_fault}
use Rattle.tool_words.specs.declared.command.Command.{Command}
use Rattle.tool_words.specs.declared.command.Command.TheVariants.{ForTool, ForConvert}
use Rattle.job_steps.specs.declared.fault.ToolFault.{ToolFault}
use Rattle.job_steps.specs.Steps.{Step, Found, job_steps, names_steps}
use Rattle.job_runs.specs.declared.record.RunRecord.{RunRecord}
use Rattle.job_runs.specs.Converts.{ConvertRan, ConvertShort}
use Rattle.job_runs.specs.Rows.{JobRan, JobShort}

-- the steps that are taken in the world: of a tool those of a job whose rules are good
abbrev pub world_steps : Command → List Step
world_steps (ForTool job) = if is_some (rules_fault job.caseless job.rules) then [] else job_steps job
world_steps (ForConvert names) = names_steps names

-- the run of a command, which left this world, by what its steps found
abbrev pub CommandRan : Command → Seen → Option ToolFault → RunRecord → List Found → List Call → Type 0
CommandRan (ForTool job) at fault recorded found calls = JobRan job at fault recorded found calls
CommandRan (ForConvert names) at fault recorded found calls = ConvertRan names at fault recorded found calls

-- the same where it had no memory
abbrev pub CommandShort : Command → List Found → List Call → Type 0
CommandShort (ForTool job) found calls = JobShort job found calls
CommandShort (ForConvert names) found calls = ConvertShort names found calls

-- the sinks that stop alone, by what was found: none, since a write that fails ends a command
abbrev pub alone_of : List Found → List ℕ
alone_of found = []
