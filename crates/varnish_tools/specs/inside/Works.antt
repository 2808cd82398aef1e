-- What working off comes to, by its answer.
use Rattle.std.specs.Prelude.{◌≡◌, ℕ, List, Option, Some, Result, Ok, Err}
use Rattle.log_model.specs.declared.fault.Halt.{Halt}
use Rattle.log_model.specs.declared.fault.Halt.TheVariants.{Fault, NoMemory}
use Rattle.vio.specs.World.{Seen}
use Rattle.vio.specs.Calls.{Call}
use Rattle.one_command.specs.Promise.{SaysPart, Works}
use Rattle.tool_words.specs.declared.command.Command.{Command}
use Rattle.tool_words.specs.declared.fault.UsageFault.{UsageFault}
use Rattle.job_steps.specs.declared.fault.ToolFault.{ToolFault}
use Rattle.job_steps.specs.Steps.{Passes, Stops, steps_of}
use Rattle.job_runs.specs.declared.record.Ran.{Ran}
use Rattle.job_runs.specs.declared.record.RunRecord.{RunRecord}
use Rattle.job_runs.specs.declared.record.RunRecord.TheVariants.{Nothing}
use Rattle.varnish_tools.specs.Faults.{message}
use Rattle.varnish_tools.specs.Commands.{alone_of}
use Rattle.varnish_tools.specs.Theorem.{LacksWork, StatedRan}

-- the words were worked off by these calls
abbrev pub DidWork : Result Command UsageFault → Seen → Option ToolFault → RunRecord → List Call → Type 0
DidWork stated at fault recorded calls = Works Passes Stops (StatedRan stated) alone_of Nothing
    (steps_of stated) at fault recorded calls

-- what working off comes to: a run, a fault of a step, or want of memory
abbrev pub IsWorked : Result Command UsageFault → Seen → Result Ran (Halt ToolFault) → List Call → Type 0
IsWorked stated at (Ok ran) calls = DidWork stated at ran.fault ran.run calls
IsWorked stated at (Err (Fault fault)) calls = DidWork stated at (Some fault) Nothing calls
IsWorked stated at (Err NoMemory) calls = LacksWork stated calls

-- what is answered of it: a fault of a step is a run that took nothing
abbrev pub IsSettled : {M : Type 0} → Result Ran (Halt ToolFault) → Result Ran M → Type 0
IsSettled (Ok ran) (Ok same) = same ≡ ran
IsSettled (Ok ran) (Err e) = ⊥
IsSettled (Err (Fault fault)) (Ok ran) = (ran.fault ≡ Some fault) × (ran.run ≡ Nothing)
IsSettled (Err (Fault fault)) (Err e) = ⊥
IsSettled (Err NoMemory) (Ok ran) = ⊥
IsSettled (Err NoMemory) (Err e) = Unit {0}

-- there was no memory to say the message of a fault: nothing of it was written, or not all
abbrev pub SaysPartOf : List (List ℕ) → Option ToolFault → List Call → Type 0
SaysPartOf words fault calls = (f : ToolFault) × (fault ≡ Some f) × SaysPart (message words f) calls
