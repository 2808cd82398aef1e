-- The main theorem: what the top call answers, and all that it does in the world, for every command line, input and world (this project's choice).
use Rattle.std.specs.Prelude.{◌≡◌, ◌≢◌, ◌⊎◌, ℕ, ◌≤◌, true, false, List, [], ◌∷◌, ◌++◌, length, Option, None, Some, Result, Ok, Err, codes}
use Rattle.vio.specs.declared.world.TheConstants.{ERRORS, OUTPUT}
use Rattle.vio.specs.World.{Gains, Seen}
use Rattle.vio.specs.Calls.{Call, Called, AreWithin, count_given, none_failed}
use Rattle.vio.specs.Steps.{Passed}
use Rattle.one_command.specs.Promise.{Promised, Says, SaysPart}
use Rattle.vsl_words.specs.declared.version.Version.{Version}
use Rattle.vsl_record.specs.Unit.{Log}
use Rattle.vsl_file.specs.File.{IsSplit, most_bytes}
use Rattle.txn_rows.specs.declared.group.Group.{Group}
use Rattle.txn_rows.specs.Grouping.{all_taken, groups_of}
use Rattle.vsl_dispatch.specs.Groups.{kept}
use Rattle.tool_words.specs.declared.command.Command.{Command}
use Rattle.tool_words.specs.declared.fault.UsageFault.{UsageFault}
use Rattle.tool_words.specs.declared.job.Job.{Job}
use Rattle.tool_words.specs.declared.job.Tool.{Tool}
use Rattle.tool_words.specs.declared.job.Tool.TheVariants as tools
use Rattle.tool_words.specs.Command.{command_of}
use Rattle.tool_words.specs.Job.{job_of}
use Rattle.job_steps.specs.declared.fault.ToolFault.{ToolFault}
use Rattle.job_steps.specs.Jobs.{is_counting, options_of}
use Rattle.job_steps.specs.Queries.{Ask, AreAsked, chosen}
use Rattle.job_steps.specs.Steps.{Step, Found, Passes, Stops, steps_of, reads_of, writes_of, opens_of, creates_of}
use Rattle.job_steps.specs.Took.{LacksSteps}
use Rattle.tool_consumers.specs.Output.{access_lines, log_lines, top_report}
use Rattle.job_runs.specs.declared.record.RunRecord.{RunRecord}
use Rattle.job_runs.specs.declared.record.RunRecord.TheVariants.{Nothing}
use Rattle.varnish_tools.specs.declared.outcome.Outcome.{Outcome}
use Rattle.varnish_tools.specs.Commands.{CommandRan, CommandShort, alone_of, world_steps}
use Rattle.varnish_tools.specs.Faults.{fault_message, message, status_of}
use Rattle.varnish_tools.specs.Texts.{AreTexts}

-- ---- the plain case: a log file that is read to its end, without a fault, and printed to standard output

-- words name a log: they state this job of a tool that prints groups, with no OUT, over a file of this name, and the world tells that it holds a whole log of these units
pub record NamesLog (words : List (List ℕ)) (job : Job) (units : Log) (before : Seen) : Type 0 where
  pub states : job_of words ≡ Ok job
  pub groups : is_counting job.tool ≡ false
  pub name : List ℕ
  pub is_log : job.file ≡ Some name
  pub is_file : name ≢ codes "-"
  pub no_out : job.write ≡ None
  pub bytes : List ℕ
  pub held : before.held name ≡ Some bytes
  pub most : length bytes ≤ most_bytes
  pub version : Version
  pub file : IsSplit version bytes units []

-- the texts of a job's queries mean this; without one nothing is asked, and each group is one that is asked for
pub record Asks (job : Job) (ask : Ask) (before : Seen) : Type 0 where
  pub texts : List (List ℕ)
  pub are_texts : AreTexts before job.queries texts
  pub asked : AreAsked job.caseless None texts ask

-- the groups of a log that are printed: those that are asked for, in the order in which they are complete, at most as many as are kept
abbrev pub printed_groups : Job → Ask → Log → List Group
printed_groups job ask units = kept job.keep (chosen ask (groups_of (options_of job) (all_taken units) true))

-- a call ended well: its status is 0, standard output gained this text, and standard error nothing
pub record Prints (text : List ℕ) (outcome : Outcome) (before now : Seen) : Type 0 where
  pub status : outcome.status ≡ 0
  pub output : Gains (before.written OUTPUT) (now.written OUTPUT) text
  pub errors : Gains (before.written ERRORS) (now.written ERRORS) []

-- varnishlog printed the lines of a log's groups
abbrev pub PrintsLines : Job → Ask → Log → Outcome → Seen → Seen → Type 0
PrintsLines job ask units outcome before now = Prints (log_lines job (printed_groups job ask units)) outcome before now

-- varnishncsa printed their access lines
abbrev pub PrintsAccess : Job → Ask → Log → Outcome → Seen → Seen → Type 0
PrintsAccess job ask units outcome before now =
    Prints (access_lines job (printed_groups job ask units)) outcome before now

-- varnishtop printed its report of them
abbrev pub PrintsReport : Job → Ask → Log → Outcome → Seen → Seen → Type 0
PrintsReport job ask units outcome before now =
    Prints (top_report job (printed_groups job ask units) true) outcome before now

-- by the tool; varnishstat prints no groups
abbrev pub PrintsBy : Tool → Job → Ask → Log → Outcome → Seen → Seen → Type 0
PrintsBy tools.Log job ask units outcome before now = PrintsLines job ask units outcome before now
PrintsBy tools.Ncsa job ask units outcome before now = PrintsAccess job ask units outcome before now
PrintsBy tools.Top job ask units outcome before now = PrintsReport job ask units outcome before now
PrintsBy tools.Stat job ask units outcome before now = Unit {0}

-- the plain case of the main theorem: where words name a log, and there was no fault, this was printed of the log's groups
abbrev pub PrintsPlain : List (List ℕ) → Outcome → Seen → Seen → Type 0
PrintsPlain words outcome before now =
    (job : Job) (units : Log) → NamesLog words job units before → outcome.fault ≡ None →
    (ask : Ask) × Asks job ask before × PrintsBy job.tool job ask units outcome before now

-- ---- the work

-- the run of the command that words ask for, which left this world; words that are refused have no run
abbrev pub StatedRan : Result Command UsageFault → Seen → Option ToolFault → RunRecord → List Found → List Call → Type 0
StatedRan (Err why) at fault recorded found calls = ⊥
StatedRan (Ok command) at fault recorded found calls = CommandRan command at fault recorded found calls

-- the same where it had no memory
abbrev pub StatedShort : Result Command UsageFault → List Found → List Call → Type 0
StatedShort (Err why) found calls = ⊥
StatedShort (Ok command) found calls = CommandShort command found calls

-- the work that words ask for was done, and behind it this was said: a step stopped it, or all passed and the command ran
abbrev pub WorksOff : (List Call → Type 0) → Result Command UsageFault → Option ToolFault → RunRecord → Seen → Seen →
    Type 0
WorksOff IsSaid stated fault recorded before now = Promised Passes Stops (StatedRan stated) alone_of Nothing IsSaid
    (steps_of stated) fault recorded before now

-- ---- an outcome

-- the main theorem, where the call answers an outcome: what it did in the world is the work, of which no call failed but perhaps the last, and behind it one write of the fault's message to
-- standard error, or of not all of it where that failed; without a fault no byte more. The status is that of the fault
pub record IsFaithful (words : List (List ℕ)) (outcome : Outcome) (before now : Seen) : Type 0 where
  pub status : outcome.status ≡ status_of outcome.fault
  pub works : WorksOff (Says (fault_message words outcome.fault))
      (command_of words) outcome.fault outcome.run before now

-- ---- want of memory

-- the steps that are taken in the world: those of the command
abbrev pub asked_of : Result Command UsageFault → List Step
asked_of (Err why) = []
asked_of (Ok command) = world_steps command

-- there was no memory for a step of these
abbrev pub LacksStep : Result Command UsageFault → List Call → Type 0
LacksStep stated calls = LacksSteps (asked_of stated) calls

-- the steps passed, none of their calls failed, and there was no memory for the run
pub record LacksRun (stated : Result Command UsageFault) (calls : List Call) : Type 0 where
  pub found : List Found
  pub first : List Call
  pub last : List Call
  pub are : calls ≡ first ++ last
  pub passed : Passed Passes Stops (steps_of stated) found first
  pub fail : none_failed first ≡ true
  pub short : StatedShort stated found last

-- there was no memory for the work
abbrev pub LacksWork : Result Command UsageFault → List Call → Type 0
LacksWork stated calls = LacksStep stated calls ⊎ LacksRun stated calls

-- the work was done, and there was no memory for the message of its fault
abbrev pub LacksMessage : List (List ℕ) → Seen → Seen → Type 0
LacksMessage words before now = (fault : ToolFault) × (recorded : RunRecord) ×
    WorksOff (SaysPart (message words fault)) (command_of words) (Some fault) recorded before now

-- the main theorem, where the call answers want of memory
abbrev pub IsCutShort : List (List ℕ) → Seen → Seen → Type 0
IsCutShort words before now = Called (LacksWork (command_of words)) before now ⊎ LacksMessage words before now

-- ---- what is touched, whatever is answered

-- calls open and create files of the names of the steps, no more than these are; they read and write these, the standard streams that the steps name, and standard error
abbrev pub TouchesSteps : List Step → List Call → Type 0
TouchesSteps steps calls = AreWithin (reads_of steps) (ERRORS ∷ writes_of steps) (opens_of steps)
    (creates_of steps) calls × (count_given calls ≤ length (opens_of steps ++ creates_of steps))

-- nothing is touched but what the steps name that words ask for
abbrev pub TouchesJob : List (List ℕ) → List Call → Type 0
TouchesJob words calls = TouchesSteps (asked_of (command_of words)) calls
