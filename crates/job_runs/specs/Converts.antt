-- The run of `convert`: the units of a log file are written as a log file (this project's choice).
use Rattle.std.specs.Prelude.{◌≡◌, ℕ, Bool, List, [], ◌∷◌, Option, Some, None}
use Rattle.log_model.specs.Prefix.{IsPrefix}
use Rattle.vio.specs.declared.world.TheConstants.{ERRORS}
use Rattle.vio.specs.World.{Seen}
use Rattle.vio.specs.Calls.{Call, written_by}
use Rattle.vsl_record.specs.Unit.{Log}
use Rattle.vsl_file.specs.File.{FileEnding, Whole}
use Rattle.run_sources.specs.declared.file_items.FileStop.{FileStop}
use Rattle.run_sources.specs.Sources.{FileCame, FileStopped}
use Rattle.run_sources.specs.Told.{named_ending}
use Rattle.unit_text.specs.Units.{converted, units_due}
use Rattle.tool_words.specs.declared.command.Names.{Names}
use Rattle.job_steps.specs.declared.fault.ToolFault.{ToolFault}
use Rattle.job_steps.specs.Steps.{Found, FoundLog, FoundSink}
use Rattle.job_runs.specs.declared.record.RunRecord.{RunRecord}
use Rattle.job_runs.specs.declared.record.RunRecord.TheVariants.{Nothing}
use Rattle.job_runs.specs.Sources.{LogBegan}
use Rattle.job_runs.specs.Rows.{RanFor, log_answer, stop_answer}
use Rattle.job_runs.specs.Runs.{RanShort}

-- of the log of this handle units came, and a log file of them was written to this sink; nothing is recorded
abbrev pub Converts : Names → ℕ → ℕ → Seen → Option ToolFault → RunRecord → List Call → Type 0
Converts names h sink now fault recorded calls =
    RanFor (h ∷ []) (FileCame h) (λ why came met. FileStopped h why came met now) (λ met. recorded ≡ Nothing) sink
    (units_due names.output) (log_answer names.input) fault calls

-- the same without memory: a prefix of such a file was written
abbrev pub ConvertsPart : Names → ℕ → ℕ → List Call → Type 0
ConvertsPart names h sink calls = RanShort (h ∷ []) (LogBegan h) sink (units_due names.output) calls

-- the run of `convert`, by what its steps found: a log, and what is written. What is written to has no bytes any more, or is standard output
abbrev pub ConvertRan : Names → Seen → Option ToolFault → RunRecord → List Found → List Call → Type 0
ConvertRan names now fault recorded found calls =
    (h : ℕ) × (sink : ℕ) × (empty : Bool) × (found ≡ FoundLog h ∷ FoundSink sink empty ∷ []) ×
    Converts names h sink now fault recorded calls

-- where it had no memory
abbrev pub ConvertShort : Names → List Found → List Call → Type 0
ConvertShort names found calls = (h : ℕ) × (sink : ℕ) × (empty : Bool) ×
    (found ≡ FoundLog h ∷ FoundSink sink empty ∷ []) × ConvertsPart names h sink calls

-- what was written where a log of this name is converted that has these units and ends so: whatever it came to, a part of a log file of them; without a fault all of it, and then the
-- log is whole; and all of it where the log stopped as it ends. Nothing is told of items
pub record WritesConverted (name : List ℕ) (sink : ℕ) (units : Log) (ending : FileEnding) (fault : Option ToolFault) (calls : List Call) : Type 0 where
  pub part : IsPrefix (written_by sink calls) (converted units)
  pub told : IsPrefix (written_by ERRORS calls) []
  pub done : fault ≡ None → (ending ≡ Whole) × (written_by sink calls ≡ converted units)
  pub stops : (why : FileStop) (named : FileEnding) → fault ≡ Some (stop_answer name why) →
      named_ending why ≡ Some named → (ending ≡ named) × (written_by sink calls ≡ converted units)
