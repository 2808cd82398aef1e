-- Why a run has a fault.
use Rattle.std.proofs.Common.{◌≡◌, ◌⊎◌, ℕ, Bool, true, false, List, [], ◌∷◌, Some, None, refl, sym, subst, inl, inr, codes}
use Rattle.std.specs.Bool.{MatchBool}
use Rattle.vio.specs.declared.world.TheConstants.{ERRORS}
use Rattle.vio.specs.World.{Seen}
use Rattle.vio.specs.Calls.{Call, Take, Write, Failed, FailedEach, Did, SomeFailed}
use Rattle.vsl_record.specs.Unit.{Log}
use Rattle.ring_layout.specs.declared.item.Item.{Item}
use Rattle.vsl_file.specs.File.{Whole}
use Rattle.vsl_file.specs.File as file
use Rattle.tool_words.specs.declared.command.Names.{Names}
use Rattle.tool_words.specs.declared.job.Job.{Job}
use Rattle.one_run.specs.declared.met.Met.{Met}
use Rattle.one_run.specs.declared.pass.RunEnd.{RunEnd}
use Rattle.one_run.specs.declared.pass.RunEnd.TheVariants as ends
use Rattle.one_run.specs.Run.{Ran}
use Rattle.run_sources.specs.declared.file_items.FileStop.{FileStop}
use Rattle.run_sources.specs.declared.file_items.FileStop.TheVariants as stops
use Rattle.run_sources.specs.Sources.{FileCame, FileStopped}
use Rattle.run_sources.specs.Told.{TellsLog}
use Rattle.run_sources.proofs.ToldLemmas.{stopped_ends}
use Rattle.fan_output.specs.declared.ending.TextEnding.{TextEnding}
use Rattle.fan_output.specs.declared.ending.TextEnding.TheVariants as endings
use Rattle.fan_output.specs.Ends.{Due, TextWritten, TextEnded, EndCause}
use Rattle.unit_text.specs.Units.{units_due}
use Rattle.job_steps.specs.declared.fault.ToolFault.{ToolFault}
use Rattle.job_steps.specs.Jobs.{file_of, is_counting}
use Rattle.job_steps.specs.Steps.{Found, logs_of}
use Rattle.job_runs.specs.declared.record.RunRecord.{RunRecord}
use Rattle.job_runs.specs.Good.{HasCause, StoppedByLog}
use Rattle.job_runs.specs.Sources.{StopsOf}
use Rattle.job_runs.specs.Counters.{PrintsCounters, WritesText}
use Rattle.job_runs.specs.Converts.{Converts}
use Rattle.job_runs.specs.Rows.{JobRan, PrintsGroups, job_due, log_answer, output_answer, stop_answer}

-- ---- a run's end

-- an output that ended with a fault has a write that failed
output_failed : (sink : ℕ) (d : Due) (ending : TextEnding) (fault : ToolFault) (calls : List Call) → Some fault ≡ output_answer ending → EndCause sink d ending calls → SomeFailed calls
output_failed sink d endings.Whole fault calls e cause = absurd cc
output_failed sink d endings.Kept fault calls e cause = absurd cc
output_failed sink d (endings.Unwritten name) fault calls e cause = (Write sink cause.0 (Failed d.name), cause.1, refl)
output_failed sink d endings.Unreported fault calls e cause = (Write ERRORS cause.0 (Failed (codes "stderr")), cause.1, refl)

-- ---- a log

-- a log that stopped a run has a read that failed, or stopped it for what it holds
log_stopped : (h : ℕ) (name : List ℕ) (fault : ToolFault) (why : FileStop) (met : List Item) (calls : List Call) (now : Seen) → fault ≡ stop_answer name why → FileStopped h why calls met now → SomeFailed calls ⊎ StoppedByLog h name fault calls now
log_stopped h name fault (stops.NotALog at) met calls now e p = inr (record { why = stops.NotALog at; content = λ same. cc; met = met; stops = p; is = e })
log_stopped h name fault (stops.Damaged at) met calls now e p = inr (record { why = stops.Damaged at; content = λ same. cc; met = met; stops = p; is = e })
log_stopped h name fault stops.TooLarge met calls now e p = inr (record { why = stops.TooLarge; content = λ same. cc; met = met; stops = p; is = e })
log_stopped h name fault stops.ReadFault met calls now e p = inl (Take h p.failed.0 FailedEach, p.failed.1, refl)

-- a log that its handle told to be whole is stopped by a failed read alone
whole_stopped : (h : ℕ) (why : FileStop) (met : List Item) (units : Log) (calls : List Call) (s t : Seen) → TellsLog h units Whole s → Did calls s t → FileStopped h why calls met t → why ≡ stops.ReadFault
whole_stopped h (stops.NotALog at) met units calls s t tells did p = let no : Whole ≡ file.NotALog at = (stopped_ends h units Whole s tells calls t did (stops.NotALog at) (file.NotALog at) met refl p).1 in absurd cc
whole_stopped h (stops.Damaged at) met units calls s t tells did p = let no : Whole ≡ file.Damaged at = (stopped_ends h units Whole s tells calls t did (stops.Damaged at) (file.Damaged at) met refl p).1 in absurd cc
whole_stopped h stops.TooLarge met units calls s t tells did p = let no : Whole ≡ file.TooLarge = (stopped_ends h units Whole s tells calls t did stops.TooLarge file.TooLarge met refl p).1 in absurd cc
whole_stopped h stops.ReadFault met units calls s t tells did p = refl

-- and what it holds stops no run
pub whole_runs : (h : ℕ) (name : List ℕ) (fault : ToolFault) (units : Log) (calls : List Call) (s t : Seen) → TellsLog h units Whole s → Did calls s t → StoppedByLog h name fault calls t → ⊥
whole_runs h name fault units calls s t tells did p = p.content (whole_stopped h p.why p.met units calls s t tells did p.stops)

-- ---- counters

counters_fault : (sink : ℕ) (text : List ℕ) (fault : ToolFault) (calls : List Call) → WritesText sink text (Some fault) calls → SomeFailed calls
counters_fault sink text fault calls (inl p) = let no : Some fault ≡ None = p.0 in absurd cc
counters_fault sink text fault calls (inr p) = subst (λ (c : List Call). SomeFailed c) (sym p.1.2) (Write sink p.1.0 (Failed (codes "-")), inl refl, refl)

-- ---- a run

-- a run of a text that is due with a fault has a call that failed, or its log stopped it, which has this name; feeds stop none
due_fault : {ready : List Call → Type 0} (name : List ℕ) (logs : List ℕ) (came : List Call → List Item → Bool → Type 0) (sink : ℕ) (d : Due) (fault : ToolFault) (end : RunEnd TextEnding FileStop) (met : Met) (calls : List Call) (now : Seen) → Some fault ≡ log_answer name end
    → Ran came (StopsOf logs now) ready (TextWritten sink d) (TextEnded sink d) (ERRORS ∷ sink ∷ []) end met calls → HasCause logs name fault calls now
due_fault name logs came sink d fault (ends.ByOutput ending) met calls now e r = inl (output_failed sink d ending fault calls e ((r.ends.5).cause))
due_fault name [] came sink d fault (ends.BySource why) met calls now e r = absurd r.ends.1
due_fault name (h ∷ others) came sink d fault (ends.BySource why) met calls now e r =
    let same : fault ≡ stop_answer name why = cc in
    elim (log_stopped h name fault why r.done calls now same r.ends.1) [ inl failed ↦ inl failed | inr log ↦ inr (h, inl refl, log) ]

-- ---- the run of a command

tool_fault : (b : Bool) (job : Job) (fault : ToolFault) (recorded : RunRecord) (found : List Found) (calls : List Call) (now : Seen)
    → MatchBool b (PrintsCounters job (Some fault) recorded found calls) (PrintsGroups job now (Some fault) recorded found calls) → HasCause (logs_of found) (file_of job) fault calls now
tool_fault true job fault recorded found calls now p = inl (counters_fault p.0 _ fault calls p.3.writes)
tool_fault false job fault recorded found calls now p = due_fault (file_of job) (logs_of found) _ p.1 (job_due job p.0 p.2) fault p.4.end p.4.met calls now p.4.answers p.4.ran

pub job_fault : (job : Job) (fault : ToolFault) (recorded : RunRecord) (found : List Found) (calls : List Call) (now : Seen) → JobRan job now (Some fault) recorded found calls → HasCause (logs_of found) (file_of job) fault calls now
job_fault job fault recorded found calls now p = tool_fault (is_counting job.tool) job fault recorded found calls now p

-- of a log that is converted
pub convert_fault : (names : Names) (h sink : ℕ) (fault : ToolFault) (recorded : RunRecord) (calls : List Call) (now : Seen) → Converts names h sink now (Some fault) recorded calls → HasCause (h ∷ []) names.input fault calls now
convert_fault names h sink fault recorded calls now p = due_fault names.input (h ∷ []) (FileCame h) sink (units_due names.output) fault p.end p.met calls now p.answers p.ran
