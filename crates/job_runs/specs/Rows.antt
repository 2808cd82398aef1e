-- What a job's run is, by what its steps found: groups that are printed of a log or of feeds, or counters (varnishlog(1), varnishstat(1); this project's choice).
use Rattle.std.specs.Prelude.{◌≡◌, ◌⊎◌, ℕ, ◌||◌, Bool, false, List, [], ◌∷◌, ◌++◌, map, Option, Some, None}
use Rattle.std.specs.Bool.{MatchBool}
use Rattle.vio.specs.declared.world.TheConstants.{ERRORS}
use Rattle.vio.specs.World.{Seen}
use Rattle.vio.specs.Calls.{Call, AreOn}
use Rattle.ring_layout.specs.declared.item.Item.{Item}
use Rattle.txn_rows.specs.Grouping.{groups_of}
use Rattle.vsl_dispatch.specs.Groups.{kept, is_filled}
use Rattle.tool_words.specs.declared.job.Job.{Job}
use Rattle.one_run.specs.declared.met.Met.{Met}
use Rattle.one_run.specs.declared.pass.RunEnd.{RunEnd}
use Rattle.one_run.specs.declared.pass.RunEnd.TheVariants as ends
use Rattle.one_run.specs.Run.{IsCaughtUp, Ran}
use Rattle.run_sources.specs.declared.file_items.FileStop.{FileStop}
use Rattle.run_sources.specs.declared.file_items.FileStop.TheVariants as stops
use Rattle.vsl_file.specs.File.{most_bytes}
use Rattle.fan_output.specs.declared.ending.TextEnding.{TextEnding}
use Rattle.fan_output.specs.declared.fan.FanEnding.{FanEnding}
use Rattle.fan_output.specs.Ends.{Due, TextWritten, TextEnded, TextShort}
use Rattle.fan_output.specs.Fan.{FanEnded, FansPrinted, Outlet, blame_by, own_blame}
use Rattle.fan_output.specs.Unwritten.{first_of, first_unwritten}
use Rattle.text_printer.specs.Taken.{taken_of}
use Rattle.job_steps.specs.declared.fault.ToolFault.{ToolFault}
use Rattle.job_steps.specs.declared.fault.ToolFault.TheVariants.{ReadFault, WriteFault, NotALog, Damaged, TooLarge}
use Rattle.job_steps.specs.Jobs.{is_counting, options_of, file_of, write_of}
use Rattle.job_steps.specs.Queries.{Ask, AreAsked, chosen}
use Rattle.job_steps.specs.Steps.{Found, texts_of, listings_of, logs_of, sinks_of}
use Rattle.tool_consumers.specs.Output.{head_text, output_of}
use Rattle.job_runs.specs.declared.record.RunRecord.{RunRecord}
use Rattle.job_runs.specs.Sources.{AsksOf, BeganOf, CameOf, RecordsOf, StopsOf}
use Rattle.job_runs.specs.Counters.{CountersShort, PrintsCounters}

-- ---- what is written of them

-- whether the groups that are complete by what was met and that are asked for are as many as are kept
abbrev pub fills : Job → Ask → List Item → Bool
fills job ask met = is_filled job.keep (chosen ask (groups_of (options_of job) (taken_of met) false))

-- what is due: the header where one is due; and what is written of those groups of what was met that are asked for, at most as many as are kept. With all items what is pending is
-- flushed, and with these, or with the last group that is kept, the groups have ended. Queries are asked of all records
-- of a group, shown or not, and that groups are fewer than are kept is no fault
abbrev pub job_due : Job → Ask → Bool → Due
job_due job ask empty = record {
  head = head_text job empty;
  text = λ met all. output_of job (kept job.keep (chosen ask (groups_of (options_of job) (taken_of met) all)))
      (all || fills job ask met);
  filled = fills job ask;
  name = write_of job;
}

-- ---- how a run is answered

-- how it is answered that a log of this name stopped so
abbrev pub stop_answer : List ℕ → FileStop → ToolFault
stop_answer name (stops.NotALog at) = NotALog name at
stop_answer name (stops.Damaged at) = Damaged name at
stop_answer name stops.TooLarge = TooLarge name most_bytes
stop_answer name stops.ReadFault = ReadFault name

-- the fault of a write that failed, by the name under which it was counted, if one failed
abbrev pub write_fault : Option (List ℕ) → Option ToolFault
write_fault None = None
write_fault (Some name) = Some (WriteFault name)

-- how it is answered that an output ended so. An overrun that can't be told is a fault: who can't be told that records
-- are missing should not take the output for whole
abbrev pub output_answer : TextEnding → Option ToolFault
output_answer ending = write_fault (blame_by ending)

-- the name at a place, if there is a place
abbrev pub name_at : List ℕ → Option ℕ → Option (List ℕ)
name_at name None = None
name_at name (Some place) = Some name

-- how it is answered that the one output ended so, to a sink of this name
abbrev pub one_answer : List ℕ → FanEnding → Option ToolFault
one_answer name ending = write_fault (first_of (name_at name ending.unwritten) (own_blame ending.how))

-- the fault of a run over a log of this name
abbrev pub log_answer : List ℕ → RunEnd TextEnding FileStop → Option ToolFault
log_answer name (ends.ByOutput ending) = output_answer ending
log_answer name (ends.BySource why) = Some (stop_answer name why)

-- and of a job
abbrev pub end_answer : Job → RunEnd TextEnding FileStop → Option ToolFault
end_answer job = log_answer (file_of job)

-- how a run with several outputs is answered over a log of this name: the first write that failed is told, whatever ended the run; else how the log stopped
abbrev pub fan_answer : List ℕ → RunEnd FanEnding FileStop → List Call → Option ToolFault
fan_answer name (ends.ByOutput ending) calls = write_fault (first_unwritten calls)
fan_answer name (ends.BySource why) calls = first_of (write_fault (first_unwritten calls)) (Some (stop_answer name why))

-- ---- a run that prints groups

-- of items that came so, and of an output that writes these handles and printed and ended so, a run came to this fault, and what it met is recorded so, by these calls; whenever it read, all
-- that is due of the units that lay whole in what it had read was written
pub record RanWith {E : Type 0} (reads writes : List ℕ) (came : List Call → List Item → Bool → Type 0)
    (stopped : FileStop → List Call → List Item → Type 0) (records : List Item → Type 0)
    (printed : List Call → List Item → Type 0) (ended : E → List Call → List Item → List Item → Bool → Type 0)
    (answer : RunEnd E FileStop → List Call → Option ToolFault) (fault : Option ToolFault) (calls : List Call) : Type 0 where
  pub on : AreOn reads writes calls
  pub end : RunEnd E FileStop
  pub met : Met
  pub ran : Ran came stopped (IsCaughtUp (AsksOf reads) printed) printed ended writes end met calls
  pub answers : fault ≡ answer end calls
  pub recorded : records (ran.done ++ ran.last)

-- the same of texts that are due at several sinks, of which each may stop alone
abbrev pub FanFor : List ℕ → (List Call → List Item → Bool → Type 0) → (FileStop → List Call → List Item → Type 0) →
    (List Item → Type 0) → List Outlet → List ℕ → Option ToolFault → List Call → Type 0
FanFor reads came stopped records outlets name fault calls = RanWith reads (ERRORS ∷ map (λ o. o.sink) outlets) came
    stopped records (FansPrinted outlets) (FanEnded outlets) (fan_answer name) fault calls

-- the same of a text that is due at one sink, which is the only one
abbrev pub RanFor : List ℕ → (List Call → List Item → Bool → Type 0) → (FileStop → List Call → List Item → Type 0) →
    (List Item → Type 0) → ℕ → Due →
    (RunEnd TextEnding FileStop → Option ToolFault) → Option ToolFault → List Call → Type 0
RanFor reads came stopped records sink d answer fault calls = RanWith reads (ERRORS ∷ sink ∷ []) came stopped records
    (TextWritten sink d) (TextEnded sink d) (λ end cs. answer end) fault calls

-- what the queries ask, and what was found to write to
pub record IsAsked (job : Job) (found : List Found) (ask : Ask) (sink : ℕ) (empty : Bool) : Type 0 where
  pub asked : AreAsked job.caseless None (texts_of found) ask
  pub is_sink : sinks_of found ≡ (sink, empty) ∷ []

-- a job printed groups: of what its steps found items came, and what is due of them for what the queries ask was written
abbrev pub PrintsGroups : Job → Seen → Option ToolFault → RunRecord → List Found → List Call → Type 0
PrintsGroups job now fault recorded found calls =
    (ask : Ask) × (sink : ℕ) × (empty : Bool) × IsAsked job found ask sink empty
    × RanFor (logs_of found) (CameOf (logs_of found) job (listings_of found) recorded) (StopsOf (logs_of found) now)
    (RecordsOf (logs_of found) job recorded) sink (job_due job ask empty) (end_answer job) fault calls

-- ---- the run of a job

-- by its tool
abbrev pub JobRan : Job → Seen → Option ToolFault → RunRecord → List Found → List Call → Type 0
JobRan job now fault recorded found calls =
    MatchBool (is_counting job.tool) (PrintsCounters job fault recorded found calls)
    (PrintsGroups job now fault recorded found calls)

-- a run that had no memory: a prefix was written of what is due of the items that came, and of their messages; or of the counters
abbrev pub GroupsShort : Job → List Found → List Call → Type 0
GroupsShort job found calls =
    (ask : Ask) × (sink : ℕ) × (empty : Bool) × (met : List Item) × (all : Bool) × IsAsked job found ask sink empty
    × AreOn (logs_of found) (ERRORS ∷ sink ∷ []) calls × BeganOf (logs_of found) job (listings_of found) calls met all ×
    TextShort sink (job_due job ask empty) calls met all

-- a run of a job that had no memory: nothing was done, or so
abbrev pub JobShort : Job → List Found → List Call → Type 0
JobShort job found calls = (calls ≡ []) ⊎ MatchBool (is_counting job.tool) (CountersShort job found calls)
    (GroupsShort job found calls)
