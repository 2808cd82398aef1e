-- Where the world tells what the log or the feeds of a job hold: what the main theorem comes to (this project's choice).
use Rattle.std.specs.Prelude.{◌≡◌, ◌⊎◌, ℕ, ◌==◌, Bool, true, false, List, [], ◌∷◌, ◌++◌, length, Option, Some, None, codes}
use Rattle.std.specs.Bool.{MatchBool}
use Rattle.std.specs.Str.{bytes_eq}
use Rattle.log_model.specs.Interleaving.{IsInterleaving}
use Rattle.log_model.specs.Prefix.{IsPrefix}
use Rattle.vio.specs.declared.world.TheConstants.{ERRORS, INPUT, OUTPUT}
use Rattle.vio.specs.World.{Seen, Gains, Writing, begins_with}
use Rattle.vio.specs.Calls.{Call}
use Rattle.one_command.specs.Promise.{StoppedEarly}
use Rattle.vsl_record.specs.Unit.{LogUnit, Log}
use Rattle.vsl_record.specs.Words.{unit_words}
use Rattle.ring_layout.specs.declared.history.HistoryItem.{HistoryItem}
use Rattle.ring_layout.specs.declared.item.Item.{Item}
use Rattle.ring_layout.specs.History.{IsReadHistory, ReachesTail, AddUp}
use Rattle.ring_layout.specs.Items.{items_of}
use Rattle.log_ring.specs.Closed.{ClosedState}
use Rattle.vsl_file.specs.File.{FileEnding, IsFile, Whole, is_whole}
use Rattle.traffic_feed.specs.declared.listing.Listing.{Listing}
use Rattle.txn_partition.specs.Partition.{partition}
use Rattle.tool_words.specs.declared.command.Names.{Names}
use Rattle.tool_words.specs.declared.job.Job.{Job}
use Rattle.tool_words.specs.Command.{command_of}
use Rattle.run_sources.specs.declared.file_items.FileStop.{FileStop}
use Rattle.run_sources.specs.Sources.{unit_items}
use Rattle.run_sources.specs.Told.{named_ending}
use Rattle.unit_text.specs.Units.{converted}
use Rattle.fan_output.specs.Ends.{whole}
use Rattle.fan_output.specs.Messages.{messages_of}
use Rattle.job_steps.specs.declared.fault.ToolFault.{ToolFault}
use Rattle.job_steps.specs.Jobs.{file_of, is_on_threads, units_of, with_made, write_of}
use Rattle.job_steps.specs.Queries.{Ask, AreAsked, chosen}
use Rattle.job_steps.specs.Steps.{Passes, Stops, steps_of}
use Rattle.tool_consumers.specs.Output.{head_text, output_of}
use Rattle.vsl_dispatch.specs.Groups.{kept}
use Rattle.job_runs.specs.declared.record.RunRecord.{RunRecord}
use Rattle.job_runs.specs.declared.record.RunRecord.TheVariants.{Closed, Nothing}
use Rattle.job_runs.specs.Counters.{ArePut, RecordsWaits, counters_text}
use Rattle.job_runs.specs.Rows.{fills, job_due, stop_answer}
use Rattle.job_runs.specs.Sources.{AreFed}
use Rattle.job_runs.specs.Told.{EndedAt}
use Rattle.varnish_tools.specs.declared.outcome.Outcome.{Outcome}
use Rattle.varnish_tools.specs.Commands.{alone_of}
use Rattle.varnish_tools.specs.Texts.{AreTexts}
use Rattle.varnish_tools.specs.Theorem.{StatedRan}

-- the world tells that what is read under this name has these units and ends so: its file holds them, or standard input has them left
pub record TellsNamed (name : List ℕ) (units : Log) (ending : FileEnding) (before : Seen) : Type 0 where
  pub bytes : List ℕ
  pub told : MatchBool (bytes_eq name (codes "-")) (before.left INPUT ≡ Some bytes) (before.held name ≡ Some bytes)
  pub file : IsFile bytes units ending

-- so it tells of the log of a job
abbrev pub TellsInput : Job → Log → FileEnding → Seen → Type 0
TellsInput job units ending before = TellsNamed (file_of job) units ending before

-- a file was created under this name, and has this handle: it began empty or not, and holds this text behind what it began with, as far as that is told and no message goes to it
pub record IsFileSink (append : Bool) (name : List ℕ) (h : ℕ) (empty : Bool) (text : List ℕ) (before now : Seen) : Type 0 where
  pub fresh : before.given h ≡ false
  pub given : now.given h ≡ true
  pub is_named : now.names Writing h name ≡ true
  pub emptied : append ≡ false → empty ≡ true
  pub is_empty : (first : List ℕ) → begins_with append name before ≡ Some first → empty ≡ (length first == 0)
  pub holds : (first : List ℕ) → begins_with append name before ≡ Some first →
      before.names Writing ERRORS name ≡ false → now.held name ≡ Some (first ++ text)

-- OUT is standard output, which counts as empty, or such a file
abbrev pub IsOutNamed : Bool → List ℕ → ℕ → Bool → List ℕ → Seen → Seen → Type 0
IsOutNamed append name h empty text before now =
    MatchBool (bytes_eq name (codes "-")) ((h ≡ OUTPUT) × (empty ≡ true)) (IsFileSink append name h empty text before now)

-- that of a job
abbrev pub IsOut : Job → ℕ → Bool → List ℕ → Seen → Seen → Type 0
IsOut job h empty text before now = IsOutNamed job.append (write_of job) h empty text before now

-- a step stopped what words ask for before its run, by these calls, and no call came behind it: those before it passed, its fault is the outcome's, and nothing was taken
abbrev pub WasStopped : List (List ℕ) → Outcome → List Call → Type 0
WasStopped words outcome calls = StoppedEarly Passes Stops (StatedRan (command_of words)) alone_of Nothing
    (steps_of (command_of words)) outcome.fault outcome.run calls

-- what was written of items, which are all or not, for what the queries ask: a part of what is due of them; and without a fault all of it, since they are all, or complete as many groups
-- as are kept, and then standard error gained the messages of the items that were met, all or those up to the last group that is kept, and no more
pub record PrintsItems (job : Job) (fault : Option ToolFault) (every : List Item) (ended : Bool) (before now : Seen) : Type 0 where
  pub ask : Ask
  pub sink : ℕ
  pub empty : Bool
  pub texts : List (List ℕ)
  pub are_texts : AreTexts before job.queries texts
  pub asked : AreAsked job.caseless None texts ask
  pub text : List ℕ
  pub is_out : IsOut job sink empty text before now
  pub part : IsPrefix text (whole (job_due job ask empty) every ended)
  pub done : fault ≡ None → text ≡ whole (job_due job ask empty) every ended
  pub ends : fault ≡ None → (ended ≡ true) ⊎ (fills job ask every ≡ true)
  pub gains : Gains (before.written sink) (now.written sink) text
  pub errors : fault ≡ None → (met : List Item) × EndedAt (job_due job ask empty) every ended met ×
      Gains (before.written ERRORS) (now.written ERRORS) (messages_of met)

-- what was written of a log of these units that ends so; and where the fault says how the log ends, it ends so, and all that is due of its units was written
pub record PrintsLog (job : Job) (fault : Option ToolFault) (units : Log) (ending : FileEnding) (before now : Seen) : Type 0 where
  pub prints : PrintsItems job fault (unit_items units) (is_whole ending) before now
  pub stops : (why : FileStop) (named : FileEnding) → fault ≡ Some (stop_answer (file_of job) why) →
      named_ending why ≡ Some named → (ending ≡ named) ×
      (prints.text ≡ whole (job_due job prints.ask prints.empty) (unit_items units) (is_whole ending))

-- what was written of listings that are fed in the order that a job states: of all that a reader meets of them
abbrev pub PrintsFeeds : Job → Option ToolFault → List Listing → Seen → Seen → Type 0
PrintsFeeds job fault listings before now = (log : Log) × (history : List (HistoryItem LogUnit)) ×
    AreFed job listings log history × PrintsItems job fault (items_of history) true before now

-- what was written of listings that threads put: the closed ring is recorded, its log is an interleaving of the listings, and this is of all that its only reader took; that goes up to the
-- log's tail where it had ended, and then what it took and what it missed add up. Without a fault standard error gained the messages of all that it took, and no more
pub record PrintsRing (job : Job) (fault : Option ToolFault) (recorded : RunRecord) (listings : List Listing) (before now : Seen) : Type 0 where
  pub ring : ClosedState
  pub is : recorded ≡ Closed ring
  pub interleaved : IsInterleaving ring.log (units_of (with_made job listings))
  pub history : List (HistoryItem LogUnit)
  pub only : ring.histories ≡ history ∷ []
  pub read : IsReadHistory unit_words job.seg ring.log history
  pub adds_up : AddUp ring.log history
  pub ended : Bool
  pub tail : ended ≡ true → ReachesTail ring.log history
  pub prints : PrintsItems job fault (items_of history) ended before now
  pub errors : fault ≡ None → Gains (before.written ERRORS) (now.written ERRORS) (messages_of (items_of history))

-- what varnishstat wrote of listings that are fed, and that nobody reads: a part of what is printed of their counters; and without a fault all of it, and standard error gained nothing.
-- Where threads put them the closed ring is recorded, with this log, and with so many waits of those that it keeps
pub record PrintsCounted (job : Job) (fault : Option ToolFault) (recorded : RunRecord) (listings : List Listing) (before now : Seen) : Type 0 where
  pub log : Log
  pub waits : ℕ
  pub put : ArePut job listings log waits
  pub ring : is_on_threads job ≡ true → RecordsWaits recorded log waits
  pub text : List ℕ
  pub part : IsPrefix text (counters_text job listings log waits)
  pub done : fault ≡ None → text ≡ counters_text job listings log waits
  pub gains : Gains (before.written OUTPUT) (now.written OUTPUT) text
  pub errors : fault ≡ None → Gains (before.written ERRORS) (now.written ERRORS) []

-- what is written of the groups of a log's partition: behind the header, where one is due, of those that are asked for, at most as many as are kept
abbrev pub parted_text : Job → Ask → Bool → Log → List ℕ
parted_text job ask empty units =
    head_text job empty ++ output_of job (kept job.keep (chosen ask (partition units job.grouping))) true

-- what was written where a log of these units is converted that ends so: OUT gained a part of a log file of them; without a fault all of it, and then the log is whole, and standard error
-- gained nothing; and all of it where the fault says how the log ends
pub record PrintsConverted (names : Names) (fault : Option ToolFault) (units : Log) (ending : FileEnding) (before now : Seen) : Type 0 where
  pub sink : ℕ
  pub empty : Bool
  pub text : List ℕ
  pub is_out : IsOutNamed false names.output sink empty text before now
  pub part : IsPrefix text (converted units)
  pub done : fault ≡ None → (ending ≡ Whole) × (text ≡ converted units)
  pub stops : (why : FileStop) (named : FileEnding) → fault ≡ Some (stop_answer names.input why) →
      named_ending why ≡ Some named → (ending ≡ named) × (text ≡ converted units)
  pub gains : Gains (before.written sink) (now.written sink) text
  pub errors : fault ≡ None → Gains (before.written ERRORS) (now.written ERRORS) []
