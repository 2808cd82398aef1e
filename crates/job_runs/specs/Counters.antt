-- What a run prints of counters, and what is recorded of it (varnishstat(1); this project's choice).
use Rattle.std.specs.Prelude.{◌≡◌, ◌⊎◌, ℕ, Bool, true, false, List, [], ◌∷◌, length, Option, Some, None, codes, if◌then◌else◌}
use Rattle.log_model.specs.Interleaving.{IsInterleaving}
use Rattle.log_model.specs.Prefix.{IsPrefix, IsProperPrefix}
use Rattle.vio.specs.Calls.{Went, Failed, Call, Write}
use Rattle.vsl_record.specs.Unit.{Log}
use Rattle.ring_plain.specs.Ring.{count_wraps}
use Rattle.log_ring.specs.Closed.{ClosedState}
use Rattle.live_run.specs.Runs.{AreTold, live_values}
use Rattle.traffic_feed.specs.declared.listing.Listing.{Listing}
use Rattle.feed_schedule.specs.Unread.{IsUnread}
use Rattle.vsl_stat.specs.Report.{stat_text, stat_json, stat_list}
use Rattle.tool_words.specs.declared.job.Job.{Job}
use Rattle.tool_words.specs.declared.job.StatMode.{StatMode}
use Rattle.tool_words.specs.declared.job.StatMode.TheVariants as modes
use Rattle.tool_words.specs.Job.{is_fed}
use Rattle.job_steps.specs.declared.fault.ToolFault.{ToolFault}
use Rattle.job_steps.specs.declared.fault.ToolFault.TheVariants.{WriteFault}
use Rattle.job_steps.specs.Jobs.{is_on_threads, order_seed, units_of, with_made}
use Rattle.job_steps.specs.Steps.{Found, listings_of, sinks_of}
use Rattle.job_runs.specs.declared.record.RunRecord.{RunRecord}
use Rattle.job_runs.specs.declared.record.RunRecord.TheVariants.{Nothing, Counted, Closed}

-- what is printed of counters with these values, which come in the order of their numbers: lines, JSON, or names alone, of those that globs select
abbrev pub printed : StatMode → List (List ℕ) → List ℕ → List ℕ
printed modes.Once globs values = stat_text values globs
printed modes.Json globs values = stat_json values globs
printed modes.List globs values = stat_list globs

-- listings were put into a ring that nobody reads: their log is an interleaving of them; where a job states whose turn it is it is that of these turns, and no writer waits for another. One
-- writer alone never waits
pub record ArePut (job : Job) (listings : List Listing) (log : Log) (waits : ℕ) : Type 0 where
  pub turns : is_on_threads job ≡ false → IsUnread (order_seed job.order) (units_of (with_made job listings)) log ×
      (waits ≡ 0)
  pub interleaved : IsInterleaving log (units_of (with_made job listings))
  pub alone : length (with_made job listings) ≡ 1 → waits ≡ 0

-- what a job prints of these listings, this log, and so many waits of writers
abbrev pub counters_text : Job → List Listing → Log → ℕ → List ℕ
counters_text job listings log waits =
    printed job.stat job.globs (live_values (with_made job listings) waits (count_wraps job.seg log))

-- what is recorded of a job that prints counters of no feed, or in the order that it states: it takes no unit, and has nothing where it has no log
abbrev pub record_of : Job → RunRecord
record_of job = if is_fed job then Counted 0 0 else Nothing

-- a ring is recorded that is closed and that nobody read: this is its log, and so many waits are told of those that it keeps
pub record RecordsWaits (recorded : RunRecord) (log : Log) (waits : ℕ) : Type 0 where
  pub ring : ClosedState
  pub is : recorded ≡ Closed ring
  pub log_is : ring.log ≡ log
  pub unread : ring.histories ≡ []
  pub told : AreTold ring.busy waits

-- a text was written; or not all of it, where the write failed
abbrev pub WritesText : ℕ → List ℕ → Option ToolFault → List Call → Type 0
WritesText h text fault calls =
    ((fault ≡ None) × (calls ≡ Write h text Went ∷ []))
    ⊎ ((fault ≡ Some (WriteFault (codes "-"))) × ((part : List ℕ) × IsProperPrefix part text × (calls ≡ Write h part (Failed (codes "-")) ∷ [])))

-- a prefix of a text was written
abbrev pub WritesPartOf : ℕ → List ℕ → List Call → Type 0
WritesPartOf h text calls = (part : List ℕ) × IsPrefix part text × (calls ≡ Write h part Went ∷ [])

-- the counters of these listings were printed
pub record CountsSo (job : Job) (listings : List Listing) (sink : ℕ) (fault : Option ToolFault) (recorded : RunRecord) (calls : List Call) : Type 0 where
  pub log : Log
  pub waits : ℕ
  pub put : ArePut job listings log waits
  pub counted : is_on_threads job ≡ false → recorded ≡ record_of job
  pub ring : is_on_threads job ≡ true → RecordsWaits recorded log waits
  pub writes : WritesText sink (counters_text job listings log waits) fault calls

-- or a prefix of their text
abbrev pub CountsPart : Job → List Listing → ℕ → List Call → Type 0
CountsPart job listings sink calls =
    (log : Log) × (waits : ℕ) × ArePut job listings log waits ×
    WritesPartOf sink (counters_text job listings log waits) calls

-- a job printed the counters of the listings that its steps found
abbrev pub PrintsCounters : Job → Option ToolFault → RunRecord → List Found → List Call → Type 0
PrintsCounters job fault recorded found calls = (sink : ℕ) × (empty : Bool) × (sinks_of found ≡ (sink, empty) ∷ []) ×
    CountsSo job (listings_of found) sink fault recorded calls

-- a prefix of what is printed of counters was written
abbrev pub CountersShort : Job → List Found → List Call → Type 0
CountersShort job found calls = (sink : ℕ) × (empty : Bool) × (sinks_of found ≡ (sink, empty) ∷ []) ×
    CountsPart job (listings_of found) sink calls
