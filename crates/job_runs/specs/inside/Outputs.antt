-- What private steps say of one another: the output of a command, and what is to come of its feeds.
use Rattle.std.specs.Prelude.{◌≡◌, ◌≢◌, ℕ, Bool, true, List, [], ◌∷◌}
use Rattle.vio.specs.declared.world.TheConstants.{ERRORS}
use Rattle.vio.specs.World.{Seen, Writing}
use Rattle.vsl_record.specs.Unit.{LogUnit, Log}
use Rattle.ring_layout.specs.declared.history.HistoryItem.{HistoryItem}
use Rattle.ring_layout.specs.declared.item.Item.{Item}
use Rattle.query_parser.specs.declared.query.Query.{Query}
use Rattle.traffic_feed.specs.declared.listing.Listing.{Listing}
use Rattle.ring_layout.specs.Items.{items_of}
use Rattle.run_sources.specs.declared.feed_items.FeedItems.{FeedItems}
use Rattle.run_sources.specs.Sources.{HasToCome}
use Rattle.tool_words.specs.declared.job.Job.{Job}
use Rattle.fan_output.specs.declared.fan.FanOutput.{FanOutput}
use Rattle.fan_output.specs.Ends.{Due, Grows}
use Rattle.fan_output.specs.Fan.{handles, outlets_of}
use Rattle.fan_output.specs.Laws.{CanFan, IsNew}
use Rattle.text_printer.specs.Printer.{Plan, due_of}
use Rattle.job_steps.specs.Jobs.{options_of, write_of}
use Rattle.tool_consumers.specs.Output.{head_text, output_of}
use Rattle.job_runs.specs.Sources.{AreFed}

-- the plan of a job's printer with a query
abbrev pub job_plan : Job → Query → Plan
job_plan job query = record { options = options_of job; query = query; keep = job.keep; writes = output_of job }

-- what is due of a job with a query: of what is written to that is empty or not
abbrev pub query_due : Job → Query → Bool → Due
query_due job query empty = due_of (head_text job empty) (write_of job) (job_plan job query)

-- an output of one text, of which nothing was written: this is due, and goes on where more items come, to this handle, to which it may be written where that has its name and is not standard error
module _ {T : Type 0} (text : T → ℕ → List Item → Bool → List ℕ) (filled : T → ℕ → List Item → Bool)
    (holds : T → ℕ → List Item → Bool → List ℕ → Type 0) (count : T → ℕ) where
  pub record IsOne (sink : ℕ) (d : Due) (o : FanOutput T) : Type 0 where
    pub outlets : outlets_of (text o.texts) (filled o.texts) o.sinks.items ≡ record { sink = sink; due = d } ∷ []
    pub only : handles o.sinks.items ≡ sink ∷ []
    pub new : IsNew text filled holds o
    pub grows : Grows d
    pub can : (now : Seen) → now.names Writing sink d.name ≡ true → sink ≢ ERRORS → CanFan count o now

-- what is to come of feeds is what a reader meets of these listings
pub record IsFed (job : Job) (listings : List Listing) (feeds : FeedItems) : Type 0 where
  pub log : Log
  pub history : List (HistoryItem LogUnit)
  pub fed : AreFed job listings log history
  pub comes : HasToCome feeds (items_of history)
