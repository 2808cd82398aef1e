-- Where the items of a run come from: a log, or feeds; and what is recorded of them (this project's choice).
use Rattle.std.specs.Prelude.{◌≡◌, ℕ, Bool, true, false, List, [], ◌∷◌, ◌++◌}
use Rattle.log_model.specs.Interleaving.{IsInterleaving}
use Rattle.vio.specs.World.{Seen}
use Rattle.vio.specs.Calls.{Call}
use Rattle.vsl_record.specs.Unit.{LogUnit, Log}
use Rattle.vsl_record.specs.Words.{unit_words}
use Rattle.ring_layout.specs.declared.history.HistoryItem.{HistoryItem}
use Rattle.ring_layout.specs.declared.item.Item.{Item}
use Rattle.ring_layout.specs.History.{IsReadHistory, ReachesTail, AddUp}
use Rattle.ring_layout.specs.Items.{items_of, count_units, count_items}
use Rattle.log_ring.specs.Closed.{ClosedState}
use Rattle.traffic_feed.specs.declared.listing.Listing.{Listing}
use Rattle.feed_schedule.specs.Schedule.{IsScheduled}
use Rattle.tool_words.specs.declared.job.Job.{Job}
use Rattle.run_sources.specs.declared.file_items.FileStop.{FileStop}
use Rattle.run_sources.specs.Sources.{FileAsks, FileCame, FileBegins, FileStopped, IsReadWhole, unit_items}
use Rattle.job_steps.specs.Jobs.{is_on_threads, order_seed, units_of, with_made}
use Rattle.job_runs.specs.declared.record.RunRecord.{RunRecord}
use Rattle.job_runs.specs.declared.record.RunRecord.TheVariants.{Counted, Closed}

-- the listings of feeds, with the requests that are made, are put: their log is an interleaving of them, and what a reader meets is a history of that log. Where a job states whose turn it
-- is, both are those of these turns, and the history goes up to the log's tail. Where it does, what the reader took and what it missed add up to the log's length
pub record AreFed (job : Job) (listings : List Listing) (log : Log) (history : List (HistoryItem LogUnit)) : Type 0 where
  pub turns : is_on_threads job ≡ false →
      IsScheduled job.seg (order_seed job.order) (units_of (with_made job listings)) log history ×
      ReachesTail log history
  pub interleaved : IsInterleaving log (units_of (with_made job listings))
  pub read : IsReadHistory unit_words job.seg log history
  pub adds_up : AddUp log history

-- these items came of feeds: the first of what a reader meets, or all, up to the log's tail
pub record FedCame (job : Job) (listings : List Listing) (met : List Item) (all : Bool) : Type 0 where
  pub log : Log
  pub history : List (HistoryItem LogUnit)
  pub fed : AreFed job listings log history
  pub rest : List Item
  pub parts : items_of history ≡ met ++ rest
  pub whole : all ≡ true → (rest ≡ []) × ReachesTail log history

-- a ring is recorded that is closed: this is its log, and this its only reader's history. The ring holds no byte by
-- then: contracts alone see its log
pub record RecordsRing (recorded : RunRecord) (log : Log) (history : List (HistoryItem LogUnit)) : Type 0 where
  pub ring : ClosedState
  pub is : recorded ≡ Closed ring
  pub log_is : ring.log ≡ log
  pub only : ring.histories ≡ history ∷ []

-- these items came of feeds; where threads put them they are all that the reader took, and the ring is recorded. A run
-- on threads may not end, since a call that waits may wait for ever, and then nothing is said
pub record FeedsCame (job : Job) (listings : List Listing) (recorded : RunRecord) (met : List Item) (all : Bool) : Type 0 where
  pub came : FedCame job listings met all
  pub ring : is_on_threads job ≡ true → (came.rest ≡ []) × RecordsRing recorded came.log came.history

-- these items came, of the log of a handle, or of feeds; all of them or not
abbrev pub CameOf : List ℕ → Job → List Listing → RunRecord → List Call → List Item → Bool → Type 0
CameOf [] job listings recorded calls met all = FeedsCame job listings recorded met all
CameOf (h ∷ others) job listings recorded calls met all = FileCame h calls met all

-- these items are all units that lie whole in what was read of the log of a handle; of feeds nothing is read
abbrev pub AsksOf : List ℕ → List Call → List Item → Type 0
AsksOf [] calls met = ⊥
AsksOf (h ∷ others) calls met = FileAsks h calls met

-- and then the log stopped so; feeds never stop
abbrev pub StopsOf : List ℕ → Seen → FileStop → List Call → List Item → Type 0
StopsOf [] now why calls met = ⊥
StopsOf (h ∷ others) now why calls met = FileStopped h why calls met now

-- so much is recorded as what was met
abbrev pub RecordsCount : RunRecord → List Item → Type 0
RecordsCount recorded met = recorded ≡ Counted (count_units met) (count_items met)

-- what is recorded of a log, or of feeds in the order that a job states; where threads put them the ring is, as above
abbrev pub RecordsOf : List ℕ → Job → RunRecord → List Item → Type 0
RecordsOf [] job recorded met = is_on_threads job ≡ false → RecordsCount recorded met
RecordsOf (h ∷ others) job recorded met = RecordsCount recorded met

-- these items lie at the beginning of what was read of a log, or are all
pub record LogBegan (h : ℕ) (calls : List Call) (met : List Item) (all : Bool) : Type 0 where
  pub begins : FileBegins h calls met
  pub whole : all ≡ true → (units : Log) × (met ≡ unit_items units) × IsReadWhole h calls units

-- these items came before there was no memory; all of them or not
abbrev pub BeganOf : List ℕ → Job → List Listing → List Call → List Item → Bool → Type 0
BeganOf [] job listings calls met all = FedCame job listings met all
BeganOf (h ∷ others) job listings calls met all = LogBegan h calls met all
