-- What a run wrote of all the items that its source has, where that is known (this project's choice).
use Rattle.std.specs.Prelude.{◌≡◌, ◌⊎◌, ℕ, ◌≤◌, Bool, true, false, List, [], ◌∷◌, ◌++◌, length, Option, None}
use Rattle.log_model.specs.Interleaving.{IsInterleaving}
use Rattle.log_model.specs.Prefix.{IsPrefix}
use Rattle.vio.specs.declared.world.TheConstants.{ERRORS}
use Rattle.vio.specs.Calls.{Call, written_by}
use Rattle.vsl_record.specs.Unit.{LogUnit, Log}
use Rattle.vsl_record.specs.Words.{unit_words}
use Rattle.ring_layout.specs.declared.history.HistoryItem.{HistoryItem}
use Rattle.ring_layout.specs.declared.item.Item.{Item}
use Rattle.ring_layout.specs.History.{IsReadHistory, ReachesTail, AddUp}
use Rattle.ring_layout.specs.Items.{items_of}
use Rattle.log_ring.specs.Closed.{ClosedState}
use Rattle.traffic_feed.specs.declared.listing.Listing.{Listing}
use Rattle.tool_words.specs.declared.job.Job.{Job}
use Rattle.fan_output.specs.Messages.{messages_of}
use Rattle.fan_output.specs.Ends.{Due, TextShort, whole}
use Rattle.job_steps.specs.declared.fault.ToolFault.{ToolFault}
use Rattle.job_steps.specs.Jobs.{is_on_threads, units_of, with_made}
use Rattle.job_steps.specs.Queries.{Ask}
use Rattle.job_steps.specs.Steps.{Found, listings_of}
use Rattle.job_runs.specs.declared.record.RunRecord.{RunRecord}
use Rattle.job_runs.specs.declared.record.RunRecord.TheVariants.{Closed}
use Rattle.job_runs.specs.Sources.{AreFed}
use Rattle.job_runs.specs.Rows.{IsAsked, job_due}

-- a run without a fault met these of all items: with those before the last fewer groups came than are kept; and they are all, and its source had ended, or with the last as many came
pub record EndedAt (d : Due) (every : List Item) (ended : Bool) (met : List Item) : Type 0 where
  pub done : List Item
  pub last : List Item
  pub rest : List Item
  pub are : met ≡ done ++ last
  pub one : length last ≤ 1
  pub parts : every ≡ met ++ rest
  pub fewer : d.filled done ≡ false
  pub ends : ((last ≡ []) × (rest ≡ []) × (ended ≡ true)) ⊎ (d.filled met ≡ true)

-- what a run wrote of them: whatever it came to, a part of what is due of all, and of their messages; and without a fault all that is due, since its source had ended or as many groups had
-- come as are kept, and the messages of those that it met
pub record WritesOf (sink : ℕ) (d : Due) (fault : Option ToolFault) (every : List Item) (ended : Bool) (calls : List Call) : Type 0 where
  pub part : IsPrefix (written_by sink calls) (whole d every ended)
  pub told : IsPrefix (written_by ERRORS calls) (messages_of every)
  pub done : fault ≡ None → written_by sink calls ≡ whole d every ended
  pub ends : fault ≡ None → (ended ≡ true) ⊎ (d.filled every ≡ true)
  pub messages : fault ≡ None → (met : List Item) × EndedAt d every ended met ×
      (written_by ERRORS calls ≡ messages_of met)

-- a job that had no memory wrote a part of what is due of them
abbrev pub WritesPart : Job → List Found → List Item → Bool → List Call → Type 0
WritesPart job found every ended calls = (ask : Ask) × (sink : ℕ) × (empty : Bool) × IsAsked job found ask sink empty ×
    TextShort sink (job_due job ask empty) calls every ended

-- what a run wrote of feeds that threads put: the ring is recorded, its log is an interleaving of the listings, and this is of all that its only reader took; that goes up to the log's tail
-- where it had ended, and then what it took and what it missed add up. Without a fault each overrun was told, and what it cost
pub record WritesRing (job : Job) (listings : List Listing) (recorded : RunRecord) (sink : ℕ) (d : Due) (fault : Option ToolFault) (calls : List Call) : Type 0 where
  pub ring : ClosedState
  pub is : recorded ≡ Closed ring
  pub interleaved : IsInterleaving ring.log (units_of (with_made job listings))
  pub history : List (HistoryItem LogUnit)
  pub only : ring.histories ≡ history ∷ []
  pub read : IsReadHistory unit_words job.seg ring.log history
  pub adds_up : AddUp ring.log history
  pub ended : Bool
  pub tail : ended ≡ true → ReachesTail ring.log history
  pub writes : WritesOf sink d fault (items_of history) ended calls
  pub messages : fault ≡ None → written_by ERRORS calls ≡ messages_of (items_of history)

-- a job that had no memory wrote a part of what is due of all that a reader meets of its feeds; where threads put them, of what a reader of an interleaving of them may take, up to the log's
-- tail where it had ended. No ring is recorded then, so which it was isn't said
pub record WritesFedPart (job : Job) (found : List Found) (calls : List Call) : Type 0 where
  pub log : Log
  pub history : List (HistoryItem LogUnit)
  pub fed : AreFed job (listings_of found) log history
  pub ended : Bool
  pub stated : is_on_threads job ≡ false → ended ≡ true
  pub tail : ended ≡ true → ReachesTail log history
  pub writes : WritesPart job found (items_of history) ended calls
