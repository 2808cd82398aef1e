-- What is left of a job once its steps are taken: what its run comes to is the work of the job.
use Rattle.std.specs.Prelude.{◌≡◌, ◌≢◌, true, [], Ok, Err, codes}
use Rattle.log_model.specs.declared.fault.Halt.TheVariants.{NoMemory}
use Rattle.vio.specs.declared.world.TheConstants.{ERRORS}
use Rattle.vio.specs.World.{Seen, Writing}
use Rattle.vio.specs.Calls.{Called}
use Rattle.vio.specs.Steps.{PassedSo}
use Rattle.vsl_select.specs.Showing.{Showing}
use Rattle.tool_words.specs.declared.command.Command.TheVariants.{ForTool}
use Rattle.tool_words.specs.declared.job.Job.{Job}
use Rattle.job_steps.specs.Begun.{IsShown}
use Rattle.job_steps.specs.Fits.{HasFitFeeds}
use Rattle.job_steps.specs.Jobs.{write_of}
use Rattle.job_steps.specs.Queries.{Ask, HoldsAsAsked}
use Rattle.job_steps.specs.Steps.{Passes, Stops, word_steps}
use Rattle.tool_consumers.specs.Consumers.{IsJobConsumer, consumer_keep, consumer_output, consumer_represents}
use Rattle.job_runs.specs.declared.record.Ran.{Ran}
use Rattle.job_runs.specs.Counters.{CountsSo}
use Rattle.job_runs.specs.Rows.{RanFor, end_answer, job_due}
use Rattle.job_runs.specs.Runs.{CountsShort, RanShort, RanSo}
use Rattle.job_runs.specs.Sources.{FedCame, FeedsCame, RecordsOf}
use Rattle.varnish_tools.specs.declared.tools.Ready.{Ready}
use Rattle.varnish_tools.specs.declared.tools.Ready.TheVariants.{Over, Counters, Groups}
use Rattle.varnish_tools.specs.inside.Works.{IsWorked}

-- the rules of a job are good, and say that this is shown
abbrev pub PassedRules : Job → Showing → Type 0
PassedRules job selection = PassedSo Passes Stops (IsShown job selection) (word_steps job) []

-- a run that came so, or had no memory, is what is left of the work of a job that began in this world
pub record IsLeft (job : Job) (s : Seen) (Came : Ran → Seen → Type 0) (Short : Seen → Type 0) : Type 0 where
  pub ran : (ran : Ran) (u : Seen) → Came ran u → Called (IsWorked (Ok (ForTool job)) u (Ok ran)) s u
  pub short : (u : Seen) → Short u → Called (IsWorked (Ok (ForTool job)) u (Err NoMemory)) s u

-- steps of a job were taken, after which so much is left
abbrev pub IsReady : Job → Ready → Seen → Seen → Type 0
IsReady job (Over ran) s t = Called (IsWorked (Ok (ForTool job)) t (Ok ran)) s t
IsReady job (Counters counting) s t =
    HasFitFeeds job counting.listings.items × (t.names Writing counting.sink.handle (codes "-") ≡ true) ×
    IsLeft job s (λ ran u. Called (CountsSo job counting.listings.items counting.sink.handle ran.fault ran.run) t u)
    (λ u. Called (CountsShort job counting.listings.items counting.sink.handle) t u)
IsReady job (Groups consumer query listings sink) s t =
    HasFitFeeds job listings.items × IsJobConsumer consumer_keep consumer_output consumer_represents job consumer ×
    (t.names Writing sink.handle (write_of job) ≡ true) × (sink.handle ≢ ERRORS) ×
    IsLeft job s (λ ran u. (ask : Ask) → HoldsAsAsked query ask →
    Called (RanSo (RanFor [] (λ calls. FeedsCame job listings.items ran.run) (λ why calls met. ⊥) (RecordsOf [] job ran.run)
    sink.handle (job_due job ask sink.empty) (end_answer job) ran.fault)) t u)
    (λ u. (ask : Ask) → HoldsAsAsked query ask →
    Called (RanShort [] (λ calls. FedCame job listings.items) sink.handle (job_due job ask sink.empty)) t u)
