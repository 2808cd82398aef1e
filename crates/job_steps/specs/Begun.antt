-- What the steps of a job found (this project's choice).
use Rattle.std.specs.Prelude.{◌≡◌, ℕ, List, [], ◌∷◌, ◌++◌, map, None}
use Rattle.vsl_select.specs.Showing.{Showing}
use Rattle.tool_words.specs.declared.job.Job.{Job}
use Rattle.job_steps.specs.declared.steps.Input.{Input}
use Rattle.job_steps.specs.declared.steps.Input.TheVariants as inputs
use Rattle.job_steps.specs.declared.steps.Begun.{Begun}
use Rattle.job_steps.specs.declared.steps.Counting.{Counting}
use Rattle.job_steps.specs.declared.steps.Opened.{Opened}
use Rattle.job_steps.specs.Queries.{Ask, AreAsked, HoldsAsAsked}
use Rattle.job_steps.specs.Jobs.{HasFormat, showing_of}
use Rattle.job_steps.specs.Steps.{Found, FoundNone, FoundText, FoundLog, FoundListing, FoundSink}

-- a selection is what a job shows, and the reading of its rules found nothing else
pub record IsShown (job : Job) (selection : Showing) (found : List Found) : Type 0 where
  pub shows : selection ≡ showing_of job
  pub are : found ≡ FoundNone ∷ []

-- the handle of the log was found, or the listings of the feeds
abbrev pub HasInput : Input → List Found → Type 0
HasInput (inputs.Log handle) found = found ≡ FoundLog handle ∷ []
HasInput (inputs.Feeds listings) found = found ≡ map FoundListing listings.items

-- these texts were found, and the query asks what they ask
pub record IsBegun (job : Job) (begun : Begun) (found : List Found) : Type 0 where
  pub texts : List (List ℕ)
  pub ask : Ask
  pub asked : AreAsked job.caseless None texts ask
  pub holds : HoldsAsAsked begun.query ask
  pub format : HasFormat job begun.format
  pub inputs : List Found
  pub input : HasInput begun.input inputs
  pub are : found ≡ map FoundText texts ++ (FoundNone ∷ []) ++ inputs ++ FoundSink begun.sink.handle begun.sink.empty ∷
      []

-- these listings were found, and what is written
abbrev pub IsCounting : Counting → List Found → Type 0
IsCounting counting found = found ≡ map FoundListing counting.listings.items ++
    FoundSink counting.sink.handle counting.sink.empty ∷ []

-- this log was found, and what is written
abbrev pub IsOpened : Opened → List Found → Type 0
IsOpened opened found = found ≡ FoundLog opened.handle ∷ FoundSink opened.sink.handle opened.sink.empty ∷ []
