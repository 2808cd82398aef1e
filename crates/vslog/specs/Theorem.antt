-- The main theorem of `vslog`: what the top call does in the world, for every command line, input and world (this project's choice).
use Rattle.std.specs.Prelude.{◌≡◌, ◌⊎◌, ℕ, ◌&&◌, nat_lt, if◌then◌else◌, Bool, true, false, List, [], ◌∷◌, ◌++◌, Result, Ok, Err, codes}
use Rattle.std.specs.Str.{bytes_eq}
use Rattle.log_model.specs.Prefix.{IsProperPrefix}
use Rattle.vio.specs.World.{Opening, Creating}
use Rattle.vio.specs.Calls.{Went, FailedEach, Call, Write, Refuse, Lack}
use Rattle.vio.specs.Streams.{IsMadeBy, IsOpenedBy}
use Rattle.one_command.specs.Promise.{Says, SaysPart}
use Rattle.vsl_file.specs.File.{file_header}
use Rattle.varnish_log.specs.declared.copying.Copied.{Copied}
use Rattle.varnish_log.specs.Copied.{CopiedThen, IsEnd, IsLog, IsNoLog, IsStarved}
use Rattle.vslog.specs.declared.words.UsageFault.{UsageFault}
use Rattle.vslog.specs.declared.ended.Ended.{Ended}
use Rattle.vslog.specs.declared.ended.Ended.TheVariants.{Refused, Stopped, Done}
use Rattle.vslog.specs.declared.ended.RunFault.{RunFault}
use Rattle.vslog.specs.declared.ended.RunFault.TheVariants.{NoInput, NoOutput, NoHeader, Log, CutShort}
use Rattle.vslog.specs.Words.{Job}
use Rattle.vslog.specs.Messages.{text_due, usage_message}

-- ---- the exit status

-- 0 done, 1 the input or the outside failed, 2 the words were refused
abbrev pub status_of : Ended → ℕ
status_of (Done copied) = 0
status_of (Stopped fault) = 1
status_of (Refused fault) = 2

-- how a run ended that copied a log: where copying is strict, an end that cuts a part stops it
abbrev pub settled : Bool → Copied → Ended
settled strict copied = if strict && nat_lt 0 copied.left then Stopped (CutShort copied.left) else Done copied

-- ---- the work

-- the header of a log file is written where nothing is yet. That is before the log is read, so that a reader behind a
-- pipe sees a log at once. Standard output counts as empty, so a shell that appends gets a second header, and
-- `-a -w FILE` is there for it
abbrev pub header_calls : ℕ → Bool → List Call
header_calls h empty = if empty then Write h file_header Went ∷ [] else []

-- what is read was opened, what is written was created, the header was written where nothing was, and then these calls were made
pub record Begun (job : Job) (IsRest : ℕ → ℕ → List Call → Type 0) (calls : List Call) : Type 0 where
  pub input : ℕ
  pub output : ℕ
  pub empty : Bool
  pub opened : List Call
  pub made : List Call
  pub rest : List Call
  pub are : calls ≡ opened ++ made ++ header_calls output empty ++ rest
  pub opens : IsOpenedBy job.input input opened
  pub makes : IsMadeBy job.append job.output output empty made
  pub is : IsRest input output rest

-- the log was copied to its end
abbrev pub Copies : Job → Copied → List Call → Type 0
Copies job copied calls =
    Begun job (λ input output rest.
    IsLog job.asked input (λ how first. CopiedThen how input output first (IsEnd how input output copied)) rest) calls

-- what is written was created, and was empty, and not all of the header was written, marked so
pub record HeaderStops (job : Job) (IsLast : ℕ → List ℕ → List Call) (calls : List Call) : Type 0 where
  pub input : ℕ
  pub output : ℕ
  pub opened : List Call
  pub made : List Call
  pub part : List ℕ
  pub are : calls ≡ opened ++ made ++ IsLast output part
  pub opens : IsOpenedBy job.input input opened
  pub makes : IsMadeBy job.append job.output output true made
  pub proper : IsProperPrefix part file_header

-- the work stopped with this fault
abbrev pub StopsWith : Job → RunFault → List Call → Type 0
StopsWith job NoInput calls = (bytes_eq job.input (codes "-") ≡ false) × (calls ≡ Refuse Opening job.input ∷ [])
StopsWith job NoOutput calls = (input : ℕ) × (opened : List Call) × IsOpenedBy job.input input opened × (bytes_eq job.output (codes "-") ≡ false) × (calls ≡ opened ++ Refuse Creating job.output ∷ [])
StopsWith job NoHeader calls = HeaderStops job (λ output part. Write output part FailedEach ∷ []) calls
StopsWith job (Log fault) calls = Begun job (λ input output rest. IsNoLog job.asked input output fault rest) calls
StopsWith job (CutShort left) calls = (copied : Copied) × Copies job copied calls ×
    (settled job.asked.strict copied ≡ Stopped (CutShort left))

-- there was no memory for the work: before what is read was opened; to open it; to create what is written; to write all of the header; or to copy the log
abbrev pub LacksWork : Job → List Call → Type 0
LacksWork job calls =
    (calls ≡ []) ⊎ ((calls ≡ Lack ∷ []) ⊎
    (((input : ℕ) × (opened : List Call) × IsOpenedBy job.input input opened × (calls ≡ opened ++ Lack ∷ []))
    ⊎ (HeaderStops job (λ output part. Write output part Went ∷ []) calls
    ⊎ Begun job (λ input output rest.
    IsLog job.asked input (λ how first. CopiedThen how input output first (IsStarved how input output)) rest) calls)))

-- the work ended so
abbrev pub Works : Job → Ended → List Call → Type 0
Works job (Refused fault) calls = ⊥
Works job (Stopped fault) calls = StopsWith job fault calls
Works job (Done copied) calls = Copies job copied calls × (settled job.asked.strict copied ≡ Done copied)

-- ---- the theorem

-- the work was done, and behind it this was said
pub record WorksOff (job : Job) (ended : Ended) (IsSaid : List Call → Type 0) (calls : List Call) : Type 0 where
  pub work : List Call
  pub said : List Call
  pub are : calls ≡ work ++ said
  pub works : Works job ended work
  pub says : IsSaid said

-- what the call did where it answers how it ended: words that state no job are refused, and else the job was worked off
-- and its message said. A program of its own makes log files and another reads them: so a pipe has a log file in its
-- middle, which can be kept, and no tool has two readers
abbrev pub Runs : List (List ℕ) → Result Job UsageFault → Ended → List Call → Type 0
Runs words (Err fault) ended calls = (ended ≡ Refused fault) × Says (usage_message words fault) calls
Runs words (Ok job) ended calls = WorksOff job ended (Says (text_due job ended)) calls

-- what the call did where there was no memory: for the work, or for all of the message
abbrev pub Lacks : List (List ℕ) → Result Job UsageFault → List Call → Type 0
Lacks words (Err fault) calls = SaysPart (usage_message words fault) calls
Lacks words (Ok job) calls = LacksWork job calls ⊎
    ((ended : Ended) × WorksOff job ended (SaysPart (text_due job ended)) calls)
