-- The steps of a job, from its queries to what it writes.
use Rattle.std.proofs.Common.{◌≡◌, Bool, true, false, if◌then◌else◌, is_some, List, [], ◌∷◌, ◌++◌, map, Some, None, Err, refl, sym, ◌∙◌, append_assoc, arith, codes}
use Rattle.std.proofs.lemmas.List.{append-nil}
use Rattle.std.proofs.lemmas.Grind.{flat_map-append}
use Rattle.log_model.specs.Halts.{IfFault}
use Rattle.log_model.specs.declared.fault.Halt.{Halt}
use Rattle.log_model.specs.declared.fault.Halt.TheVariants.{Fault, NoMemory}
use Rattle.vio.specs.World.{Seen}
use Rattle.vio.specs.Calls.{Called}
use Rattle.vio.specs.Steps.{PassedSo, Halted}
use Rattle.vio.proofs.StepLemmas.{passed_one}
use Rattle.tool_words.specs.declared.job.Job.{Job}
use Rattle.job_steps.specs.declared.fault.ToolFault.{ToolFault}
use Rattle.job_steps.specs.declared.steps.Begun.{Begun}
use Rattle.job_steps.specs.declared.steps.Counting.{Counting}
use Rattle.job_steps.specs.Jobs.{HasFormat, file_of, format_text, job_format_fault}
use Rattle.job_steps.specs.Steps.{Step, TakeFormat, OpenLog, MakeSink, Found, FoundNone, FoundListing, FoundSink, Passes, Stops, queries_from, feed_steps, input_steps, group_steps, counter_steps, opens_of, creates, creates_of, sink_step}
use Rattle.job_steps.specs.Took.{EndedBy}
use Rattle.job_steps.specs.Begun.{HasInput, IsBegun, IsCounting}
use Rattle.job_steps.specs.inside.Tasks.{QueriesAsk}
use Rattle.job_steps.proofs.ObjectLemmas.{halted_one}
use Rattle.job_steps.proofs.TookLemmas.{Both, called_so, ended_by, none_passed, then_ended, then_passed, then_halted}
use Rattle.job_steps.proofs.QueryLemmas.{queries_create}
use Rattle.job_steps.proofs.FeedStepLemmas.{feeds_create}

-- ---- the parts of a job's steps

abbrev pub queries : Job → List Step
queries job = queries_from job.caseless 0 job.queries

abbrev pub format : Job → List Step
format job = TakeFormat job.tool (format_text job) ∷ []

abbrev pub sink : Job → List Step
sink job = sink_step job ∷ []

-- none of the first creates a file

both_create : (xs ys : List Step) → creates_of xs ≡ [] → creates_of ys ≡ [] → creates_of (xs ++ ys) ≡ []
both_create xs ys p q = flat_map-append creates xs ys ∙ (λ k. p k ++ q k)

pub formatted_create : (job : Job) → creates_of (queries job ++ format job) ≡ []
formatted_create job = both_create (queries job) (format job) (queries_create job.caseless 0 job.queries) refl

either_create : (b : Bool) (xs ys : List Step) → creates_of xs ≡ [] → creates_of ys ≡ [] → creates_of (if b then xs else ys) ≡ []
either_create true xs ys p q = p
either_create false xs ys p q = q

pub read_create : (job : Job) → creates_of (queries job ++ format job ++ input_steps job) ≡ []
read_create job = both_create (queries job ++ format job) (input_steps job) (formatted_create job)
    (either_create (is_some job.file) (OpenLog (file_of job) ∷ []) (feed_steps job) refl (feeds_create job.reclen job.seg 0 job.feeds))

-- ---- a part ends the job

abbrev pub EndsGroups : Job → Halt ToolFault → Seen → Seen → Type 0
EndsGroups job halt before now = Called (EndedBy (group_steps job) halt) before now

ended_so : (steps : List Step) (halt : Halt ToolFault) (s t : Seen) → Called (Halted Passes Stops (opens_of steps) steps halt) s t → Called (EndedBy steps halt) s t
ended_so steps halt s t p = called_so (ended_by steps halt) p

pub query_ends : (job : Job) (halt : Halt ToolFault) (r s : Seen) → Called (Halted Passes Stops (opens_of (queries job)) (queries job) halt) r s → EndsGroups job halt r s
query_ends job halt r s p = ended_so (group_steps job) halt r s (then_halted (λ us. us ≡ []) [] (queries job) (format job ++ (input_steps job ++ sink job)) (group_steps job) (opens_of (queries job)) halt r r s
    (append_assoc (queries job ++ format job) (input_steps job) (sink job) ∙ append_assoc (queries job) (format job) (input_steps job ++ sink job)) refl refl (none_passed r) p)

-- how the format of a job is refused
format_halted : (A : Type 0) (job : Job) (halt : Halt ToolFault) (s : Seen) → IfFault {A = A} (Err halt) (λ fault. job_format_fault job ≡ Some fault) → Called (Halted Passes Stops [] (format job) halt) s s
format_halted A job (Fault fault) s p = record { calls = []; did = refl; is = halted_one [] (TakeFormat job.tool (format_text job)) fault [] (refl, p) refl }
format_halted A job NoMemory s p = record { calls = []; did = refl; is = (tt, omega arith) }

pub format_ends : (A : Type 0) (job : Job) (IsQueried : List Found → Type 0) (halt : Halt ToolFault) (r s : Seen) → Called (PassedSo Passes Stops IsQueried (queries job)) r s → IfFault {A = A} (Err halt) (λ fault. job_format_fault job ≡ Some fault) → EndsGroups job halt r s
format_ends A job IsQueried halt r s queried p = ended_so (group_steps job) halt r s (then_halted IsQueried (queries job) (format job) (input_steps job ++ sink job) (group_steps job) [] halt r s s
    (append_assoc (queries job ++ format job) (input_steps job) (sink job)) (queries_create job.caseless 0 job.queries) refl queried (format_halted A job halt s p))

pub input_ends : (job : Job) (IsFormed : List Found → Type 0) (halt : Halt ToolFault) (r s t : Seen) → Called (PassedSo Passes Stops IsFormed (queries job ++ format job)) r s → Called (Halted Passes Stops (opens_of (input_steps job)) (input_steps job) halt) s t → EndsGroups job halt r t
input_ends job IsFormed halt r s t formed p = ended_so (group_steps job) halt r t (then_halted IsFormed (queries job ++ format job) (input_steps job) (sink job) (group_steps job) (opens_of (input_steps job)) halt r s t refl (formatted_create job) refl formed p)

pub sink_ends : (job : Job) (IsRead : List Found → Type 0) (halt : Halt ToolFault) (r s t : Seen) → Called (PassedSo Passes Stops IsRead (queries job ++ format job ++ input_steps job)) r s → Called (EndedBy (sink job) halt) s t → EndsGroups job halt r t
sink_ends job IsRead halt r s t passed p = then_ended IsRead (queries job ++ format job ++ input_steps job) (sink job) halt r s t (read_create job) passed p

-- ---- all parts pass

-- the format was read, behind the queries
pub format_passed : (job : Job) (IsQueried : List Found → Type 0) (r s : Seen) → job_format_fault job ≡ None → Called (PassedSo Passes Stops IsQueried (queries job)) r s → Called (PassedSo Passes Stops (Both IsQueried (λ us. us ≡ FoundNone ∷ [])) (queries job ++ format job)) r s
format_passed job IsQueried r s good p = then_passed IsQueried (λ us. us ≡ FoundNone ∷ []) (queries job) (format job) r s s p
    (record { calls = []; did = refl; is = record { found = FoundNone ∷ []; is = refl; passed = passed_one Passes Stops (TakeFormat job.tool (format_text job)) FoundNone [] (refl, refl, good); fail = refl } })

-- what a job's steps found
abbrev pub FoundGroups : Job → Begun → List Found → Type 0
FoundGroups job begun us = Both (Both (Both (QueriesAsk job.caseless begun.query) (λ vs. vs ≡ FoundNone ∷ [])) (HasInput begun.input)) (λ vs. vs ≡ FoundSink begun.sink.handle begun.sink.empty ∷ []) us

pub is_begun : (job : Job) (begun : Begun) (us : List Found) → HasFormat job begun.format → FoundGroups job begun us → IsBegun job begun us
is_begun job begun us formed p =
    let q = p.first_so in
    let o = q.first_so in
    record {
      texts = o.first_so.texts;
      ask = o.first_so.ask;
      asked = o.first_so.asked;
      holds = o.first_so.holds;
      format = formed;
      inputs = q.last;
      input = q.last_so;
      are = rw (p.are, q.are, o.are, o.first_so.are, o.last_so, p.last_so) refl;
    }

-- ---- the steps of counters

pub counters_create : (job : Job) → creates_of (feed_steps job) ≡ []
counters_create job = feeds_create job.reclen job.seg 0 job.feeds

abbrev pub EndsCounters : Job → Halt ToolFault → Seen → Seen → Type 0
EndsCounters job halt before now = Called (Halted Passes Stops (opens_of (counter_steps job)) (counter_steps job) halt) before now

pub feeds_end : (job : Job) (halt : Halt ToolFault) (r s : Seen) → Called (Halted Passes Stops (opens_of (feed_steps job)) (feed_steps job) halt) r s → EndsCounters job halt r s
feeds_end job halt r s p = then_halted (λ us. us ≡ []) [] (feed_steps job) (MakeSink false (codes "-") ∷ []) (counter_steps job) (opens_of (feed_steps job)) halt r r s refl refl refl (none_passed r) p

pub output_ends : (job : Job) (IsRead : List Found → Type 0) (halt : Halt ToolFault) (r s t : Seen) → Called (PassedSo Passes Stops IsRead (feed_steps job)) r s → Called (Halted Passes Stops [] (MakeSink false (codes "-") ∷ []) halt) s t → EndsCounters job halt r t
output_ends job IsRead halt r s t read p = then_halted IsRead (feed_steps job) (MakeSink false (codes "-") ∷ []) [] (counter_steps job) [] halt r s t (sym (append-nil (counter_steps job))) (counters_create job) refl read p

pub is_counting : (counting : Counting) (us : List Found) → Both (λ vs. vs ≡ map FoundListing counting.listings.items) (λ vs. vs ≡ FoundSink counting.sink.handle counting.sink.empty ∷ []) us → IsCounting counting us
is_counting counting us p = rw (p.are, p.first_so, p.last_so) refl
