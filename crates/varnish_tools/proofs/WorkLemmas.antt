-- The work, from the words to the run.
use Rattle.std.proofs.Common.{◌≡◌, ℕ, Bool, true, false, List, [], ◌∷◌, ◌++◌, map, Option, None, Result, Ok, Err, refl, sym, ap, subst, inl, inr, arith}
use Rattle.log_model.specs.declared.fault.Halt.{Halt}
use Rattle.log_model.specs.declared.fault.Halt.TheVariants.{Fault, NoMemory}
use Rattle.log_model.specs.Halts.{IfFault}
use Rattle.vio.specs.World.{Seen}
use Rattle.vio.specs.Calls.{Call, Called, last_failed}
use Rattle.vio.specs.Steps.{Passed, PassedSo, Halted}
use Rattle.vio.proofs.CallLemmas.{did_then, last_failed_then}
use Rattle.vio.proofs.StepLemmas.{passed_then, stopped_one}
use Rattle.one_command.proofs.PromiseLemmas.{early_first, early_behind}
use Rattle.run_sources.specs.Sources.{FileCame, FileStopped}
use Rattle.traffic_feed.specs.declared.listing.Listing.{Listing}
use Rattle.tool_words.specs.declared.command.Command.{Command}
use Rattle.tool_words.specs.declared.command.Command.TheVariants.{ForTool, ForConvert}
use Rattle.tool_words.specs.declared.command.Names.{Names}
use Rattle.tool_words.specs.declared.fault.UsageFault.{UsageFault}
use Rattle.tool_words.specs.declared.job.Job.{Job}
use Rattle.vsl_select.specs.Showing.{Showing}
use Rattle.job_steps.specs.declared.fault.ToolFault.{ToolFault}
use Rattle.job_steps.specs.declared.fault.ToolFault.TheVariants.{Usage}
use Rattle.job_steps.specs.declared.steps.Begun.{Begun}
use Rattle.job_steps.specs.declared.steps.Counting.{Counting}
use Rattle.job_steps.specs.declared.steps.Input.{Input}
use Rattle.job_steps.specs.declared.steps.Opened.{Opened}
use Rattle.job_steps.specs.declared.steps.Input.TheVariants as inputs
use Rattle.job_steps.specs.Begun.{HasInput, IsBegun, IsCounting, IsOpened}
use Rattle.job_steps.specs.Jobs.{is_counting}
use Rattle.job_steps.specs.Queries.{Ask, AreAsked, HoldsAsAsked}
use Rattle.job_steps.specs.Steps.{Step, RefuseWords, Found, FoundListing, FoundNone, Passes, Stops, counter_steps, group_steps, job_steps, names_steps, word_steps, opens_of}
use Rattle.job_steps.specs.Took.{EndedBy, LacksSteps}
use Rattle.job_steps.proofs.TookLemmas.{called_so, ended_by}
use Rattle.job_runs.specs.declared.record.Ran.{Ran}
use Rattle.job_runs.specs.declared.record.RunRecord.{RunRecord}
use Rattle.job_runs.specs.declared.record.RunRecord.TheVariants.{Nothing}
use Rattle.job_runs.specs.Sources.{BeganOf, CameOf, FedCame, FeedsCame, LogBegan, RecordsCount, RecordsOf, StopsOf}
use Rattle.job_runs.specs.Converts.{Converts, ConvertsPart}
use Rattle.job_runs.specs.Counters.{CountsSo, WritesText}
use Rattle.job_runs.specs.Rows.{IsAsked, JobRan, JobShort, RanFor, end_answer, job_due}
use Rattle.job_runs.specs.Runs.{CountsShort, RanShort, RanSo}
use Rattle.varnish_tools.specs.Commands.{alone_of}
use Rattle.varnish_tools.specs.Theorem.{StatedRan, asked_of}
use Rattle.varnish_tools.specs.inside.Ready.{PassedRules}
use Rattle.varnish_tools.specs.inside.Works.{IsWorked}
use Rattle.varnish_tools.proofs.FoundLemmas.{CountingSo, FoundSo, found_behind, found_counting, found_feeds, found_file}
use Rattle.varnish_tools.proofs.TouchLemmas.{asked_good}

-- the words ended the work
pub words_end : (stated : Result Command UsageFault) (halt : Halt ToolFault) (s : Seen) → IfFault {A = Ran} (Err halt) (λ fault. (why : UsageFault) × (stated ≡ Err why) × (fault ≡ Usage why)) → Called (IsWorked stated s (Err halt)) s s
words_end stated (Fault fault) s p = rw (p.1, p.2) (record { calls = []; did = refl; is = inl (record { by = Usage p.0; is = refl; none = refl; stopped = stopped_one Passes Stops (RefuseWords p.0) (Usage p.0) [] (refl, refl); fail = refl }) })
words_end stated NoMemory s p = record { calls = []; did = refl; is = inl (inl (tt, omega arith)) }

-- what work comes to is said of the words that ask for the command
pub of_words : (stated : Result Command UsageFault) (command : Command) (r : Result Ran (Halt ToolFault)) (s t : Seen) → stated ≡ Ok command → Called (IsWorked (Ok command) t r) s t → Called (IsWorked stated t r) s t
of_words stated command r s t asks p = subst (λ (st : Result Command UsageFault). Called (IsWorked st t r) s t) (sym asks) p

-- ---- the rules

-- they ended the work
pub rules_end : (job : Job) (halt : Halt ToolFault) (s : Seen) → Halted Passes Stops [] (word_steps job) halt [] → Called (IsWorked (Ok (ForTool job)) s (Err halt)) s s
rules_end job (Fault fault) s p = record { calls = []; did = refl; is = early_first Passes Stops (StatedRan (Ok (ForTool job))) alone_of Nothing (word_steps job) (job_steps job) s fault [] p.0 refl }
rules_end job NoMemory s p = record { calls = []; did = refl; is = inl (inl (tt, omega arith)) }

module _ (job : Job) (selection : Showing) (rules : PassedRules job selection) where
  passed_rules : Passed Passes Stops (word_steps job) (FoundNone ∷ []) []
  passed_rules = subst (λ (us : List Found). Passed Passes Stops (word_steps job) us []) rules.is.are rules.passed

  asked : asked_of (Ok (ForTool job)) ≡ job_steps job
  asked = asked_good job passed_rules.3.2

  -- a step of the job ended the work
  steps_end : (halt : Halt ToolFault) (s t : Seen) → Called (EndedBy (job_steps job) halt) s t → Called (IsWorked (Ok (ForTool job)) t (Err halt)) s t
  steps_end (Fault fault) s t p = called_so (λ calls q. early_behind Passes Stops (StatedRan (Ok (ForTool job))) alone_of Nothing (word_steps job) (job_steps job) t fault (FoundNone ∷ []) [] calls passed_rules q.0 q.1) p
  steps_end NoMemory s t p = called_so (λ calls q. inl (subst (λ (steps : List Step). LacksSteps steps calls) (sym asked) q)) p

  pub job_end : (steps : List Step) (halt : Halt ToolFault) (s t : Seen) → steps ≡ job_steps job → Called (EndedBy steps halt) s t → Called (IsWorked (Ok (ForTool job)) t (Err halt)) s t
  job_end steps halt s t are p = steps_end halt s t (subst (λ (xs : List Step). Called (EndedBy xs halt) s t) are p)

  -- where none of the steps looks at what is appended to
  pub counters_end : (steps : List Step) (halt : Halt ToolFault) (s t : Seen) → steps ≡ job_steps job → Called (Halted Passes Stops (opens_of steps) steps halt) s t → Called (IsWorked (Ok (ForTool job)) t (Err halt)) s t
  counters_end steps halt s t are p = job_end steps halt s t are (called_so (ended_by steps halt) p)

  -- the steps of the job passed
  passed_all : (IsSo : List Found → Type 0) (steps : List Step) (calls : List Call) → steps ≡ job_steps job → (p : PassedSo Passes Stops IsSo steps calls) → Passed Passes Stops (word_steps job ++ job_steps job) (found_behind p.found) calls
  passed_all IsSo steps calls are p = passed_then Passes Stops (word_steps job) (job_steps job) (FoundNone ∷ []) p.found [] calls passed_rules (subst (λ (xs : List Step). Passed Passes Stops xs p.found calls) are p.passed)

  -- and then it ran
  pub job_ran : (IsSo : List Found → Type 0) (steps : List Step) (ran : Ran) (s t u : Seen) → steps ≡ job_steps job → Called (PassedSo Passes Stops IsSo steps) s t
      → ((us : List Found) → IsSo us → Called (RanSo (JobRan job u ran.fault ran.run (found_behind us))) t u) → Called (IsWorked (Ok (ForTool job)) u (Ok ran)) s u
  job_ran IsSo steps ran s t u are p run =
      let q = run p.is.found p.is.is in record {
        calls = p.calls ++ q.calls;
        did = did_then p.calls q.calls s t u p.did q.did;
        is = inr (record { found = found_behind p.is.found; first = p.calls; last = q.calls; are = refl; passed = passed_all IsSo steps p.calls are p.is; ran = q.is.0; fail = last_failed_then p.calls q.calls p.is.fail q.is.1 });
      }

  -- or had no memory
  pub job_short : (IsSo : List Found → Type 0) (steps : List Step) (s t u : Seen) → steps ≡ job_steps job → Called (PassedSo Passes Stops IsSo steps) s t
      → ((us : List Found) → IsSo us → Called (JobShort job (found_behind us)) t u) → Called (IsWorked (Ok (ForTool job)) u (Err NoMemory)) s u
  job_short IsSo steps s t u are p run =
      let q = run p.is.found p.is.is in record {
        calls = p.calls ++ q.calls;
        did = did_then p.calls q.calls s t u p.did q.did;
        is = inr (record { found = found_behind p.is.found; first = p.calls; last = q.calls; are = refl; passed = passed_all IsSo steps p.calls are p.is; fail = p.is.fail; short = q.is });
      }

-- nothing was done for want of memory
pub none_short : (job : Job) (found : List Found) (s : Seen) → Called (JobShort job found) s s
none_short job found s = record { calls = []; did = refl; is = inl refl }

-- the steps of a job are those of its tool
pub group_job : (job : Job) → is_counting job.tool ≡ false → group_steps job ≡ job_steps job
group_job job reads = rw reads refl

pub counter_job : (job : Job) → is_counting job.tool ≡ true → counter_steps job ≡ job_steps job
counter_job job counts = rw counts refl

-- ---- groups

module _ (job : Job) (reads : is_counting job.tool ≡ false) (texts : List (List ℕ)) (logs : List ℕ) (listings : List Listing) (sink : ℕ) (empty : Bool) (ask : Ask) (asked : AreAsked job.caseless None texts ask) (found : List Found) (so : FoundSo found texts logs listings sink empty) where
  asked_so : IsAsked job found ask sink empty
  asked_so = record { asked = rw so.texts_are asked; is_sink = so.sinks_are }

  short_as : (calls : List Call) → RanShort logs (BeganOf logs job listings) sink (job_due job ask empty) calls → JobShort job found calls
  short_as calls (inl none) = inl none
  short_as calls (inr p) = rw (reads, so.logs_are, so.listings_are) (inr (ask, sink, empty, p.0, p.1, asked_so, p.2, p.3, p.4))

  groups_ran : (fault : Option ToolFault) (recorded : RunRecord) (t u : Seen) → Called (RanSo (RanFor logs (CameOf logs job listings recorded) (StopsOf logs u) (RecordsOf logs job recorded) sink (job_due job ask empty) (end_answer job) fault)) t u → Called (RanSo (JobRan job u fault recorded found)) t u
  groups_ran fault recorded t u p = record { calls = p.calls; did = p.did; is = (rw (reads, so.logs_are, so.listings_are) (ask, sink, empty, asked_so, p.is.0), p.is.1) }

  groups_short : (t u : Seen) → Called (RanShort logs (BeganOf logs job listings) sink (job_due job ask empty)) t u → Called (JobShort job found) t u
  groups_short t u = called_so short_as

module _ (job : Job) (begun : Begun) (us : List Found) (reads : is_counting job.tool ≡ false) (p : IsBegun job begun us) where
  -- of a log
  opened : (h : ℕ) → begun.input ≡ inputs.Log h → FoundSo (found_behind us) p.texts (h ∷ []) [] begun.sink.handle begun.sink.empty
  opened h is = found_file p.texts p.inputs (found_behind us) h begun.sink.handle begun.sink.empty (ap found_behind p.are) (subst (λ (i : Input). HasInput i p.inputs) is p.input)

  pub log_ran : (h : ℕ) (fault : Option ToolFault) (recorded : RunRecord) (t u : Seen) → begun.input ≡ inputs.Log h
      → ((ask : Ask) → HoldsAsAsked begun.query ask → Called (RanSo (RanFor (h ∷ []) (FileCame h) (λ why calls met. FileStopped h why calls met u) (RecordsCount recorded) begun.sink.handle (job_due job ask begun.sink.empty) (end_answer job) fault)) t u)
      → Called (RanSo (JobRan job u fault recorded (found_behind us))) t u
  log_ran h fault recorded t u is ran = groups_ran job reads p.texts (h ∷ []) [] begun.sink.handle begun.sink.empty p.ask p.asked (found_behind us) (opened h is) fault recorded t u (ran p.ask p.holds)

  pub log_short : (h : ℕ) (t u : Seen) → begun.input ≡ inputs.Log h → ((ask : Ask) → HoldsAsAsked begun.query ask → Called (RanShort (h ∷ []) (LogBegan h) begun.sink.handle (job_due job ask begun.sink.empty)) t u) → Called (JobShort job (found_behind us)) t u
  log_short h t u is short = groups_short job reads p.texts (h ∷ []) [] begun.sink.handle begun.sink.empty p.ask p.asked (found_behind us) (opened h is) t u (short p.ask p.holds)

  -- of feeds
  fed : (input : Input) (listings : List Listing) → begun.input ≡ input → ((vs : List Found) → HasInput input vs → vs ≡ map FoundListing listings) → FoundSo (found_behind us) p.texts [] listings begun.sink.handle begun.sink.empty
  fed input listings is are = found_feeds p.texts p.inputs (found_behind us) listings begun.sink.handle begun.sink.empty (ap found_behind p.are) (are p.inputs (subst (λ (i : Input). HasInput i p.inputs) is p.input))

  pub feeds_ran : (input : Input) (listings : List Listing) (fault : Option ToolFault) (recorded : RunRecord) (t u : Seen) → begun.input ≡ input → ((vs : List Found) → HasInput input vs → vs ≡ map FoundListing listings)
      → ((ask : Ask) → HoldsAsAsked begun.query ask → Called (RanSo (RanFor [] (λ calls. FeedsCame job listings recorded) (λ why calls met. ⊥) (RecordsOf [] job recorded) begun.sink.handle (job_due job ask begun.sink.empty) (end_answer job) fault)) t u)
      → Called (RanSo (JobRan job u fault recorded (found_behind us))) t u
  feeds_ran input listings fault recorded t u is are ran = groups_ran job reads p.texts [] listings begun.sink.handle begun.sink.empty p.ask p.asked (found_behind us) (fed input listings is are) fault recorded t u (ran p.ask p.holds)

  pub feeds_short : (input : Input) (listings : List Listing) (t u : Seen) → begun.input ≡ input → ((vs : List Found) → HasInput input vs → vs ≡ map FoundListing listings)
      → ((ask : Ask) → HoldsAsAsked begun.query ask → Called (RanShort [] (λ calls. FedCame job listings) begun.sink.handle (job_due job ask begun.sink.empty)) t u) → Called (JobShort job (found_behind us)) t u
  feeds_short input listings t u is are short = groups_short job reads p.texts [] listings begun.sink.handle begun.sink.empty p.ask p.asked (found_behind us) (fed input listings is are) t u (short p.ask p.holds)

-- ---- counters

module _ (job : Job) (counting : Counting) (us : List Found) (counts : is_counting job.tool ≡ true) (found : IsCounting counting us) where
  counting_so : CountingSo (found_behind us) counting.listings.items counting.sink.handle counting.sink.empty
  counting_so = found_counting counting.listings.items (found_behind us) counting.sink.handle counting.sink.empty (ap found_behind found)

  written_last : (h : ℕ) (text : List ℕ) (fault : Option ToolFault) (calls : List Call) → WritesText h text fault calls → last_failed calls ≡ true
  written_last h text fault calls (inl p) = rw p.1 refl
  written_last h text fault calls (inr p) = rw p.1.2 refl

  pub counters_ran : (fault : Option ToolFault) (recorded : RunRecord) (t u : Seen) → Called (CountsSo job counting.listings.items counting.sink.handle fault recorded) t u → Called (RanSo (JobRan job u fault recorded (found_behind us))) t u
  counters_ran fault recorded t u p = record {
    calls = p.calls;
    did = p.did;
    is = (rw counts (counting.sink.handle, counting.sink.empty, counting_so.sinks_are, rw counting_so.listings_are p.is), written_last counting.sink.handle _ fault p.calls p.is.writes);
  }

  counters_part : (calls : List Call) → CountsShort job counting.listings.items counting.sink.handle calls → JobShort job (found_behind us) calls
  counters_part calls (inl none) = inl none
  counters_part calls (inr p) = rw counts (inr (counting.sink.handle, counting.sink.empty, counting_so.sinks_are, rw counting_so.listings_are p))

  pub counters_short : (t u : Seen) → Called (CountsShort job counting.listings.items counting.sink.handle) t u → Called (JobShort job (found_behind us)) t u
  counters_short t u = called_so counters_part

-- ---- convert

-- a step ended the work
pub convert_end : (names : Names) (halt : Halt ToolFault) (s t : Seen) → Called (Halted Passes Stops (opens_of (names_steps names)) (names_steps names) halt) s t → Called (IsWorked (Ok (ForConvert names)) t (Err halt)) s t
convert_end names (Fault fault) s t p = called_so (λ calls q. inl (record { by = fault; is = refl; none = refl; stopped = q.0; fail = q.1 })) p
convert_end names NoMemory s t p = called_so (λ calls q. inl (inl q)) p

module _ (names : Names) (opened : Opened) (s t u : Seen) (p : Called (PassedSo Passes Stops (IsOpened opened) (names_steps names)) s t) where
  -- the steps passed, and then it ran
  pub convert_ran : (ran : Ran) → Called (RanSo (Converts names opened.handle opened.sink.handle u ran.fault ran.run)) t u → Called (IsWorked (Ok (ForConvert names)) u (Ok ran)) s u
  convert_ran ran q = record {
    calls = p.calls ++ q.calls;
    did = did_then p.calls q.calls s t u p.did q.did;
    is = inr (record { found = p.is.found; first = p.calls; last = q.calls; are = refl; passed = p.is.passed; ran = (opened.handle, opened.sink.handle, opened.sink.empty, p.is.is, q.is.0); fail = last_failed_then p.calls q.calls p.is.fail q.is.1 });
  }

  -- or had no memory
  pub convert_short : Called (ConvertsPart names opened.handle opened.sink.handle) t u → Called (IsWorked (Ok (ForConvert names)) u (Err NoMemory)) s u
  convert_short q = record {
    calls = p.calls ++ q.calls;
    did = did_then p.calls q.calls s t u p.did q.did;
    is = inr (record { found = p.is.found; first = p.calls; last = q.calls; are = refl; passed = p.is.passed; fail = p.is.fail; short = (opened.handle, opened.sink.handle, opened.sink.empty, p.is.is, q.is) });
  }
