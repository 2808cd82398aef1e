-- What the main theorem comes to, where the world tells what the log of a job holds.
use Rattle.std.specs.Bool.{MatchBool}
use Rattle.std.specs.Str.{bytes_eq}
use Rattle.std.proofs.Common.{◌≡◌, ◌⊎◌, ℕ, Bool, true, false, if◌then◌else◌, is_some, List, [], ◌∷◌, Option, Some, None, Result, Ok, refl, sym, ap, subst, ◌∙◌, inl, inr, codes}
use Rattle.vio.specs.declared.world.TheConstants.{INPUT}
use Rattle.vio.specs.World.{HasStreams, Seen}
use Rattle.vio.specs.Touches.{IsOneOf}
use Rattle.vio.specs.Calls.{Call, Did, Open, SomeFailed, none_failed, written_by}
use Rattle.vio.specs.Steps.{Passed, Stopped}
use Rattle.vio.proofs.CallLaws.{did_keep}
use Rattle.vio.proofs.CallLemmas.{did_apart, some_behind}
use Rattle.vio.proofs.TouchLemmas.{did_touch, only_one}
use Rattle.vsl_record.specs.Unit.{Log}
use Rattle.vsl_file.specs.File.{FileEnding, IsFile, Whole, is_whole}
use Rattle.one_command.specs.Promise.{Says, Works}
use Rattle.run_sources.specs.Sources.{FileCame, FileStopped, unit_items}
use Rattle.run_sources.specs.declared.file_items.FileStop.{FileStop}
use Rattle.run_sources.specs.Told.{TellsLog, named_ending}
use Rattle.fan_output.specs.Ends.{whole}
use Rattle.tool_words.specs.declared.command.Command.{Command}
use Rattle.tool_words.specs.declared.command.Command.TheVariants.{ForTool}
use Rattle.tool_words.specs.declared.fault.UsageFault.{UsageFault}
use Rattle.tool_words.specs.declared.job.Job.{Job}
use Rattle.tool_words.specs.Job.{job_of}
use Rattle.tool_words.proofs.CommandLemmas.{asks_tool}
use Rattle.job_steps.specs.declared.fault.ToolFault.{ToolFault}
use Rattle.job_steps.specs.Good.{AreGoodSteps}
use Rattle.job_steps.specs.Jobs.{file_of, is_counting}
use Rattle.job_steps.specs.Queries.{Ask}
use Rattle.job_steps.specs.Steps.{Step, OpenLog, Found, FoundSink, Passes, Stops, creates_of, feed_steps, logs_of, opens_of, sink_step, steps_of}
use Rattle.job_steps.proofs.BegunLemmas.{formatted_create}
use Rattle.job_steps.proofs.StepFacts.{passed_within}
use Rattle.job_steps.proofs.TookLemmas.{opens_alone}
use Rattle.job_runs.specs.declared.record.RunRecord.{RunRecord}
use Rattle.job_runs.specs.declared.record.RunRecord.TheVariants.{Nothing}
use Rattle.job_runs.specs.Good.{HasCause, StoppedByLog}
use Rattle.job_runs.specs.Sources.{RecordsCount}
use Rattle.job_runs.specs.Rows.{JobRan, RanFor, end_answer, job_due, stop_answer}
use Rattle.job_runs.specs.Told.{WritesOf}
use Rattle.varnish_tools.specs.declared.outcome.Outcome.{Outcome}
use Rattle.varnish_tools.specs.Faults.{fault_message}
use Rattle.varnish_tools.specs.Commands.{alone_of}
use Rattle.varnish_tools.specs.Theorem.{IsFaithful, StatedRan, WorksOff}
use Rattle.varnish_tools.specs.Told.{PrintsLog, TellsInput, WasStopped}
use Rattle.varnish_tools.proofs.FoundLemmas.{FoundSo, found_feeds, found_file}
use Rattle.varnish_tools.proofs.PartLemmas.{GroupParts, counter_parts, early, feeds_found, group_parts, passed_alone}
use Rattle.varnish_tools.proofs.PrintedLemmas.{items_printed, ran_over}
use Rattle.varnish_tools.proofs.RunLemmas.{RanOf, no_message, none_fails, stopped_or}

-- ---- a log that is told

-- what a handle told to have left stays so while steps pass
pub kept_told : (steps : List Step) (found : List Found) (calls : List Call) (h : ℕ) (units : Log) (ending : FileEnding) (s t : Seen) → Passed Passes Stops steps found calls → Did calls s t → TellsLog h units ending s → TellsLog h units ending t
kept_told steps found calls h units ending s t p did tells =
    let touches = did_touch [] [] (opens_of steps) (creates_of steps) calls s t (passed_within steps found calls p).within did in
    record { given = touches.given h tells.given; bytes = tells.bytes; told = touches.left h tells.given (λ none. none) ∙ tells.told; file = tells.file }

-- the log that is opened is the one that is told
pub opened_told : (b : Bool) (name bytes : List ℕ) (h : ℕ) (units : Log) (ending : FileEnding) (calls : List Call) (r s t : Seen) → MatchBool b (r.left INPUT ≡ Some bytes) (r.held name ≡ Some bytes) → MatchBool b ((h ≡ INPUT) × (calls ≡ [])) (calls ≡ Open name h ∷ [])
    → IsFile bytes units ending → HasStreams r → (TellsLog INPUT units ending r → TellsLog INPUT units ending s) → (r.held name ≡ Some bytes → s.held name ≡ Some bytes) → Did calls s t → TellsLog h units ending t
opened_told true name bytes h units ending calls r s t told opens file streams left held did =
    let same : t ≡ s = subst (λ (cs : List Call). Did cs s t) opens.1 did in
    subst (λ (i : ℕ). TellsLog i units ending t) (sym opens.0) (subst (λ (u : Seen). TellsLog INPUT units ending u) (sym same) (left (record { given = streams.input_given; bytes = bytes; told = told; file = file })))
opened_told false name bytes h units ending calls r s t told opens file streams left held did =
    let made = subst (λ (cs : List Call). Did cs s t) opens did in
    let opened = made.1 in
    subst (λ (u : Seen). TellsLog h units ending u) (sym made.2) (record { given = opened.given; bytes = bytes; told = opened.left ∙ held told; file = file })

-- the one log that a job's steps opened, whose handle tells what was told of it, among all that they found
record LogFound (job : Job) (units : Log) (ending : FileEnding) (found : List Found) (s t : Seen) : Type 0 where
  parts : GroupParts job found s t
  h : ℕ
  so : FoundSo found parts.texts (h ∷ []) [] parts.sink parts.empty
  tells : TellsLog h units ending t

log_found : (job : Job) (units : Log) (ending : FileEnding) (found : List Found) (calls : List Call) (s t : Seen) → is_counting job.tool ≡ false → is_some job.file ≡ true → HasStreams s → TellsInput job units ending s → Passed Passes Stops (steps_of (Ok (ForTool job))) found calls
    → Did calls s t → LogFound job units ending found s t
log_found job units ending found calls s t groups file streams tells passed did =
    let g = group_parts job found calls s t groups passed did in
    let one = passed_alone (OpenLog (file_of job)) g.inputs g.own (subst (λ (b : Bool). Passed Passes Stops (if b then OpenLog (file_of job) ∷ [] else feed_steps job) g.inputs g.own) file g.passed_own) in
    let opens = opens_alone (early job) g.before g.first (formatted_create job) g.passed in
    let opened = opened_told (bytes_eq (file_of job) (codes "-")) (file_of job) tells.bytes one.2.0 units ending g.own s g.mid g.at tells.told one.2.2 tells.file streams
    (kept_told (early job) g.before g.first INPUT units ending s g.mid g.passed g.did) (did_keep (opens_of (early job)) g.first s g.mid (file_of job) tells.bytes opens g.did) g.did_own in
    record {
      parts = g;
      h = one.2.0;
      so = found_file g.texts g.inputs found one.2.0 g.sink g.empty g.are (one.1 ∙ ap (λ (u : Found). u ∷ []) one.2.1);
      tells = kept_told (sink_step job ∷ []) (FoundSink g.sink g.empty ∷ []) g.last one.2.0 units ending g.at t g.passed_last g.did_last opened;
    }

-- ---- what a run over a told log comes to

-- that a run over a log whose handle told what it had left writes what is due of it
abbrev pub TellsWrites : Type 0
TellsWrites = (job : Job) (ask : Ask) (h : ℕ) (others : List ℕ) (sink : ℕ) (empty : Bool) (units : Log) (ending : FileEnding) (fault : Option ToolFault) (recorded : RunRecord) (calls : List Call) (before now : Seen) → TellsLog h units ending before → Did calls before now
    → RanFor (h ∷ others) (FileCame h) (λ why cs met. FileStopped h why cs met now) (RecordsCount recorded) sink (job_due job ask empty) (end_answer job) fault calls → WritesOf sink (job_due job ask empty) fault (unit_items units) (is_whole ending) calls

-- and that where it was stopped in a way that names an ending, the file ends so, and all of that was written
abbrev pub TellsStops : Type 0
TellsStops = (job : Job) (ask : Ask) (h : ℕ) (others : List ℕ) (sink : ℕ) (empty : Bool) (units : Log) (ending : FileEnding) (fault : Option ToolFault) (recorded : RunRecord) (calls : List Call) (before now : Seen) (why : FileStop) (named : FileEnding) → TellsLog h units ending before → Did calls before now
    → RanFor (h ∷ others) (FileCame h) (λ why cs met. FileStopped h why cs met now) (RecordsCount recorded) sink (job_due job ask empty) (end_answer job) fault calls → fault ≡ Some (stop_answer (file_of job) why) → named_ending why ≡ Some named
    → (ending ≡ named) × (written_by sink calls ≡ whole (job_due job ask empty) (unit_items units) (is_whole ending))

module _ (writes_told : TellsWrites) (stops_told : TellsStops) (job : Job) (units : Log) (ending : FileEnding) (groups : is_counting job.tool ≡ false) (file : is_some job.file ≡ true) where
  work_prints : (message : List ℕ) (fault : Option ToolFault) (recorded : RunRecord) (s t : Seen) → HasStreams s → TellsInput job units ending s → (fault ≡ None → message ≡ []) → (q : WorksOff (Says message) (Ok (ForTool job)) fault recorded s t)
      → RanOf (ForTool job) q.at fault recorded q.work → PrintsLog job fault units ending s t
  unfolding items_printed
  work_prints message fault recorded s t streams tells quiet q ran =
      let parts = did_apart ran.first ran.last s q.at (subst (λ (cs : List Call). Did cs s q.at) ran.are q.did) in
      let of = log_found job units ending ran.found ran.first s parts.0 groups file streams tells ran.passed parts.1 in
      let out = of.parts in
      let g = ran_over job ran.found out.texts (of.h ∷ []) [] out.sink out.empty q.at fault recorded ran.last groups of.so ran.ran in
      record {
        prints = items_printed job message fault recorded s t (unit_items units) (is_whole ending) (of.h ∷ []) [] streams quiet q ran parts.0 parts.1 parts.2 out of.so g
            (writes_told job g.ask of.h [] out.sink out.empty units ending fault recorded ran.last parts.0 q.at of.tells parts.2 g.over);
        stops = λ why named. stops_told job g.ask of.h [] out.sink out.empty units ending fault recorded ran.last parts.0 q.at why named of.tells parts.2 g.over;
      }

-- what was written of a log that was told
pub log_printed : TellsWrites → TellsStops → (words : List (List ℕ)) (outcome : Outcome) (job : Job) (units : Log) (ending : FileEnding) (before now : Seen) → job_of words ≡ Ok job → is_some job.file ≡ true → is_counting job.tool ≡ false → HasStreams before → TellsInput job units ending before
    → (p : IsFaithful words outcome before now) → WasStopped words outcome p.works.work ⊎ PrintsLog job outcome.fault units ending before now
log_printed writes_told stops_told words outcome job units ending before now states file groups streams tells p =
    stopped_or (PrintsLog job outcome.fault units ending before now) words outcome (ForTool job) before now (asks_tool words job states) p
    (work_prints writes_told stops_told job units ending groups file (fault_message words outcome.fault) outcome.fault outcome.run before now streams tells (no_message words outcome.fault))

-- ---- a fault has a call that failed

-- that only a call that failed stops good steps; that a fault of a run has such a call, or its log stopped it; and that a whole log doesn't
abbrev pub GoodPass : Type 0
GoodPass = (stated : Result Command UsageFault) (fault : ToolFault) (calls : List Call) (before now : Seen) → AreGoodSteps before (steps_of stated) → Did calls before now → Stopped Passes Stops (steps_of stated) fault calls → SomeFailed calls

abbrev pub FaultCause : Type 0
FaultCause = (job : Job) (fault : ToolFault) (recorded : RunRecord) (found : List Found) (calls : List Call) (now : Seen) → JobRan job now (Some fault) recorded found calls → HasCause (logs_of found) (file_of job) fault calls now

abbrev pub WholeRuns : Type 0
WholeRuns = (h : ℕ) (name : List ℕ) (fault : ToolFault) (units : Log) (calls : List Call) (before now : Seen) → TellsLog h units Whole before → Did calls before now → StoppedByLog h name fault calls now → ⊥

-- the log of a job, where it has one, is told to be whole
abbrev TellsWhole : Job → Seen → Type 0
TellsWhole job before = is_some job.file ≡ true → is_counting job.tool ≡ false → (units : Log) × TellsInput job units Whole before

-- where no log was found, none is one of them
none_found : (h : ℕ) (logs : List ℕ) → logs ≡ [] → IsOneOf h logs → ⊥
none_found h logs none is = subst (λ (hs : List ℕ). IsOneOf h hs) none is

-- a log that was told to be whole stops no run; there is none for feeds and for counters
log_stops : WholeRuns → (b c : Bool) (job : Job) (found : List Found) (first last : List Call) (h : ℕ) (fault : ToolFault) (r s t : Seen) → is_counting job.tool ≡ b → is_some job.file ≡ c → HasStreams r → TellsWhole job r → Passed Passes Stops (steps_of (Ok (ForTool job))) found first
    → Did first r s → Did last s t → IsOneOf h (logs_of found) → StoppedByLog h (file_of job) fault last t → ⊥
log_stops whole true c job found first last h fault r s t counts is streams tells passed did more one stopped = none_found h (logs_of found) (counter_parts job found first r s counts passed did).so.logs_are one
log_stops whole false true job found first last h fault r s t groups is streams tells passed did more one stopped =
    let told = tells is groups in
    let of = log_found job told.0 Whole found first r s groups is streams told.1 passed did in
    let same : h ≡ of.h = only_one h of.h (subst (λ (hs : List ℕ). IsOneOf h hs) of.so.logs_are one) in
    whole h (file_of job) fault told.0 last s t (subst (λ (i : ℕ). TellsLog i told.0 Whole s) (sym same) of.tells) more stopped
log_stops whole false false job found first last h fault r s t groups is streams tells passed did more one stopped =
    let g = group_parts job found first r s groups passed did in
    let fed = feeds_found job.reclen job.seg _ g.inputs g.own (subst (λ (b : Bool). Passed Passes Stops (if b then OpenLog (file_of job) ∷ [] else feed_steps job) g.inputs g.own) is g.passed_own) in
    none_found h (logs_of found) (found_feeds g.texts g.inputs found fed.0 g.sink g.empty g.are fed.1).logs_are one

module _ (pass : GoodPass) (cause : FaultCause) (whole : WholeRuns) (job : Job) (s t : Seen) (streams : HasStreams s) (good : AreGoodSteps s (steps_of (Ok (ForTool job)))) (tells : TellsWhole job s) where
  work_failed : (recorded : RunRecord) (work : List Call) (fault : ToolFault) → Did work s t → Works Passes Stops (StatedRan (Ok (ForTool job))) alone_of Nothing (steps_of (Ok (ForTool job))) t (Some fault) recorded work → SomeFailed work
  work_failed recorded work fault did (inl early) = pass (Ok (ForTool job)) early.by work s t good did early.stopped
  work_failed recorded work fault did (inr ran) =
      let parts = did_apart ran.first ran.last s t (subst (λ (cs : List Call). Did cs s t) ran.are did) in
      elim (cause job fault recorded ran.found ran.last t ran.ran) [
        | inl failed ↦ subst (λ (cs : List Call). SomeFailed cs) (sym ran.are) (some_behind ran.first ran.last failed)
        | inr log ↦ absurd (log_stops whole (is_counting job.tool) (is_some job.file) job ran.found ran.first ran.last log.0 fault s parts.0 t refl refl streams tells ran.passed parts.1 parts.2 log.1 log.2)
      ]

-- words whose job has what it needs have no fault where no call failed
pub no_fault : GoodPass → FaultCause → WholeRuns → (words : List (List ℕ)) (outcome : Outcome) (job : Job) (before now : Seen) → job_of words ≡ Ok job → HasStreams before → AreGoodSteps before (steps_of (Ok (ForTool job))) → TellsWhole job before
    → (p : IsFaithful words outcome before now) → none_failed p.works.work ≡ true → outcome.fault ≡ None
no_fault pass cause whole words outcome job before now states streams good tells p none =
    none_fails words outcome (ForTool job) before now (asks_tool words job states) p (λ fault. work_failed pass cause whole job before p.works.at streams good tells outcome.run p.works.work fault p.works.did) none
