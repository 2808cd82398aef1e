-- What the main theorem comes to, where the world tells what the feeds of a job hold: what is printed of them, and of their counters.
use Rattle.std.specs.Bool.{MatchBool}
use Rattle.std.proofs.Common.{◌≡◌, ◌≢◌, ◌⊎◌, ℕ, Bool, true, false, if◌then◌else◌, is_some, List, [], ◌∷◌, Option, Some, None, Ok, sym, ap, subst, ◌∙◌, inl, inr, codes}
use Rattle.std.proofs.lemmas.List.{append-nil}
use Rattle.log_model.specs.Prefix.{IsPrefix}
use Rattle.vio.specs.declared.world.TheConstants.{ERRORS, OUTPUT}
use Rattle.vio.specs.World.{Gains, HasStreams, Seen}
use Rattle.vio.specs.Calls.{Call, Did, Went, Failed, written_by}
use Rattle.vio.specs.Steps.{Passed}
use Rattle.vio.proofs.CallLaws.{did_keep}
use Rattle.vio.proofs.CallLemmas.{did_apart, written_here, written_other}
use Rattle.vsl_record.specs.Unit.{LogUnit, Log}
use Rattle.ring_layout.specs.declared.history.HistoryItem.{HistoryItem}
use Rattle.ring_layout.specs.declared.item.Item.{Item}
use Rattle.ring_layout.specs.Items.{items_of}
use Rattle.traffic_feed.specs.declared.listing.Listing.{Listing}
use Rattle.feed_files.specs.Feeds.{AreFeedsRead, AreListings, FeedsHold, feeds_from}
use Rattle.one_command.specs.Promise.{Says}
use Rattle.tool_words.specs.declared.command.Command.TheVariants.{ForTool}
use Rattle.tool_words.specs.declared.job.Job.{Job}
use Rattle.tool_words.specs.Job.{job_of}
use Rattle.tool_words.proofs.CommandLemmas.{asks_tool}
use Rattle.job_steps.specs.declared.fault.ToolFault.{ToolFault}
use Rattle.job_steps.specs.declared.fault.ToolFault.TheVariants.{WriteFault}
use Rattle.job_steps.specs.Jobs.{file_of, is_counting, is_on_threads}
use Rattle.job_steps.specs.Queries.{Ask}
use Rattle.job_steps.specs.Steps.{Found, OpenLog, Passes, Stops, feed_steps, listings_of, opens_of, steps_of}
use Rattle.job_steps.proofs.BegunLemmas.{formatted_create}
use Rattle.job_steps.proofs.TookLemmas.{opens_alone}
use Rattle.job_runs.specs.declared.record.RunRecord.{RunRecord}
use Rattle.job_runs.specs.Sources.{AreFed, FeedsCame, RecordsOf}
use Rattle.job_runs.specs.Counters.{CountsSo, PrintsCounters, WritesText, counters_text}
use Rattle.job_runs.specs.Rows.{PrintsGroups, RanFor, end_answer, job_due}
use Rattle.job_runs.specs.Told.{WritesOf, WritesRing}
use Rattle.varnish_tools.specs.declared.outcome.Outcome.{Outcome}
use Rattle.varnish_tools.specs.Faults.{fault_message}
use Rattle.varnish_tools.specs.Theorem.{IsFaithful, WorksOff}
use Rattle.varnish_tools.specs.Told.{PrintsCounted, PrintsFeeds, PrintsItems, PrintsRing, WasStopped}
use Rattle.varnish_tools.proofs.FoundLemmas.{FoundSo, found_feeds}
use Rattle.varnish_tools.proofs.PartLemmas.{GroupParts, counter_parts, early, feeds_found, group_parts}
use Rattle.varnish_tools.proofs.PrintedLemmas.{items_printed, ran_over, same_one}
use Rattle.varnish_tools.proofs.RunLemmas.{RanOf, no_message, run_errors, run_gains, stopped_or}

-- that contents are one list of listings at most; that feeds which are told are read as these; and what a run in a stated order, or on threads, wrote of them
abbrev pub OneListings : Type 0
OneListings = (reclen seg : ℕ) (contents : List (List ℕ)) (first second : List Listing) → AreListings reclen seg contents first → AreListings reclen seg contents second → first ≡ second

abbrev pub TellsRead : Type 0
TellsRead = (reclen seg : ℕ) (names contents : List (List ℕ)) (listings : List Listing) (calls : List Call) (before now : Seen) → FeedsHold before names contents → Did calls before now → AreFeedsRead reclen seg names listings calls → AreListings reclen seg contents listings

abbrev pub FeedsWrite : Type 0
FeedsWrite = (job : Job) (ask : Ask) (sink : ℕ) (empty : Bool) (listings : List Listing) (fault : Option ToolFault) (recorded : RunRecord) (calls : List Call) → is_on_threads job ≡ false
    → RanFor [] (λ cs. FeedsCame job listings recorded) (λ why cs met. ⊥) (RecordsOf [] job recorded) sink (job_due job ask empty) (end_answer job) fault calls
    → (log : Log) × (history : List (HistoryItem LogUnit)) × AreFed job listings log history × WritesOf sink (job_due job ask empty) fault (items_of history) true calls

abbrev pub RingWrites : Type 0
RingWrites = (job : Job) (ask : Ask) (sink : ℕ) (empty : Bool) (listings : List Listing) (fault : Option ToolFault) (recorded : RunRecord) (calls : List Call) → is_on_threads job ≡ true
    → RanFor [] (λ cs. FeedsCame job listings recorded) (λ why cs met. ⊥) (RecordsOf [] job recorded) sink (job_due job ask empty) (end_answer job) fault calls
    → WritesRing job listings recorded sink (job_due job ask empty) fault calls

-- what files are told to hold is told behind calls that keep them
feeds_kept : (names contents : List (List ℕ)) (s t : Seen) → ((name bytes : List ℕ) → s.held name ≡ Some bytes → t.held name ≡ Some bytes) → FeedsHold s names contents → FeedsHold t names contents
feeds_kept [] [] s t keeps told = tt
feeds_kept [] (bytes ∷ contents) s t keeps told = absurd told
feeds_kept (name ∷ names) [] s t keeps told = absurd told
feeds_kept (name ∷ names) (bytes ∷ contents) s t keeps told = (keeps name bytes told.0, feeds_kept names contents s t keeps told.1)

-- the listings that a job's steps found are those of the contents that are told
record FeedsAre (job : Job) (listings : List Listing) (found : List Found) (s t : Seen) : Type 0 where
  parts : GroupParts job found s t
  so : FoundSo found parts.texts [] listings parts.sink parts.empty

feeds_are : OneListings → TellsRead → (job : Job) (contents : List (List ℕ)) (listings : List Listing) (found : List Found) (calls : List Call) (s t : Seen) → is_counting job.tool ≡ false → is_some job.file ≡ false → FeedsHold s job.feeds contents
    → AreListings job.reclen job.seg contents listings → Passed Passes Stops (steps_of (Ok (ForTool job))) found calls → Did calls s t → FeedsAre job listings found s t
feeds_are one read job contents listings found calls s t groups fed tells are passed did =
    let g = group_parts job found calls s t groups passed did in
    let own = feeds_found job.reclen job.seg (feeds_from 0 job.feeds) g.inputs g.own (subst (λ (b : Bool). Passed Passes Stops (if b then OpenLog (file_of job) ∷ [] else feed_steps job) g.inputs g.own) fed g.passed_own) in
    let opens = opens_alone (early job) g.before g.first (formatted_create job) g.passed in
    let held = feeds_kept job.feeds contents s g.mid (λ name bytes. did_keep (opens_of (early job)) g.first s g.mid name bytes opens g.did) tells in
    let same : own.0 ≡ listings = one job.reclen job.seg contents own.0 listings (read job.reclen job.seg job.feeds contents own.0 g.own g.mid g.at held g.did_own own.2) are in
    record { parts = g; so = subst (λ (ls : List Listing). FoundSo found g.texts [] ls g.sink g.empty) same (found_feeds g.texts g.inputs found own.0 g.sink g.empty g.are own.1) }

-- what a run wrote of items of such listings, by what is known of a run over them, and what that comes to
abbrev Wrote : Job → List Listing → Option ToolFault → RunRecord → Seen → Seen → Type 0 → Type 0
Wrote job listings fault recorded s t P = (ask : Ask) (sink : ℕ) (empty : Bool) (calls : List Call) → RanFor [] (λ cs. FeedsCame job listings recorded) (λ why cs met. ⊥) (RecordsOf [] job recorded) sink (job_due job ask empty) (end_answer job) fault calls
    → (every : List Item) × (ended : Bool) × WritesOf sink (job_due job ask empty) fault every ended calls × (PrintsItems job fault every ended s t → (fault ≡ None → Gains (s.written ERRORS) (t.written ERRORS) (written_by ERRORS calls)) → P)

module _ (one : OneListings) (read : TellsRead) (job : Job) (contents : List (List ℕ)) (listings : List Listing) (groups : is_counting job.tool ≡ false) (fed : is_some job.file ≡ false) (are : AreListings job.reclen job.seg contents listings) where
  work_prints : (P : Type 0) (message : List ℕ) (fault : Option ToolFault) (recorded : RunRecord) (s t : Seen) → HasStreams s → FeedsHold s job.feeds contents → (fault ≡ None → message ≡ []) → Wrote job listings fault recorded s t P
      → (q : WorksOff (Says message) (Ok (ForTool job)) fault recorded s t) → RanOf (ForTool job) q.at fault recorded q.work → P
  work_prints P message fault recorded s t streams tells quiet writes q ran =
      let parts = did_apart ran.first ran.last s q.at (subst (λ (cs : List Call). Did cs s q.at) ran.are q.did) in
      let of = feeds_are one read job contents listings ran.found ran.first s parts.0 groups fed tells are ran.passed parts.1 in
      let out = of.parts in
      let g = ran_over job ran.found out.texts [] listings out.sink out.empty q.at fault recorded ran.last groups of.so ran.ran in
      let wrote = writes g.ask out.sink out.empty ran.last g.over in
      wrote.3 (items_printed job message fault recorded s t wrote.0 wrote.1 [] listings streams quiet q ran parts.0 parts.1 parts.2 out of.so g wrote.2) (λ none. run_errors (ForTool job) message fault recorded s t (quiet none) q ran)

-- what was written of feeds that were told, in a stated order
pub feeds_printed : OneListings → TellsRead → FeedsWrite → (words : List (List ℕ)) (outcome : Outcome) (job : Job) (contents : List (List ℕ)) (listings : List Listing) (before now : Seen) → job_of words ≡ Ok job → is_some job.file ≡ false → is_counting job.tool ≡ false
    → is_on_threads job ≡ false → HasStreams before → FeedsHold before job.feeds contents → AreListings job.reclen job.seg contents listings → (p : IsFaithful words outcome before now) → WasStopped words outcome p.works.work ⊎ PrintsFeeds job outcome.fault listings before now
feeds_printed one read writes words outcome job contents listings before now states fed groups stated streams tells are p =
    stopped_or (PrintsFeeds job outcome.fault listings before now) words outcome (ForTool job) before now (asks_tool words job states) p
    (work_prints one read job contents listings groups fed are (PrintsFeeds job outcome.fault listings before now) (fault_message words outcome.fault) outcome.fault outcome.run before now streams tells (no_message words outcome.fault)
    (λ ask sink empty calls over. let w = writes job ask sink empty listings outcome.fault outcome.run calls stated over in (items_of w.1, true, w.3, λ prints told. (w.0, w.1, w.2, prints))))

-- and on threads
pub ring_printed : OneListings → TellsRead → RingWrites → (words : List (List ℕ)) (outcome : Outcome) (job : Job) (contents : List (List ℕ)) (listings : List Listing) (before now : Seen) → job_of words ≡ Ok job → is_some job.file ≡ false → is_counting job.tool ≡ false
    → is_on_threads job ≡ true → HasStreams before → FeedsHold before job.feeds contents → AreListings job.reclen job.seg contents listings → (p : IsFaithful words outcome before now) → WasStopped words outcome p.works.work ⊎ PrintsRing job outcome.fault outcome.run listings before now
ring_printed one read writes words outcome job contents listings before now states fed groups threads streams tells are p =
    stopped_or (PrintsRing job outcome.fault outcome.run listings before now) words outcome (ForTool job) before now (asks_tool words job states) p
    (work_prints one read job contents listings groups fed are (PrintsRing job outcome.fault outcome.run listings before now) (fault_message words outcome.fault) outcome.fault outcome.run before now streams tells (no_message words outcome.fault)
    (λ ask sink empty calls over. let w = writes job ask sink empty listings outcome.fault outcome.run calls threads over in (
      items_of w.history,
      w.ended,
      w.writes,
      λ prints told. record {
        ring = w.ring;
        is = w.is;
        interleaved = w.interleaved;
        history = w.history;
        only = w.only;
        read = w.read;
        adds_up = w.adds_up;
        ended = w.ended;
        tail = w.tail;
        prints = prints;
        errors = λ none. subst (λ (text : List ℕ). Gains (before.written ERRORS) (now.written ERRORS) text) (w.messages none) (told none);
      },
    )))

-- ---- counters

-- what one write came to
wrote_text : (h : ℕ) (text : List ℕ) (fault : Option ToolFault) (calls : List Call) → WritesText h text fault calls → IsPrefix (written_by h calls) text × (fault ≡ None → written_by h calls ≡ text)
wrote_text h text fault calls (inl whole) =
    let is : written_by h calls ≡ text = ap (λ (cs : List Call). written_by h cs) whole.1 ∙ written_here h text Went in
    (record { rest = []; is = sym is ∙ sym (append-nil (written_by h calls)) }, λ none. is)
wrote_text h text fault calls (inr part) =
    let is : written_by h calls ≡ part.1.0 = ap (λ (cs : List Call). written_by h cs) part.1.2 ∙ written_here h part.1.0 (Failed (codes "-")) in
    (subst (λ (xs : List ℕ). IsPrefix xs text) (sym is) part.1.1.prefix, λ none. let bad : Some (WriteFault (codes "-")) ≡ None = sym part.0 ∙ none in absurd cc)

-- it goes to no other handle
wrote_apart : (h k : ℕ) (text : List ℕ) (fault : Option ToolFault) (calls : List Call) → h ≢ k → WritesText h text fault calls → written_by k calls ≡ []
wrote_apart h k text fault calls apart (inl whole) = ap (λ (cs : List Call). written_by k cs) whole.1 ∙ written_other h k text Went apart
wrote_apart h k text fault calls apart (inr part) = ap (λ (cs : List Call). written_by k cs) part.1.2 ∙ written_other h k part.1.0 (Failed (codes "-")) apart

module _ (one : OneListings) (read : TellsRead) (job : Job) (contents : List (List ℕ)) (listings : List Listing) (counts : is_counting job.tool ≡ true) (are : AreListings job.reclen job.seg contents listings) where
  work_counts : (message : List ℕ) (fault : Option ToolFault) (recorded : RunRecord) (s t : Seen) → FeedsHold s job.feeds contents → (fault ≡ None → message ≡ []) → (q : WorksOff (Says message) (Ok (ForTool job)) fault recorded s t) → RanOf (ForTool job) q.at fault recorded q.work
      → PrintsCounted job fault recorded listings s t
  work_counts message fault recorded s t tells quiet q ran =
      let parts = did_apart ran.first ran.last s q.at (subst (λ (cs : List Call). Did cs s q.at) ran.are q.did) in
      let of = counter_parts job ran.found ran.first s parts.0 counts ran.passed parts.1 in
      let same : of.listings ≡ listings = one job.reclen job.seg contents of.listings listings (read job.reclen job.seg job.feeds contents of.listings of.own s of.at tells of.did of.read) are in
      let g = subst (λ (b : Bool). MatchBool b (PrintsCounters job fault recorded ran.found ran.last) (PrintsGroups job q.at fault recorded ran.found ran.last)) counts ran.ran in
      let to_out : (g.0, g.1) ≡ (OUTPUT, of.empty) = same_one (g.0, g.1) (OUTPUT, of.empty) (sym g.2 ∙ of.so.sinks_are) in
      let so = subst (λ (ls : List Listing). CountsSo job ls OUTPUT fault recorded ran.last) (of.so.listings_are ∙ same) (subst (λ (z : ℕ × Bool). CountsSo job (listings_of ran.found) z.0 fault recorded ran.last) to_out g.3) in
      let wrote = wrote_text OUTPUT (counters_text job listings so.log so.waits) fault ran.last so.writes in
      let apart : OUTPUT ≢ ERRORS = λ e. cc in
      let silent : written_by ERRORS ran.last ≡ [] = wrote_apart OUTPUT ERRORS (counters_text job listings so.log so.waits) fault ran.last apart so.writes in
      record {
        log = so.log;
        waits = so.waits;
        put = so.put;
        ring = so.ring;
        text = written_by OUTPUT ran.last;
        part = wrote.0;
        done = wrote.1;
        gains = run_gains (ForTool job) message fault recorded OUTPUT s t apart q ran;
        errors = λ none. subst (λ (text : List ℕ). Gains (s.written ERRORS) (t.written ERRORS) text) silent (run_errors (ForTool job) message fault recorded s t (quiet none) q ran);
      }

-- what was written of counters of feeds that were told
pub counters_printed : OneListings → TellsRead → (words : List (List ℕ)) (outcome : Outcome) (job : Job) (contents : List (List ℕ)) (listings : List Listing) (before now : Seen) → job_of words ≡ Ok job → is_counting job.tool ≡ true → FeedsHold before job.feeds contents
    → AreListings job.reclen job.seg contents listings → (p : IsFaithful words outcome before now) → WasStopped words outcome p.works.work ⊎ PrintsCounted job outcome.fault outcome.run listings before now
counters_printed one read words outcome job contents listings before now states counts tells are p =
    stopped_or (PrintsCounted job outcome.fault outcome.run listings before now) words outcome (ForTool job) before now (asks_tool words job states) p
    (work_counts one read job contents listings counts are (fault_message words outcome.fault) outcome.fault outcome.run before now tells (no_message words outcome.fault))
