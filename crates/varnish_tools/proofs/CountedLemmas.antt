-- The count that a fault speaks of rose, under its name.
use Rattle.std.specs.Bool.{MatchBool}
use Rattle.std.specs.Str.{bytes_eq}
use Rattle.std.proofs.Common.{◌≡◌, ◌⊎◌, ℕ, Bool, true, false, if◌then◌else◌, is_some, List, [], ◌∷◌, Option, Some, None, option_map, Result, Ok, Err, refl, sym, ap, subst, ◌∙◌, inl, inr, codes}
use Rattle.std.proofs.lemmas.Slice.Eq.{bytes_eq-Decides}
use Rattle.log_model.specs.Faults.{HasNewFault}
use Rattle.vio.specs.declared.world.TheConstants.{ERRORS, INPUT}
use Rattle.vio.specs.declared.fault.NamedFault.{NamedFault}
use Rattle.vio.specs.declared.fault.NamedFault.TheVariants as named
use Rattle.vio.specs.World.{Seen, CallKind, HasStreams, NoCountFalls, Opening, Creating, Reading, Writing}
use Rattle.vio.specs.Touches.{IsOneOf}
use Rattle.vio.specs.Calls.{Call, Create, Did, Open, Refuse, Take, Write}
use Rattle.vio.specs.Calls as calling
use Rattle.vio.specs.Named.{IsRefusedBy}
use Rattle.vio.specs.Steps.{Passed, Stopped}
use Rattle.vio.proofs.CallLaws.{did_fail, did_fail_each}
use Rattle.vio.proofs.CallLemmas.{did_apart, did_counts}
use Rattle.vio.proofs.TouchLemmas.{only_one, touch_own}
use Rattle.vsl_select.specs.declared.rule_text.SelectFault.{SelectFault}
use Rattle.vsl_select.specs.declared.rule_text.SelectFault.TheVariants as rules
use Rattle.traffic_feed.specs.declared.listing.Listing.{Listing}
use Rattle.vsl_file.specs.File.{most_bytes}
use Rattle.feed_files.specs.declared.fault.FeedFault.{FeedFault}
use Rattle.feed_files.specs.declared.fault.FeedFault.TheVariants as feeds
use Rattle.feed_files.specs.Feeds.{Feed, FeedStops, most_feed_bytes}
use Rattle.tool_words.specs.declared.command.Command.{Command}
use Rattle.tool_words.specs.declared.command.Command.TheVariants.{ForTool, ForConvert}
use Rattle.tool_words.specs.declared.command.Names.{Names}
use Rattle.tool_words.specs.declared.fault.UsageFault.{UsageFault}
use Rattle.tool_words.specs.declared.job.Job.{Job}
use Rattle.tool_words.specs.declared.job.Tool.{Tool}
use Rattle.tool_words.specs.declared.job.Tool.TheVariants as tools
use Rattle.tool_words.specs.Command.{command_of}
use Rattle.one_command.specs.Promise.{Works}
use Rattle.one_run.specs.declared.met.Met.{Met}
use Rattle.one_run.specs.declared.pass.RunEnd.{RunEnd}
use Rattle.one_run.specs.declared.pass.RunEnd.TheVariants as ends
use Rattle.one_run.specs.Run.{Ran}
use Rattle.run_sources.specs.declared.file_items.FileStop.{FileStop}
use Rattle.run_sources.specs.declared.file_items.FileStop.TheVariants as stops
use Rattle.fan_output.specs.declared.ending.TextEnding.{TextEnding}
use Rattle.fan_output.specs.declared.ending.TextEnding.TheVariants as endings
use Rattle.fan_output.specs.Ends.{Due, TextEnded, TextWritten}
use Rattle.ring_layout.specs.declared.item.Item.{Item}
use Rattle.run_sources.specs.Sources.{FileCame}
use Rattle.unit_text.specs.Units.{units_due}
use Rattle.job_steps.specs.declared.fault.ToolFault.{ToolFault}
use Rattle.job_steps.specs.declared.fault.ToolFault.TheVariants.{BadFormat, NoOpen, ReadFault, WriteFault, NotALog, Damaged, TooLarge, OldLog}
use Rattle.job_steps.specs.Appends.{AppendStops, LookStops}
use Rattle.job_steps.specs.Jobs.{file_of, is_counting, text_fault}
use Rattle.job_steps.specs.Steps.{Step, RefuseWords, TakeRules, TakeQuery, TakeFormat, OpenLog, ReadFeed, MakeSink, AppendLog, Found, FoundLog, FoundSink, IsRuleAnswer, Passes, Stops, feed_answer, feed_steps, listings_of, logs_of, most_query_bytes, named_answer, names_steps, steps_of}
use Rattle.job_runs.specs.declared.record.RunRecord.{RunRecord}
use Rattle.job_runs.specs.declared.record.RunRecord.TheVariants.{Nothing}
use Rattle.job_runs.specs.Counters.{PrintsCounters, WritesText}
use Rattle.job_runs.specs.Rows.{PrintsGroups, job_due, log_answer}
use Rattle.job_runs.specs.Sources.{CameOf, StopsOf}
use Rattle.varnish_tools.specs.declared.outcome.Outcome.{Outcome}
use Rattle.varnish_tools.specs.Commands.{alone_of}
use Rattle.varnish_tools.specs.Theorem.{IsFaithful, StatedRan}
use Rattle.varnish_tools.proofs.FoundLemmas.{found_feeds, found_file}
use Rattle.varnish_tools.proofs.PartLemmas.{counter_parts, feeds_found, group_parts, passed_alone}
use Rattle.varnish_tools.proofs.QuietLemmas.{rose_within}

-- the count that a fault speaks of rose: of files that couldn't be opened or created, of reads or of writes that failed
abbrev pub IsCounted : ToolFault → Seen → Seen → Type 0
IsCounted (NoOpen name) before now = HasNewFault (before.faults Opening name) (now.faults Opening name) ⊎ HasNewFault (before.faults Creating name) (now.faults Creating name)
IsCounted (ReadFault name) before now = HasNewFault (before.faults Reading name) (now.faults Reading name)
IsCounted (WriteFault name) before now = HasNewFault (before.faults Writing name) (now.faults Writing name)
IsCounted fault before now = Unit {0}

-- no count falls before it, nor behind it
counted_within : (fault : ToolFault) (r s t u : Seen) → NoCountFalls r s → IsCounted fault s t → NoCountFalls t u → IsCounted fault r u
counted_within (NoOpen name) r s t u early (inl rose) late = inl (rose_within Opening name r s t u early rose late)
counted_within (NoOpen name) r s t u early (inr rose) late = inr (rose_within Creating name r s t u early rose late)
counted_within (ReadFault name) r s t u early rose late = rose_within Reading name r s t u early rose late
counted_within (WriteFault name) r s t u early rose late = rose_within Writing name r s t u early rose late
counted_within fault r s t u early rose late = tt

some_same : {A : Type 0} (x y : A) → Some x ≡ Some y → x ≡ y
some_same x y same = cc

-- of a fault that is another
counted_as : (fault other : ToolFault) (s t : Seen) → fault ≡ other → IsCounted other s t → IsCounted fault s t
counted_as fault other s t same rose = subst (λ (f : ToolFault). IsCounted f s t) (sym same) rose

-- ---- a step

-- a call that was refused is counted
refuse_counted : (kind : CallKind) (name : List ℕ) (calls : List Call) (s t : Seen) → calls ≡ Refuse kind name ∷ [] → Did calls s t → HasNewFault (s.faults kind name) (t.faults kind name)
refuse_counted kind name calls s t are did = did_fail kind name (Refuse kind name) (Refuse kind name ∷ []) s t (inl refl) (refl, refl) (subst (λ (cs : List Call). Did cs s t) are did)

-- a file that isn't read whole
refused_counted : (limit : ℕ) (name : List ℕ) (why : NamedFault) (calls : List Call) (s t : Seen) → IsRefusedBy limit name why calls → Did calls s t → IsCounted (named_answer limit name why) s t
refused_counted limit name named.NoOpen calls s t p did = inl (refuse_counted Opening name calls s t p did)
refused_counted limit name named.Failed calls s t p did =
    did_fail Reading name (Take p.0 p.1 (calling.Failed name)) (Open name p.0 ∷ Take p.0 p.1 (calling.Failed name) ∷ []) s t (inr (inl refl)) (refl, refl) (subst (λ (cs : List Call). Did cs s t) p.2 did)
refused_counted limit name named.TooLarge calls s t p did = tt

-- a feed
feed_counted : (feed : Feed) (why : FeedFault) (calls : List Call) (s t : Seen) → FeedStops feed why calls → Did calls s t → IsCounted (feed_answer why) s t
feed_counted feed (feeds.NoOpen name) calls s t p did = subst (λ (n : List ℕ). IsCounted (NoOpen n) s t) (sym p.0) (refused_counted most_feed_bytes feed.name named.NoOpen calls s t p.1 did)
feed_counted feed (feeds.ReadFault name) calls s t p did = subst (λ (n : List ℕ). IsCounted (ReadFault n) s t) (sym p.0) (refused_counted most_feed_bytes feed.name named.Failed calls s t p.1 did)
feed_counted feed (feeds.TooLarge name limit) calls s t p did = tt
feed_counted feed (feeds.BadListing number line) calls s t p did = tt

-- rules and formats have faults of other kinds
rule_counted : (why : SelectFault) (fault : ToolFault) (s t : Seen) → IsRuleAnswer why fault → IsCounted fault s t
rule_counted (rules.BadTags word) fault s t is = counted_as fault _ s t is tt
rule_counted (rules.BadPattern word) fault s t is = counted_as fault _ s t is tt
rule_counted rules.NoMemory fault s t is = absurd is

bad_counted : (found : Option ℕ) (fault : ToolFault) (s t : Seen) → option_map BadFormat found ≡ Some fault → IsCounted fault s t
bad_counted None fault s t is = absurd cc
bad_counted (Some at) fault s t is = counted_as fault (BadFormat at) s t (sym (some_same (BadFormat at) fault is)) tt

format_counted : (tool : Tool) (text : List ℕ) (fault : ToolFault) (s t : Seen) → text_fault tool text ≡ Some fault → IsCounted fault s t
format_counted tools.Log text fault s t is = absurd cc
format_counted tools.Ncsa text fault s t is = bad_counted _ fault s t is
format_counted tools.Top text fault s t is = absurd cc
format_counted tools.Stat text fault s t is = absurd cc

-- a log file that was looked at
look_counted : (name : List ℕ) (h : ℕ) (fault : ToolFault) (calls looked : List Call) (s t : Seen) → calls ≡ Create true name h false ∷ looked → LookStops name fault looked → Did calls s t → IsCounted fault s t
look_counted name h fault calls looked s t are (inl p) did =
    let all = are ∙ ap (λ (cs : List Call). Create true name h false ∷ cs) p.0 in
    counted_as fault (NoOpen name) s t p.1 (inl (did_fail Opening name (Refuse Opening name) (Create true name h false ∷ Refuse Opening name ∷ []) s t (inr (inl refl)) (refl, refl) (subst (λ (cs : List Call). Did cs s t) all did)))
look_counted name h fault calls looked s t are (inr (inl p)) did =
    let all = are ∙ ap (λ (cs : List Call). Create true name h false ∷ cs) p.2 in
    counted_as fault (ReadFault name) s t p.3 (did_fail Reading name (Take p.0 p.1 (calling.Failed name)) (Create true name h false ∷ Open name p.0 ∷ Take p.0 p.1 (calling.Failed name) ∷ []) s t (inr (inr (inl refl))) (refl, refl)
    (subst (λ (cs : List Call). Did cs s t) all did))
look_counted name h fault calls looked s t are (inr (inr p)) did = counted_as fault (OldLog name) s t p.3 tt

append_counted : (name : List ℕ) (fault : ToolFault) (calls : List Call) (s t : Seen) → AppendStops name fault calls → Did calls s t → IsCounted fault s t
append_counted name fault calls s t (file, inl p) did = counted_as fault (NoOpen name) s t p.1 (inr (refuse_counted Creating name calls s t p.0 did))
append_counted name fault calls s t (file, inr p) did = look_counted name p.0 fault calls p.1 s t p.2 p.3 did

-- a step that stopped
stops_counted : (step : Step) (fault : ToolFault) (calls : List Call) (s t : Seen) → Stops step fault calls → Did calls s t → IsCounted fault s t
stops_counted (RefuseWords why) fault calls s t p did = counted_as fault _ s t p.1 tt
stops_counted (TakeRules caseless texts) fault calls s t p did = rule_counted p.1.0 fault s t p.1.2
stops_counted (TakeQuery caseless n query) fault calls s t (inl p) did = counted_as fault _ s t p.1.2 (refused_counted most_query_bytes query.text p.1.0 calls s t p.1.1 did)
stops_counted (TakeQuery caseless n query) fault calls s t (inr p) did = counted_as fault _ s t p.4 tt
stops_counted (TakeFormat tool text) fault calls s t p did = format_counted tool text fault s t p.1
stops_counted (OpenLog name) fault calls s t p did = counted_as fault (NoOpen name) s t p.2 (inl (refuse_counted Opening name calls s t p.1 did))
stops_counted (ReadFeed reclen seg feed) fault calls s t p did = counted_as fault _ s t p.2 (feed_counted feed p.0 calls s t p.1 did)
stops_counted (MakeSink append name) fault calls s t p did = counted_as fault (NoOpen name) s t p.2 (inr (refuse_counted Creating name calls s t p.1 did))
stops_counted (AppendLog name) fault calls s t p did = append_counted name fault calls s t p did

-- ---- the handle of a log

-- a handle is given, and has this name in reads
record IsNamed (h : ℕ) (name : List ℕ) (now : Seen) : Type 0 where
  given : now.given h ≡ true
  named : now.names Reading h name ≡ true

named_later : (h : ℕ) (name : List ℕ) (calls : List Call) (s t : Seen) → Did calls s t → IsNamed h name s → IsNamed h name t
named_later h name [] s t did p = subst (λ (u : Seen). IsNamed h name u) (sym did) p
named_later h name (call ∷ calls) s t did p = let q = touch_own call s did.0 did.1 in named_later h name calls did.0 t did.2 (record { given = q.given h p.given; named = q.names Reading h name p.given ∙ p.named })

-- one that was opened has the file's name, and for `-` it is standard input
opened_named : (b : Bool) (name : List ℕ) (h : ℕ) (calls : List Call) (s t : Seen) → bytes_eq name (codes "-") ≡ b → MatchBool b ((h ≡ INPUT) × (calls ≡ [])) (calls ≡ Open name h ∷ []) → IsNamed INPUT (codes "-") s → Did calls s t → IsNamed h name t
opened_named true name h calls s t is opens input did =
    let same : name ≡ codes "-" = (bytes_eq-Decides name (codes "-")).0 is in
    subst (λ (n : List ℕ). IsNamed h n t) (sym same) (subst (λ (i : ℕ). IsNamed i (codes "-") t) (sym opens.0) (named_later INPUT (codes "-") calls s t did input))
opened_named false name h calls s t is opens input did =
    let made = subst (λ (cs : List Call). Did cs s t) opens did in
    let opened = made.1 in
    subst (λ (u : Seen). IsNamed h name u) (sym made.2) (record { given = opened.given; named = opened.is_named })

-- the log that a job's steps found is given, and has the name of its file; for feeds and counters there is none
log_named : (b c : Bool) (job : Job) (found : List Found) (calls : List Call) (h : ℕ) (s t : Seen) → is_counting job.tool ≡ b → is_some job.file ≡ c → HasStreams s → Passed Passes Stops (steps_of (Ok (ForTool job))) found calls → Did calls s t → IsOneOf h (logs_of found)
    → IsNamed h (file_of job) t
log_named true c job found calls h s t counts is streams passed did one = absurd (subst (λ (hs : List ℕ). IsOneOf h hs) (counter_parts job found calls s t counts passed did).so.logs_are one)
log_named false true job found calls h s t groups is streams passed did one =
    let g = group_parts job found calls s t groups passed did in
    let log = passed_alone (OpenLog (file_of job)) g.inputs g.own (subst (λ (b : Bool). Passed Passes Stops (if b then OpenLog (file_of job) ∷ [] else feed_steps job) g.inputs g.own) is g.passed_own) in
    let so = found_file g.texts g.inputs found log.2.0 g.sink g.empty g.are (log.1 ∙ ap (λ (u : Found). u ∷ []) log.2.1) in
    let same : h ≡ log.2.0 = only_one h log.2.0 (subst (λ (hs : List ℕ). IsOneOf h hs) so.logs_are one) in
    let input = named_later INPUT (codes "-") g.first s g.mid g.did (record { given = streams.input_given; named = streams.input }) in
    let opened = opened_named (bytes_eq (file_of job) (codes "-")) (file_of job) log.2.0 g.own g.mid g.at refl log.2.2 input g.did_own in
    subst (λ (i : ℕ). IsNamed i (file_of job) t) (sym same) (named_later log.2.0 (file_of job) g.last g.at t g.did_last opened)
log_named false false job found calls h s t groups is streams passed did one =
    let g = group_parts job found calls s t groups passed did in
    let fed = feeds_found job.reclen job.seg _ g.inputs g.own (subst (λ (b : Bool). Passed Passes Stops (if b then OpenLog (file_of job) ∷ [] else feed_steps job) g.inputs g.own) is g.passed_own) in
    absurd (subst (λ (hs : List ℕ). IsOneOf h hs) (found_feeds g.texts g.inputs found fed.0 g.sink g.empty g.are fed.1).logs_are one)

-- the log that a command of two names found is given, and has its name
opened_first : (names : Names) (found : List Found) (calls : List Call) (h sink : ℕ) (empty : Bool) (s t : Seen) → HasStreams s → found ≡ FoundLog h ∷ FoundSink sink empty ∷ [] → Passed Passes Stops (names_steps names) found calls → Did calls s t → IsNamed h names.input t
opened_first names found calls h sink empty s t streams are passed did =
    let p = subst (λ (us : List Found). Passed Passes Stops (names_steps names) us calls) are passed in
    let parts = did_apart p.0 p.1 s t (subst (λ (cs : List Call). Did cs s t) p.2 did) in
    let log = p.3 in
    let same : h ≡ log.0 = same_log h log.0 log.1 in
    let opened = opened_named (bytes_eq names.input (codes "-")) names.input log.0 p.0 s parts.0 refl log.2 (record { given = streams.input_given; named = streams.input }) parts.1 in
    subst (λ (i : ℕ). IsNamed i names.input t) (sym same) (named_later log.0 names.input p.1 parts.0 t parts.2 opened)
  where
    same_log : (k other : ℕ) → FoundLog k ≡ FoundLog other → k ≡ other
    same_log k other same = cc

-- ---- a run

-- counters
counters_counted : (sink : ℕ) (text : List ℕ) (fault : ToolFault) (calls : List Call) (s t : Seen) → WritesText sink text (Some fault) calls → Did calls s t → IsCounted fault s t
counters_counted sink text fault calls s t (inl p) did = let no : Some fault ≡ None = p.0 in absurd cc
counters_counted sink text fault calls s t (inr p) did = counted_as fault (WriteFault (codes "-")) s t (some_same fault (WriteFault (codes "-")) p.0)
    (did_fail Writing (codes "-") (Write sink p.1.0 (calling.Failed (codes "-"))) (Write sink p.1.0 (calling.Failed (codes "-")) ∷ []) s t (inl refl) (refl, refl) (subst (λ (cs : List Call). Did cs s t) p.1.2 did))

-- a text that is due: a write of the output failed, or a read of the log; of what that holds no count speaks
due_counted : {ready : List Call → Type 0} (file : List ℕ) (logs : List ℕ) (came : List Call → List Item → Bool → Type 0) (sink : ℕ) (d : Due) (fault : ToolFault) (end : RunEnd TextEnding FileStop) (met : Met) (calls : List Call) (s t : Seen) → ((h : ℕ) → IsOneOf h logs → IsNamed h file s)
    → Some fault ≡ log_answer file end → Ran came (StopsOf logs t) ready (TextWritten sink d) (TextEnded sink d) (ERRORS ∷ sink ∷ []) end met calls → Did calls s t → IsCounted fault s t
due_counted file logs came sink d fault (ends.ByOutput endings.Whole) met calls s t known is r did = absurd cc
due_counted file logs came sink d fault (ends.ByOutput endings.Kept) met calls s t known is r did = absurd cc
due_counted file logs came sink d fault (ends.ByOutput (endings.Unwritten name)) met calls s t known is r did =
    let ended = r.ends.5 in
    let cause = ended.cause in
    counted_as fault (WriteFault name) s t (some_same fault (WriteFault name) is)
    (subst (λ (n : List ℕ). IsCounted (WriteFault n) s t) (sym ended.ends.0) (did_fail Writing d.name (Write sink cause.0 (calling.Failed d.name)) calls s t cause.1 (refl, refl) did))
due_counted file logs came sink d fault (ends.ByOutput endings.Unreported) met calls s t known is r did =
    let cause = (r.ends.5).cause in
    counted_as fault (WriteFault (codes "stderr")) s t (some_same fault (WriteFault (codes "stderr")) is) (did_fail Writing (codes "stderr") (Write ERRORS cause.0 (calling.Failed (codes "stderr"))) calls s t cause.1 (refl, refl) did)
due_counted file [] came sink d fault (ends.BySource why) met calls s t known is r did = absurd r.ends.1
due_counted file (h ∷ others) came sink d fault (ends.BySource stops.ReadFault) met calls s t known is r did =
    let failed = (r.ends.1).failed in
    let log = known h (inl refl) in
    counted_as fault (ReadFault file) s t (some_same fault (ReadFault file) is) (did_fail_each h failed.0 file calls s t log.given log.named failed.1 did)
due_counted file (h ∷ others) came sink d fault (ends.BySource (stops.NotALog at)) met calls s t known is r did = counted_as fault (NotALog file at) s t (some_same fault (NotALog file at) is) tt
due_counted file (h ∷ others) came sink d fault (ends.BySource (stops.Damaged at)) met calls s t known is r did = counted_as fault (Damaged file at) s t (some_same fault (Damaged file at) is) tt
due_counted file (h ∷ others) came sink d fault (ends.BySource stops.TooLarge) met calls s t known is r did = counted_as fault (TooLarge file most_bytes) s t (some_same fault (TooLarge file most_bytes) is) tt

-- the run of a job
run_counted : (b : Bool) (job : Job) (fault : ToolFault) (recorded : RunRecord) (found : List Found) (calls : List Call) (s t : Seen) → ((h : ℕ) → IsOneOf h (logs_of found) → IsNamed h (file_of job) s)
    → MatchBool b (PrintsCounters job (Some fault) recorded found calls) (PrintsGroups job t (Some fault) recorded found calls) → Did calls s t → IsCounted fault s t
run_counted true job fault recorded found calls s t known p did = counters_counted p.0 _ fault calls s t p.3.writes did
run_counted false job fault recorded found calls s t known p did = due_counted (file_of job) (logs_of found) (CameOf (logs_of found) job (listings_of found) recorded) p.1 (job_due job p.0 p.2) fault p.4.end p.4.met calls s t known p.4.answers p.4.ran did

-- ---- the work

-- a step stopped it
early_counted : (steps : List Step) (fault : ToolFault) (calls : List Call) (s t : Seen) → Stopped Passes Stops steps fault calls → Did calls s t → IsCounted fault s t
early_counted steps fault calls s t p did =
    let parts = did_apart p.first p.last s t (subst (λ (cs : List Call). Did cs s t) p.are did) in
    counted_within fault s parts.0 t t (did_counts p.first s parts.0 parts.1) (stops_counted p.step fault p.last parts.0 t p.stops parts.2) (did_counts [] t t refl)

work_counted : (stated : Result Command UsageFault) (fault : ToolFault) (recorded : RunRecord) (work : List Call) (s t : Seen) → HasStreams s → Works Passes Stops (StatedRan stated) alone_of Nothing (steps_of stated) t (Some fault) recorded work → Did work s t → IsCounted fault s t
work_counted stated fault recorded work s t streams (inl early) did = counted_as fault early.by s t (some_same fault early.by early.is) (early_counted (steps_of stated) early.by work s t early.stopped did)
work_counted (Err why) fault recorded work s t streams (inr ran) did = absurd ran.ran
work_counted (Ok (ForTool job)) fault recorded work s t streams (inr ran) did =
    let parts = did_apart ran.first ran.last s t (subst (λ (cs : List Call). Did cs s t) ran.are did) in
    counted_within fault s parts.0 t t (did_counts ran.first s parts.0 parts.1)
    (run_counted (is_counting job.tool) job fault recorded ran.found ran.last parts.0 t (λ h one. log_named (is_counting job.tool) (is_some job.file) job ran.found ran.first h s parts.0 refl refl streams ran.passed parts.1 one) ran.ran parts.2)
    (did_counts [] t t refl)
work_counted (Ok (ForConvert names)) fault recorded work s t streams (inr ran) did =
    let parts = did_apart ran.first ran.last s t (subst (λ (cs : List Call). Did cs s t) ran.are did) in
    let p = ran.ran in
    let known : (k : ℕ) → IsOneOf k (p.0 ∷ []) → IsNamed k names.input parts.0 =
    λ k one. subst (λ (i : ℕ). IsNamed i names.input parts.0) (sym (only_one k p.0 one)) (opened_first names ran.found ran.first p.0 p.1 p.2 s parts.0 streams p.3 ran.passed parts.1) in
    counted_within fault s parts.0 t t (did_counts ran.first s parts.0 parts.1)
    (due_counted names.input (p.0 ∷ []) (FileCame p.0) p.1 (units_due names.output) fault p.4.end p.4.met ran.last parts.0 t known p.4.answers p.4.ran parts.2)
    (did_counts [] t t refl)

-- the fault of an outcome is counted
pub fault_counted : (fault : ToolFault) (words : List (List ℕ)) (outcome : Outcome) (before now : Seen) → HasStreams before → IsFaithful words outcome before now → outcome.fault ≡ Some fault → IsCounted fault before now
fault_counted fault words outcome before now streams p is =
    let q = p.works in
    counted_within fault before before q.at now (did_counts [] before before refl)
    (work_counted (command_of words) fault outcome.run q.work before q.at streams (subst (λ (f : Option ToolFault). Works Passes Stops (StatedRan (command_of words)) alone_of Nothing (steps_of (command_of words)) q.at f outcome.run q.work) is q.works) q.did)
    (did_counts q.said q.at now q.told)
