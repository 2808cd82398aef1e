-- Only a call that failed stops steps that have what they need.
use Rattle.std.proofs.Common.{◌≡◌, ◌⊎◌, ℕ, ◌≤◌, ◌==◌, Bool, true, false, if◌then◌else◌, List, [], ◌∷◌, ◌++◌, length, length-append, take, take_at, Option, Some, None, option_map, Result, Ok, Err, refl, sym, ap, subst, ◌∙◌, inl, inr, arith, codes, bytes_eq}
use Rattle.std.specs.Bool.{MatchBool}
use Rattle.log_model.specs.Prefix.{IsPrefix}
use Rattle.vio.specs.declared.fault.NamedFault.{NamedFault}
use Rattle.vio.specs.declared.fault.NamedFault.TheVariants as named
use Rattle.vio.specs.World.{Seen, CallKind, Opening, Creating, Reading, begins_with}
use Rattle.vio.specs.Calls.{Went, MetEnd, Mark, Marks, Call, Create, Take, Refuse, Did, SomeFailed}
use Rattle.vio.specs.Calls as calling
use Rattle.vio.specs.Named.{IsReadBy, IsRefusedBy}
use Rattle.vio.specs.Steps.{Stopped}
use Rattle.vio.proofs.CallLemmas.{did_apart, some_behind}
use Rattle.vio.proofs.CallLaws.{did_keep}
use Rattle.vio.proofs.ReadLemmas.{told_large, told_read}
use Rattle.vio.proofs.TouchLemmas.{did_touch}
use Rattle.vsl_file.specs.File.{file_header}
use Rattle.raw_records.specs.Lines.{IsFirstBad}
use Rattle.traffic_feed.specs.declared.listing.Listing.{Listing}
use Rattle.query_parser.specs.Parsed.{first_fault}
use Rattle.feed_files.specs.declared.fault.FeedFault.{FeedFault}
use Rattle.feed_files.specs.declared.fault.FeedFault.TheVariants as feeds
use Rattle.feed_files.specs.Feeds.{Feed, FeedStops, IsFeed, most_feed_bytes}
use Rattle.feed_files.proofs.ContentLemmas.{NoneBad, Keeps}
use Rattle.tool_words.specs.declared.command.Command.{Command}
use Rattle.tool_words.specs.declared.command.Command.TheVariants.{ForTool, ForConvert}
use Rattle.tool_words.specs.declared.fault.UsageFault.{UsageFault}
use Rattle.tool_words.specs.declared.job.Job.{Job}
use Rattle.tool_words.specs.declared.job.QueryText.{QueryText}
use Rattle.job_steps.specs.declared.fault.ToolFault.{ToolFault}
use Rattle.job_steps.specs.declared.fault.ToolFault.TheVariants.{NoOpen}
use Rattle.job_steps.specs.Appends.{IsStart, LookStops}
use Rattle.job_steps.specs.Good.{IsGoodStep, AreGoodSteps}
use Rattle.job_steps.specs.Jobs.{is_counting}
use Rattle.job_steps.specs.Steps.{Step, RefuseWords, TakeRules, TakeQuery, TakeFormat, OpenLog, ReadFeed, MakeSink, AppendLog, Passes, Stops, most_query_bytes, feed_steps, input_steps, group_steps, counter_steps, sink_step, word_steps, steps_of, creates, creates_of, opens_of}
use Rattle.job_steps.proofs.TookLemmas.{opens_alone}
use Rattle.job_steps.proofs.BegunLemmas.{queries, format, read_create, counters_create}

-- ---- a file

-- a call that was refused failed
refuse_failed : (kind : CallKind) (name : List ℕ) (calls : List Call) → calls ≡ Refuse kind name ∷ [] → SomeFailed calls
refuse_failed kind name calls e = subst (λ (c : List Call). SomeFailed c) (sym e) (Refuse kind name, inl refl, refl)

-- a file that is told to hold no more than is read is refused by a call that failed
refused_failed : (limit : ℕ) (name held : List ℕ) (why : NamedFault) (calls : List Call) (s t : Seen) → s.held name ≡ Some held → length held ≤ limit → Did calls s t → IsRefusedBy limit name why calls → SomeFailed calls
refused_failed limit name held named.NoOpen calls s t told within did p = refuse_failed Opening name calls p
refused_failed limit name held named.Failed calls s t told within did p =
    subst (λ (c : List Call). SomeFailed c) (sym p.2) (Take p.0 p.1 (calling.Failed name), inr (inl refl), refl)
refused_failed limit name held named.TooLarge calls s t told within did p =
    let no : ⊥ = omega (arith, within, told_large limit name held calls s t p did told) in absurd no

-- ---- one step

-- the file of a query that is told to hold its text is refused by a call that failed
file_failed : (b : Bool) (name word held : List ℕ) (why : NamedFault) (calls : List Call) (s t : Seen) → b ≡ true → MatchBool b ((s.held name ≡ Some held) × (length held ≤ most_query_bytes)) (held ≡ word) → Did calls s t → IsRefusedBy most_query_bytes name why calls
    → SomeFailed calls
file_failed true name word held why calls s t file told did p = refused_failed most_query_bytes name held why calls s t told.0 told.1 did p
file_failed false name word held why calls s t file told did p = absurd cc

-- the text of a query that was read is the one that is told
pub text_told : (b : Bool) (name word held text : List ℕ) (calls : List Call) (s t : Seen) → MatchBool b ((s.held name ≡ Some held) × (length held ≤ most_query_bytes)) (held ≡ word) → Did calls s t
    → MatchBool b (IsReadBy most_query_bytes name text calls) ((text ≡ word) × (calls ≡ [])) → text ≡ held
text_told true name word held text calls s t told did p = told_read most_query_bytes name text held calls s t p did told.0
text_told false name word held text calls s t told did p = p.0 ∙ sym told

-- nothing is not something
none_some : {A : Type 0} (x : Option A) (a : A) → x ≡ None → x ≡ Some a → ⊥
none_some x a p q = let no : None ≡ Some a = sym p ∙ q in cc

query_failed : (caseless : Bool) (n : ℕ) (query : QueryText) (fault : ToolFault) (calls : List Call) (s t : Seen) → IsGoodStep s (TakeQuery caseless n query) → Did calls s t → Stops (TakeQuery caseless n query) fault calls → SomeFailed calls
query_failed caseless n query fault calls s t good did (inl p) = file_failed query.file query.text query.text good.0 p.1.0 calls s t p.0 good.1 did p.1.1
query_failed caseless n query fault calls s t good did (inr p) =
    let same = text_told query.file query.text query.text good.0 p.0 calls s t good.1 did p.2 in
    absurd (none_some (first_fault caseless good.0) p.1 good.2 (subst (λ (text : List ℕ). first_fault caseless text ≡ Some p.1) same p.3))

-- a feed that is told to hold a listing is refused by a call that failed
feed_failed : NoneBad → (reclen seg : ℕ) (feed : Feed) (bytes : List ℕ) (listing : Listing) (why : FeedFault) (calls : List Call) (s t : Seen) → s.held feed.name ≡ Some bytes → IsFeed reclen seg bytes listing → Did calls s t → FeedStops feed why calls → SomeFailed calls
feed_failed none reclen seg feed bytes listing (feeds.NoOpen name) calls s t told is did p = refused_failed most_feed_bytes feed.name bytes named.NoOpen calls s t told is.within did p.1
feed_failed none reclen seg feed bytes listing (feeds.ReadFault name) calls s t told is did p = refused_failed most_feed_bytes feed.name bytes named.Failed calls s t told is.within did p.1
feed_failed none reclen seg feed bytes listing (feeds.TooLarge name limit) calls s t told is did p = refused_failed most_feed_bytes feed.name bytes named.TooLarge calls s t told is.within did p.2
feed_failed none reclen seg feed bytes listing (feeds.BadListing number line) calls s t told is did p =
    let same = told_read most_feed_bytes feed.name p.1 bytes calls s t p.2 did told in
    absurd (none bytes reclen seg listing.units listing.cuts line is.is (subst (λ (xs : List ℕ). IsFirstBad xs line) same p.3))

-- ---- a log file that is appended to

-- first bytes of a file that begins with the header are the header
header_start : (h : ℕ) (start rest more : List ℕ) (mark : Mark) (s t : Seen) → IsStart start mark → Marks Reading h mark s t → t.left h ≡ Some rest → start ++ rest ≡ file_header ++ more → start ≡ file_header
header_start h start rest more Went s t is marks left e = sym (take_at start rest (length start) refl) ∙ ap (λ (xs : List ℕ). take (length start) xs) e ∙ take_at file_header more (length start) (sym is)
header_start h start rest more MetEnd s t is marks left e =
    let no : ⊥ = omega (arith, is, ap (λ (xs : List ℕ). length xs) e, ap (λ (xs : List ℕ). length xs) (marks rest left), length-append start rest, length-append file_header more) in absurd no
header_start h start rest more (calling.Failed name) s t is marks left e = absurd is
header_start h start rest more calling.FailedEach s t is marks left e = absurd is

-- a file that is told to have no bytes, or to begin with the header
abbrev pub TellsStart : List ℕ → Seen → Type 0
TellsStart name s = (bytes : List ℕ) × (begins_with true name s ≡ Some bytes) × ((bytes ≡ []) ⊎ IsPrefix file_header bytes)

-- it isn't refused by what was seen of it, but by a call that failed
look_failed : (name : List ℕ) (h : ℕ) (fault : ToolFault) (looked : List Call) (s t : Seen) → TellsStart name s → Did (Create true name h false ∷ looked) s t → LookStops name fault looked → SomeFailed (Create true name h false ∷ looked)
look_failed name h fault looked s t told did (inl p) = subst (λ (cs : List Call). SomeFailed (Create true name h false ∷ cs)) (sym p.0) (Refuse Opening name, inr (inl refl), refl)
look_failed name h fault looked s t told did (inr (inl p)) = subst (λ (cs : List Call). SomeFailed (Create true name h false ∷ cs)) (sym p.2) (Take p.0 p.1 (calling.Failed name), inr (inr (inl refl)), refl)
look_failed name h fault looked s t told did (inr (inr p)) =
    let q = p.1 in
    let did_all = subst (λ (cs : List Call). Did (Create true name h false ∷ cs) s t) q.2 did in
    let made = did_all.1 in let opened = did_all.2.1 in let read = did_all.2.2.1 in
    let lost = read.0.loses told.0 (opened.left ∙ made.held told.0 told.1) in
    elim told.2 [
      | inl none ↦ let no : false ≡ true = made.is_empty told.0 told.1 ∙ ap (λ (xs : List ℕ). length xs == 0) none in absurd cc
      | inr begins ↦ absurd (p.2 (header_start q.0 p.0 lost.0 begins.rest q.1 did_all.2.0 did_all.2.2.0 q.3 read.1 lost.2 (sym lost.1 ∙ begins.is)))
    ]

append_failed : (b : Bool) (name : List ℕ) (fault : ToolFault) (calls : List Call) (s t : Seen) → MatchBool b (Unit {0}) (TellsStart name s) → b ≡ false → Did calls s t
    → ((calls ≡ Refuse Creating name ∷ []) × (fault ≡ NoOpen name)) ⊎ ((h : ℕ) × (looked : List Call) × (calls ≡ Create true name h false ∷ looked) × LookStops name fault looked) → SomeFailed calls
append_failed true name fault calls s t told file did p = absurd cc
append_failed false name fault calls s t told file did (inl p) = refuse_failed Creating name calls p.0
append_failed false name fault calls s t told file did (inr p) =
    subst (λ (cs : List Call). SomeFailed cs) (sym p.2) (look_failed name p.0 fault p.1 s t told (subst (λ (cs : List Call). Did cs s t) p.2 did) p.3)

-- ---- each step

-- a step that has what it needs stops a job by a call that failed alone
step_failed : NoneBad → (step : Step) (fault : ToolFault) (calls : List Call) (s t : Seen) → IsGoodStep s step → Did calls s t → Stops step fault calls → SomeFailed calls
step_failed none (RefuseWords why) fault calls s t good did p = absurd good
step_failed none (TakeRules caseless texts) fault calls s t good did p = absurd (none_some _ p.1.0 good p.1.1)
step_failed none (TakeQuery caseless n query) fault calls s t good did p = query_failed caseless n query fault calls s t good did p
step_failed none (TakeFormat tool text) fault calls s t good did p = absurd (none_some _ fault good p.1)
step_failed none (OpenLog name) fault calls s t good did p = refuse_failed Opening name calls p.1
step_failed none (ReadFeed reclen seg feed) fault calls s t good did p = feed_failed none reclen seg feed good.0 good.1 p.0 calls s t good.2 good.3 did p.1
step_failed none (MakeSink append name) fault calls s t good did p = refuse_failed Creating name calls p.1
step_failed none (AppendLog name) fault calls s t good did p = append_failed (bytes_eq name (codes "-")) name fault calls s t good p.0 did p.1

-- ---- behind others

-- the text of a query stays told
pub text_kept : (b : Bool) (name word held : List ℕ) (s t : Seen) → Keeps s t → MatchBool b ((s.held name ≡ Some held) × (length held ≤ most_query_bytes)) (held ≡ word) → MatchBool b ((t.held name ≡ Some held) × (length held ≤ most_query_bytes)) (held ≡ word)
text_kept true name word held s t keeps told = (keeps name held told.0, told.1)
text_kept false name word held s t keeps told = told

-- what a file has when writing to it begins is what it had before calls that keep it
begins_still : (lacks append : Bool) (held kept : Option (List ℕ)) (first : List ℕ) → ((bytes : List ℕ) → held ≡ Some bytes → kept ≡ Some bytes) → (if lacks then Some [] else (if append then held else option_map (λ bytes. []) held)) ≡ Some first
    → (if lacks then Some [] else (if append then kept else option_map (λ bytes. []) kept)) ≡ Some first
begins_still true append held kept first keeps p = p
begins_still false true held kept first keeps p = keeps first p
begins_still false false (Some x) kept first keeps p = ap (λ (o : Option (List ℕ)). option_map (λ bytes. []) o) (keeps x refl) ∙ p
begins_still false false None kept first keeps p = absurd cc

pub begins_kept : (append : Bool) (name first : List ℕ) (s t : Seen) → t.lacks name ≡ s.lacks name → ((bytes : List ℕ) → s.held name ≡ Some bytes → t.held name ≡ Some bytes) → begins_with append name s ≡ Some first → begins_with append name t ≡ Some first
begins_kept append name first s t lacks keeps p =
    subst (λ (l : Bool). (if l then Some [] else (if append then t.held name else option_map (λ bytes. []) (t.held name))) ≡ Some first) (sym lacks) (begins_still (s.lacks name) append (s.held name) (t.held name) first keeps p)

-- what may be appended to still may
may_kept : (b : Bool) (name : List ℕ) (s t : Seen) → Keeps s t → t.lacks name ≡ s.lacks name → MatchBool b (Unit {0}) (TellsStart name s) → MatchBool b (Unit {0}) (TellsStart name t)
may_kept true name s t keeps lacks told = told
may_kept false name s t keeps lacks told = (told.0, begins_kept true name told.0 s t lacks (λ bytes held. keeps name bytes held) told.1, told.2)

-- a step still has what it needs
good_kept : (step : Step) (s t : Seen) → Keeps s t → ((name : List ℕ) → t.lacks name ≡ s.lacks name) → IsGoodStep s step → IsGoodStep t step
good_kept (RefuseWords why) s t keeps lacks good = good
good_kept (TakeRules caseless texts) s t keeps lacks good = good
good_kept (TakeQuery caseless n query) s t keeps lacks good = (good.0, text_kept query.file query.text query.text good.0 s t keeps good.1, good.2)
good_kept (TakeFormat tool text) s t keeps lacks good = good
good_kept (OpenLog name) s t keeps lacks good = good
good_kept (ReadFeed reclen seg feed) s t keeps lacks good = (good.0, good.1, keeps feed.name good.0 good.2, good.3)
good_kept (MakeSink append name) s t keeps lacks good = good
good_kept (AppendLog name) s t keeps lacks good = may_kept (bytes_eq name (codes "-")) name s t keeps (lacks name) good

-- one of several steps
good_at : (s : Seen) (earlier : List Step) (step : Step) (later : List Step) → AreGoodSteps s (earlier ++ step ∷ later) → IsGoodStep s step
good_at s [] step later good = good.0
good_at s (x ∷ earlier) step later good = good_at s earlier step later good.1

append_none : (xs ys : List (List ℕ)) → xs ++ ys ≡ [] → (xs ≡ []) × (ys ≡ [])
append_none [] ys e = (refl, e)
append_none (x ∷ xs) ys e = absurd cc

-- where no step but the last creates a file, none before one of them does
early_create : (earlier : List Step) (step : Step) (later first : List Step) (last : Step) → earlier ++ step ∷ later ≡ first ++ last ∷ [] → creates_of first ≡ [] → creates_of earlier ≡ []
early_create [] step later first last e none = refl
early_create (x ∷ earlier) step later [] last e none =
    let long : length (x ∷ (earlier ++ step ∷ later)) ≡ length (last ∷ []) = ap (λ (steps : List Step). length steps) e in
    let no : ⊥ = omega (arith, long, length-append earlier (step ∷ later)) in absurd no
early_create (x ∷ earlier) step later (y ∷ first) last e none =
    let same : x ≡ y = cc in let rest : earlier ++ step ∷ later ≡ first ++ last ∷ [] = cc in
    let parts = append_none (creates y) (creates_of first) none in
    (λ i. (ap creates same ∙ parts.0) i ++ early_create earlier step later first last rest parts.1 i)

-- steps of which the last alone creates a file
last_creates : NoneBad → (first : List Step) (last : Step) (fault : ToolFault) (calls : List Call) (s t : Seen) → creates_of first ≡ [] → AreGoodSteps s (first ++ last ∷ []) → Did calls s t → Stopped Passes Stops (first ++ last ∷ []) fault calls → SomeFailed calls
last_creates none first last fault calls s t alone good did p =
    let parts = did_apart p.first p.last s t (subst (λ (c : List Call). Did c s t) p.are did) in
    let opens = opens_alone p.earlier p.found p.first (early_create p.earlier p.step p.later first last (sym p.parts) alone) p.passed in
    let keeps : Keeps s parts.0 = λ name bytes told. did_keep (opens_of p.earlier) p.first s parts.0 name bytes opens parts.1 told in
    let touches = did_touch [] [] (opens_of p.earlier) [] p.first s parts.0 opens.0 parts.1 in
    let has = good_kept p.step s parts.0 keeps (λ name. touches.lacks name (λ none. none)) (good_at s p.earlier p.step p.later (subst (λ (steps : List Step). AreGoodSteps s steps) p.parts good)) in
    subst (λ (c : List Call). SomeFailed c) (sym p.are) (some_behind p.first p.last (step_failed none p.step fault p.last parts.0 t has parts.2 p.stops))

-- ---- the steps of a job

-- those of counters or of groups, behind those of the words
tool_pass : NoneBad → (b : Bool) (job : Job) (fault : ToolFault) (calls : List Call) (s t : Seen) → AreGoodSteps s (word_steps job ++ (if b then counter_steps job else group_steps job)) → Did calls s t
    → Stopped Passes Stops (word_steps job ++ (if b then counter_steps job else group_steps job)) fault calls → SomeFailed calls
tool_pass none true job fault calls s t good did p = last_creates none (word_steps job ++ feed_steps job) (MakeSink false (codes "-")) fault calls s t (counters_create job) good did p
tool_pass none false job fault calls s t good did p = last_creates none (word_steps job ++ (queries job ++ format job ++ input_steps job)) (sink_step job) fault calls s t (read_create job) good did p

-- only a call that failed stops the steps of words that have what they need
pub good_pass : NoneBad → (stated : Result Command UsageFault) (fault : ToolFault) (calls : List Call) (s t : Seen) → AreGoodSteps s (steps_of stated) → Did calls s t → Stopped Passes Stops (steps_of stated) fault calls → SomeFailed calls
good_pass none (Err why) fault calls s t good did p = absurd good.0
good_pass none (Ok (ForTool job)) fault calls s t good did p = tool_pass none (is_counting job.tool) job fault calls s t good did p
good_pass none (Ok (ForConvert names)) fault calls s t good did p = last_creates none (OpenLog names.input ∷ []) (MakeSink false names.output) fault calls s t refl good did p
