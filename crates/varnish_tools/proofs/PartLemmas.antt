-- The steps of a job that passed, by parts, and what each part found.
use Rattle.std.specs.Bool.{MatchBool}
use Rattle.std.proofs.Common.{◌≡◌, ℕ, ◌+◌, ◌&&◌, Bool, true, false, if◌then◌else◌, List, [], ◌∷◌, ◌++◌, map, Some, Ok, refl, sym, ap, subst, ◌∙◌, append_assoc, inl, codes}
use Rattle.std.proofs.lemmas.List.{append-nil}
use Rattle.vio.specs.declared.world.TheConstants.{OUTPUT}
use Rattle.vio.specs.World.{Seen}
use Rattle.vio.specs.Touches.{Touches}
use Rattle.vio.specs.Calls.{AreWithin, Call, Did}
use Rattle.vio.specs.Steps.{Passed}
use Rattle.vio.specs.Streams.{IsMadeBy}
use Rattle.vio.proofs.CallLaws.{did_keep}
use Rattle.vio.proofs.CallLemmas.{did_apart}
use Rattle.vio.proofs.StepLemmas.{passed_one}
use Rattle.vio.proofs.TouchLemmas.{did_touch}
use Rattle.traffic_feed.specs.declared.listing.Listing.{Listing}
use Rattle.feed_files.specs.Feeds.{Feed, FeedPasses, FeedStops, feeds_from}
use Rattle.tool_words.specs.declared.command.Command.TheVariants.{ForTool}
use Rattle.tool_words.specs.declared.job.Job.{Job}
use Rattle.tool_words.specs.declared.job.QueryText.{QueryText}
use Rattle.vsl_file.specs.File.{file_header}
use Rattle.job_steps.specs.Appends.{IsStartBy}
use Rattle.job_steps.specs.Jobs.{appends_log, format_text, is_counting, write_of, writes_log}
use Rattle.job_steps.specs.Steps.{Step, TakeQuery, TakeFormat, ReadFeed, MakeSink, AppendLog, Found, FoundNone, FoundText, FoundListing, FoundSink, Passes, Stops, counter_steps, feed_steps, group_steps, input_steps, logs_of, opens_of, queries_from, sink_step, steps_of, word_steps}
use Rattle.job_steps.proofs.BegunLemmas.{read_create}
use Rattle.job_steps.proofs.GoodLemmas.{text_kept, text_told}
use Rattle.job_steps.proofs.TookLemmas.{opens_alone}
use Rattle.varnish_tools.specs.Texts.{AreTexts}
use Rattle.varnish_tools.proofs.FoundLemmas.{CountingSo, found_behind, found_counting}

-- ---- steps that passed, by parts

-- the first of some steps passed, and then the others
pub record PassedApart (xs ys : List Step) (found : List Found) (calls : List Call) : Type 0 where
  pub found_first : List Found
  pub found_last : List Found
  pub first : List Call
  pub last : List Call
  pub found_are : found ≡ found_first ++ found_last
  pub are : calls ≡ first ++ last
  pub passed_first : Passed Passes Stops xs found_first first
  pub passed_last : Passed Passes Stops ys found_last last

pub passed_apart : (xs ys : List Step) (found : List Found) (calls : List Call) → Passed Passes Stops (xs ++ ys) found calls → PassedApart xs ys found calls
passed_apart [] ys found calls p = record { found_first = []; found_last = found; first = []; last = calls; found_are = refl; are = refl; passed_first = refl; passed_last = p }
passed_apart (x ∷ xs) ys [] calls p = absurd p
passed_apart (x ∷ xs) ys (u ∷ us) calls p =
    let q = passed_apart xs ys us p.1 p.4 in
    record {
      found_first = u ∷ q.found_first;
      found_last = q.found_last;
      first = p.0 ++ q.first;
      last = q.last;
      found_are = ap (λ (vs : List Found). u ∷ vs) q.found_are;
      are = p.2 ∙ ap (λ (cs : List Call). p.0 ++ cs) q.are ∙ sym (append_assoc p.0 q.first q.last);
      passed_first = (p.0, q.first, refl, p.3, q.passed_first);
      passed_last = q.passed_last;
    }

-- one step passed
pub passed_alone : (x : Step) (found : List Found) (calls : List Call) → Passed Passes Stops (x ∷ []) found calls → (u : Found) × (found ≡ u ∷ []) × Passes x u calls
passed_alone x [] calls p = absurd p
passed_alone x (u ∷ []) calls p = (u, refl, subst (λ (cs : List Call). Passes x u cs) (sym (p.2 ∙ ap (λ (cs : List Call). p.0 ++ cs) p.4 ∙ append-nil p.0)) p.3)
passed_alone x (u ∷ v ∷ us) calls p = absurd p.4

-- ---- what feeds and queries found

-- the steps of feeds found their listings, and read them so
pub feeds_found : (reclen seg : ℕ) (feeds : List Feed) (found : List Found) (calls : List Call) → Passed Passes Stops (map (ReadFeed reclen seg) feeds) found calls
    → (listings : List Listing) × (found ≡ map FoundListing listings) × Passed (FeedPasses reclen seg) FeedStops feeds listings calls
feeds_found reclen seg [] [] calls p = ([], refl, p)
feeds_found reclen seg [] (u ∷ us) calls p = absurd p
feeds_found reclen seg (feed ∷ feeds) [] calls p = absurd p
feeds_found reclen seg (feed ∷ feeds) (u ∷ us) calls p =
    let rest = feeds_found reclen seg feeds us p.1 p.4 in (p.3.0 ∷ rest.0, (λ i. p.3.1 i ∷ rest.1 i), (p.0, p.1, p.2, p.3.2, rest.2))

-- texts that are told behind calls that keep files are told before them
texts_before : (s t : Seen) (queries : List QueryText) (texts : List (List ℕ)) → ((n bytes : List ℕ) → s.held n ≡ Some bytes → t.held n ≡ Some bytes) → AreTexts t queries texts → AreTexts s queries texts
texts_before s t [] [] keeps p = p
texts_before s t (query ∷ queries) (text ∷ texts) keeps p = ((λ told is. p.0 told (text_kept query.file query.text query.text told s t keeps is)), texts_before s t queries texts keeps p.1)
texts_before s t [] (text ∷ texts) keeps p = absurd p
texts_before s t (query ∷ queries) [] keeps p = absurd p

-- the steps of queries found their texts, which are the ones that are told
texts_found : (caseless : Bool) (n : ℕ) (queries : List QueryText) (found : List Found) (calls : List Call) (s t : Seen) → Passed Passes Stops (queries_from caseless n queries) found calls → Did calls s t
    → (texts : List (List ℕ)) × (found ≡ map FoundText texts) × AreTexts s queries texts
texts_found caseless n [] [] calls s t p did = ([], refl, tt)
texts_found caseless n [] (u ∷ us) calls s t p did = absurd p
texts_found caseless n (query ∷ queries) [] calls s t p did = absurd p
texts_found caseless n (query ∷ queries) (u ∷ us) calls s t p did =
    let step = TakeQuery caseless n query ∷ [] in
    let parts = did_apart p.0 p.1 s t (subst (λ (cs : List Call). Did cs s t) p.2 did) in
    let rest = texts_found caseless (n + 1) queries us p.1 parts.0 t p.4 parts.2 in
    let opens = opens_alone step (u ∷ []) p.0 refl (passed_one Passes Stops (TakeQuery caseless n query) u p.0 p.3) in
    let later = texts_before s parts.0 queries rest.0 (λ name bytes told. did_keep (opens_of step) p.0 s parts.0 name bytes opens parts.1 told) rest.2 in
    (p.3.0 ∷ rest.0, (λ i. p.3.1 i ∷ rest.1 i), ((λ told is. text_told query.file query.text query.text told p.3.0 p.0 s parts.0 is parts.1 p.3.2), later))

-- ---- the steps of a job that prints groups

-- those before its input
abbrev pub early : Job → List Step
early job = word_steps job ++ (queries_from job.caseless 0 job.queries ++ TakeFormat job.tool (format_text job) ∷ [])

-- they found the texts of its queries
early_found : (job : Job) (found : List Found) (calls : List Call) (s t : Seen) → Passed Passes Stops (early job) found calls → Did calls s t
    → (texts : List (List ℕ)) × (found ≡ found_behind (map FoundText texts ++ FoundNone ∷ [])) × AreTexts s job.queries texts
early_found job [] calls s t p did = absurd p
early_found job (u ∷ us) calls s t p did =
    let a = passed_apart (queries_from job.caseless 0 job.queries) (TakeFormat job.tool (format_text job) ∷ []) us p.1 p.4 in
    let one = passed_alone (TakeFormat job.tool (format_text job)) a.found_last a.last a.passed_last in
    let are : calls ≡ a.first ++ a.last = p.2 ∙ ap (λ (cs : List Call). cs ++ p.1) p.3.1 ∙ a.are in
    let parts = did_apart a.first a.last s t (subst (λ (cs : List Call). Did cs s t) are did) in
    let q = texts_found job.caseless 0 job.queries a.found_first a.first s parts.0 a.passed_first parts.1 in
    let last : a.found_last ≡ FoundNone ∷ [] = one.1 ∙ ap (λ (v : Found). v ∷ []) one.2.0 in
    let us_are : us ≡ map FoundText q.0 ++ FoundNone ∷ [] = a.found_are ∙ (λ i. q.1 i ++ last i) in
    (q.0, (λ i. p.3.0 i ∷ us_are i), q.2)

-- what a job writes was made under this name, and then perhaps looked at
pub record MadeParts (append : Bool) (name : List ℕ) (sink : ℕ) (empty : Bool) (s t : Seen) : Type 0 where
  pub own : List Call
  pub is_made : IsMadeBy append name sink empty own
  pub mid : Seen
  pub did_own : Did own s mid
  pub looked : List Call
  pub opens : AreWithin [] [] (name ∷ []) [] looked
  pub did_looked : Did looked mid t

looked_opens : (empty : Bool) (name : List ℕ) (looked : List Call) → MatchBool empty (looked ≡ []) (IsStartBy name file_header looked) → AreWithin [] [] (name ∷ []) [] looked
looked_opens true name looked p = rw p tt
looked_opens false name looked p = rw p.2 (inl refl, (inl refl, tt))

and_later : (a b : Bool) → (a && b) ≡ true → b ≡ true
and_later true b p = p
and_later false b p = absurd cc

made_parts : (b : Bool) (job : Job) (u : Found) (calls : List Call) (s t : Seen) → appends_log job ≡ b → Passes (if b then AppendLog (write_of job) else MakeSink job.append (write_of job)) u calls → Did calls s t
    → (h : ℕ) × (empty : Bool) × (u ≡ FoundSink h empty) × MadeParts job.append (write_of job) h empty s t
made_parts true job u calls s t appends p did =
    let q = p.3 in
    let parts = did_apart q.0 q.1 s t (subst (λ (cs : List Call). Did cs s t) q.2 did) in
    let is_made = subst (λ (append : Bool). IsMadeBy append (write_of job) p.0 p.1 q.0) (sym (and_later (writes_log job) job.append appends)) q.3 in
    (p.0, p.1, p.2, record { own = q.0; is_made = is_made; mid = parts.0; did_own = parts.1; looked = q.1; opens = looked_opens p.1 (write_of job) q.1 q.4; did_looked = parts.2 })
made_parts false job u calls s t appends p did = (p.0, p.1, p.2, record { own = calls; is_made = p.3; mid = t; did_own = did; looked = []; opens = tt; did_looked = refl })

-- they passed, by parts: the texts of its queries, what its input found, and what it writes, with the calls of each
pub record GroupParts (job : Job) (found : List Found) (s t : Seen) : Type 0 where
  pub texts : List (List ℕ)
  pub are_texts : AreTexts s job.queries texts
  pub inputs : List Found
  pub sink : ℕ
  pub empty : Bool
  pub are : found ≡ found_behind (map FoundText texts ++ (FoundNone ∷ []) ++ inputs ++ FoundSink sink empty ∷ [])
  pub before : List Found
  pub first : List Call
  pub mid : Seen
  pub passed : Passed Passes Stops (early job) before first
  pub did : Did first s mid
  pub own : List Call
  pub at : Seen
  pub passed_own : Passed Passes Stops (input_steps job) inputs own
  pub did_own : Did own mid at
  pub touches : Touches [] [] [] s at
  pub last : List Call
  pub passed_last : Passed Passes Stops (sink_step job ∷ []) (FoundSink sink empty ∷ []) last
  pub did_last : Did last at t
  pub out : MadeParts job.append (write_of job) sink empty at t

pub group_parts : (job : Job) (found : List Found) (calls : List Call) (s t : Seen) → is_counting job.tool ≡ false → Passed Passes Stops (steps_of (Ok (ForTool job))) found calls → Did calls s t → GroupParts job found s t
group_parts job found calls s t groups passed did =
    let reading = early job ++ input_steps job in
    let whole : Passed Passes Stops (word_steps job ++ group_steps job) found calls = subst (λ (b : Bool). Passed Passes Stops (word_steps job ++ (if b then counter_steps job else group_steps job)) found calls) groups passed in
    let a = passed_apart reading (sink_step job ∷ []) found calls whole in
    let b = passed_apart (early job) (input_steps job) a.found_first a.first a.passed_first in
    let one = passed_alone (sink_step job) a.found_last a.last a.passed_last in
    let later = did_apart a.first a.last s t (subst (λ (cs : List Call). Did cs s t) a.are did) in
    let parts = did_apart b.first b.last s later.0 (subst (λ (cs : List Call). Did cs s later.0) b.are later.1) in
    let q = early_found job b.found_first b.first s parts.0 b.passed_first parts.1 in
    let read : a.found_first ≡ found_behind (map FoundText q.0 ++ FoundNone ∷ []) ++ b.found_last = b.found_are ∙ ap (λ (us : List Found). us ++ b.found_last) q.1 in
    let made = made_parts (appends_log job) job one.0 a.last later.0 t refl one.2 later.2 in
    let last : a.found_last ≡ FoundSink made.0 made.1 ∷ [] = one.1 ∙ ap (λ (u : Found). u ∷ []) made.2 in
    record {
      texts = q.0;
      are_texts = q.2;
      inputs = b.found_last;
      sink = made.0;
      empty = made.1;
      are = a.found_are ∙ (λ i. read i ++ last i);
      before = b.found_first;
      first = b.first;
      mid = parts.0;
      passed = b.passed_first;
      did = parts.1;
      own = b.last;
      at = later.0;
      passed_own = b.passed_last;
      did_own = parts.2;
      touches = did_touch [] [] (opens_of reading) [] a.first s later.0 (opens_alone reading a.found_first a.first (read_create job) a.passed_first).0 later.1;
      last = a.last;
      passed_last = subst (λ (us : List Found). Passed Passes Stops (sink_step job ∷ []) us a.last) last a.passed_last;
      did_last = later.2;
      out = made.3;
    }

-- ---- the steps of counters

-- they passed, by parts: the listings that they found, with the calls by which they were read; what they write is standard output
pub record CounterParts (job : Job) (found : List Found) (s t : Seen) : Type 0 where
  pub listings : List Listing
  pub empty : Bool
  pub so : CountingSo found listings OUTPUT empty
  pub own : List Call
  pub at : Seen
  pub read : Passed (FeedPasses job.reclen job.seg) FeedStops (feeds_from 0 job.feeds) listings own
  pub did : Did own s at

pub counter_parts : (job : Job) (found : List Found) (calls : List Call) (s t : Seen) → is_counting job.tool ≡ true → Passed Passes Stops (steps_of (Ok (ForTool job))) found calls → Did calls s t → CounterParts job found s t
counter_parts job [] calls s t counts p did = absurd p
counter_parts job (u ∷ us) calls s t counts p did =
    let later : Passed Passes Stops (counter_steps job) us p.1 = subst (λ (b : Bool). Passed Passes Stops (if b then counter_steps job else group_steps job) us p.1) counts p.4 in
    let a = passed_apart (feed_steps job) (MakeSink false (codes "-") ∷ []) us p.1 later in
    let fed = feeds_found job.reclen job.seg (feeds_from 0 job.feeds) a.found_first a.first a.passed_first in
    let one = passed_alone (MakeSink false (codes "-")) a.found_last a.last a.passed_last in
    let us_are : us ≡ map FoundListing fed.0 ++ FoundSink one.2.0 one.2.1 ∷ [] = a.found_are ∙ (λ i. fed.1 i ++ (one.1 ∙ ap (λ (v : Found). v ∷ []) one.2.2) i) in
    let are : calls ≡ a.first ++ a.last = p.2 ∙ ap (λ (cs : List Call). cs ++ p.1) p.3.1 ∙ a.are in
    let parts = did_apart a.first a.last s t (subst (λ (cs : List Call). Did cs s t) are did) in
    record {
      listings = fed.0;
      empty = one.2.1;
      so = subst (λ (h : ℕ). CountingSo (u ∷ us) fed.0 h one.2.1) one.2.3.0 (found_counting fed.0 (u ∷ us) one.2.0 one.2.1 (λ i. p.3.0 i ∷ us_are i));
      own = a.first;
      at = parts.0;
      read = fed.2;
      did = parts.1;
    }
