-- The counters of feeds, as they are printed.
use Rattle.std.proofs.Common.{◌≡◌, ◌⊎◌, ℕ, true, false, List, [], ◌∷◌, ◌++◌, map, slice_get, Option, Some, None, Result, Ok, Err, refl, sym, ap, subst, ◌∙◌, inl, inr, arith, codes}
use Rattle.std.specs.List.{range_with_len}
use Rattle.log_model.specs.Interleaving.{IsInterleaving}
use Rattle.std.specs.Result.{IfOk, OnErr}
use Rattle.log_model.specs.Prefix.{IsProperPrefix}
use Rattle.vio.specs.World.{Seen, Writing, Wrote, FaultsRose}
use Rattle.vio.specs.Writes.{WroteOn}
use Rattle.vio.specs.Calls.{Call, Called, Went, Failed, Write}
use Rattle.vsl_record.specs.Unit.{Log}
use Rattle.ring_plain.specs.Ring.{count_wraps}
use Rattle.log_ring.specs.Closed.{ClosedState}
use Rattle.counter_segments.specs.Sums.{counter_count}
use Rattle.traffic_feed.specs.declared.listing.Listing.{Listing}
use Rattle.traffic_feed.specs.Counted.{Cause, EachTag, EachRequest, EachFetch, EachCall, EachField, EachRecord, EachUnit, EachCut, EachWait, EachWrap, causes, counter_value, counter_values, wait_raise}
use Rattle.feed_schedule.specs.Unread.{IsUnread}
use Rattle.live_run.specs.Runs.{LiveCounted, live_value, live_values}
use Rattle.vsl_stat.specs.Report.{stat_text, stat_json, stat_list}
use Rattle.tool_words.specs.declared.job.Job.{Job}
use Rattle.tool_words.specs.declared.job.StatMode.{StatMode}
use Rattle.tool_words.specs.declared.job.StatMode.TheVariants as modes
use Rattle.job_steps.specs.declared.fault.ToolFault.{ToolFault}
use Rattle.job_steps.specs.declared.fault.ToolFault.TheVariants.{WriteFault}
use Rattle.job_steps.specs.Jobs.{is_on_threads, order_seed, units_of, with_made}
use Rattle.job_runs.specs.declared.record.Ran.{Ran}
use Rattle.job_runs.specs.declared.record.RunRecord.{RunRecord}
use Rattle.job_runs.specs.declared.record.RunRecord.TheVariants.{Closed}
use Rattle.job_runs.specs.Counters.{ArePut, CountsSo, RecordsWaits, WritesPartOf, WritesText, counters_text, printed, record_of}
use Rattle.job_runs.specs.Runs.{CountsShort}
use Rattle.job_runs.proofs.SourceLemmas.{never_both}

-- ---- where nobody waits

no_raise : (cause : Option Cause) → wait_raise cause 0 ≡ 0
no_raise None = refl
no_raise (Some (EachTag tag)) = refl
no_raise (Some EachRequest) = refl
no_raise (Some EachFetch) = refl
no_raise (Some (EachCall name)) = refl
no_raise (Some (EachField n)) = refl
no_raise (Some EachRecord) = refl
no_raise (Some EachUnit) = refl
no_raise (Some EachCut) = refl
no_raise (Some EachWait) = refl
no_raise (Some EachWrap) = refl

-- the counters come to what the listings and the units that wrapped raise them by
value_is : (listings : List Listing) (wraps which : ℕ) → counter_value which listings wraps ≡ live_value which listings 0 wraps
value_is listings wraps which = let none = no_raise (slice_get causes which) in omega (arith, none)

mapped : (f g : ℕ → ℕ) (xs : List ℕ) → ((x : ℕ) → f x ≡ g x) → map f xs ≡ map g xs
mapped f g [] same = refl
mapped f g (x ∷ xs) same = λ i. same x i ∷ mapped f g xs same i

values_are : (listings : List Listing) (wraps : ℕ) → counter_values listings wraps ≡ live_values listings 0 wraps
values_are listings wraps = mapped (λ (which : ℕ). counter_value which listings wraps) (λ (which : ℕ). live_value which listings 0 wraps) (range_with_len 0 counter_count) (value_is listings wraps)

-- ---- what was put

abbrev EveryWriting : Type 0
EveryWriting = (order : Option ℕ) (feeds : List Log) → (log : Log) × IsUnread order feeds log

abbrev IsInterleaved : Type 0
IsInterleaved = (order : Option ℕ) (feeds : List Log) (log : Log) → IsUnread order feeds log → IsInterleaving log feeds

-- listings were put, and these are their text and what is recorded
pub record IsToldOf (job : Job) (listings : List Listing) (recorded : RunRecord) (text : List ℕ) : Type 0 where
  pub log : Log
  pub waits : ℕ
  pub put : ArePut job listings log waits
  pub counted : is_on_threads job ≡ false → recorded ≡ record_of job
  pub ring : is_on_threads job ≡ true → RecordsWaits recorded log waits
  pub text_is : text ≡ counters_text job listings log waits

-- in the order that a job states
pub stated_told : EveryWriting → IsInterleaved → (job : Job) (listings all : List Listing) (seg : ℕ) (values text : List ℕ) (recorded : RunRecord) → is_on_threads job ≡ false → all ≡ with_made job listings → seg ≡ job.seg → recorded ≡ record_of job
    → ((log : Log) → IsUnread (order_seed job.order) (units_of all) log → values ≡ counter_values all (count_wraps seg log)) → text ≡ printed job.stat job.globs values → IsToldOf job listings recorded text
stated_told ends interleaved job listings all seg values text recorded stated made seg_is counted come is =
    let feeds = units_of (with_made job listings) in
    let law = ends (order_seed job.order) feeds in
    let comes : values ≡ counter_values (with_made job listings) (count_wraps job.seg law.0) =
    subst (λ (k : ℕ). values ≡ counter_values (with_made job listings) (count_wraps k law.0)) seg_is (subst (λ (ls : List Listing). IsUnread (order_seed job.order) (units_of ls) law.0 → values ≡ counter_values ls (count_wraps seg law.0)) made (come law.0) law.1) in
    record {
      log = law.0;
      waits = 0;
      put = record { turns = λ e. (law.1, refl); interleaved = interleaved (order_seed job.order) feeds law.0 law.1; alone = λ e. refl };
      counted = λ e. counted;
      ring = λ threads. absurd (never_both (is_on_threads job) stated threads);
      text_is = is ∙ ap (λ (vs : List ℕ). printed job.stat job.globs vs) (comes ∙ values_are (with_made job listings) (count_wraps job.seg law.0));
    }

-- on threads
pub live_told : (job : Job) (listings all : List Listing) (seg : ℕ) (ring : ClosedState) (values text : List ℕ) (recorded : RunRecord) → is_on_threads job ≡ true → all ≡ with_made job listings → seg ≡ job.seg → recorded ≡ Closed ring → LiveCounted seg all ring values
    → text ≡ printed job.stat job.globs values → IsToldOf job listings recorded text
live_told job listings all seg ring values text recorded threads made seg_is is counted text_is =
    let p : LiveCounted job.seg (with_made job listings) ring values = subst (λ (k : ℕ). LiveCounted k (with_made job listings) ring values) seg_is (subst (λ (ls : List Listing). LiveCounted seg ls ring values) made counted) in
    record {
      log = ring.log;
      waits = p.waits;
      put = record { turns = λ stated. absurd (never_both (is_on_threads job) stated threads); interleaved = p.interleaved; alone = λ one. omega (arith, p.told.most, p.alone one) };
      counted = λ stated. absurd (never_both (is_on_threads job) stated threads);
      ring = λ on. record { ring = ring; is = is; log_is = refl; unread = p.unread; told = p.told };
      text_is = text_is ∙ ap (λ (vs : List ℕ). printed job.stat job.globs vs) p.values_are;
    }

-- ---- what was written

pub counts_so : (job : Job) (listings : List Listing) (text : List ℕ) (sink : ℕ) (fault : Option ToolFault) (recorded : RunRecord) (s t : Seen) → IsToldOf job listings recorded text → Called (WritesText sink text fault) s t → Called (CountsSo job listings sink fault recorded) s t
counts_so job listings text sink fault recorded s t told p = record {
  calls = p.calls;
  did = p.did;
  is = record { log = told.log; waits = told.waits; put = told.put; counted = told.counted; ring = told.ring; writes = subst (λ (x : List ℕ). WritesText sink x fault p.calls) told.text_is p.is };
}

short_part : (job : Job) (listings : List Listing) (text : List ℕ) (sink : ℕ) (recorded : RunRecord) (calls : List Call) → IsToldOf job listings recorded text → (calls ≡ []) ⊎ WritesPartOf sink text calls → CountsShort job listings sink calls
short_part job listings text sink recorded calls told (inl none) = inl none
short_part job listings text sink recorded calls told (inr p) = inr (told.log, told.waits, told.put, subst (λ (x : List ℕ). WritesPartOf sink x calls) told.text_is p)

pub counts_short : (job : Job) (listings : List Listing) (text : List ℕ) (sink : ℕ) (recorded : RunRecord) (s t : Seen) → IsToldOf job listings recorded text → Called (λ calls. (calls ≡ []) ⊎ WritesPartOf sink text calls) s t → Called (CountsShort job listings sink) s t
counts_short job listings text sink recorded s t told p = record { calls = p.calls; did = p.did; is = short_part job listings text sink recorded p.calls told p.is }

-- by a call that answers what was written, and what is recorded
pub counts_ran : {E : Type 0} (job : Job) (listings : List Listing) (text : List ℕ) (sink : ℕ) (run : RunRecord) (result : Result Ran E) (s t : Seen) → IsToldOf job listings run text → IfOk result (λ r. r.run ≡ run) → IfOk result (λ r. Called (WritesText sink text r.fault) s t)
    → IfOk result (λ r. Called (CountsSo job listings sink r.fault r.run) s t)
counts_ran job listings text sink run (Ok r) s t told same wrote = counts_so job listings text sink r.fault r.run s t (subst (λ (x : RunRecord). IsToldOf job listings x text) (sym same) told) wrote
counts_ran job listings text sink run (Err e) s t told same wrote = wrote

pub counts_lacked : {E : Type 0} (job : Job) (listings : List Listing) (text : List ℕ) (sink : ℕ) (run : RunRecord) (result : Result Ran E) (s t : Seen) → IsToldOf job listings run text → OnErr result (Called (λ calls. (calls ≡ []) ⊎ WritesPartOf sink text calls) s t) → OnErr result (Called (CountsShort job listings sink) s t)
counts_lacked job listings text sink run (Ok r) s t told short = short
counts_lacked job listings text sink run (Err e) s t told short = counts_short job listings text sink run s t told short

-- ---- a text

pub printed_list : (job : Job) (values before text : List ℕ) (globs : List (List ℕ)) → job.stat ≡ modes.List → globs ≡ job.globs → before ≡ [] → text ≡ before ++ stat_list globs → text ≡ printed job.stat job.globs values
printed_list job values before text globs mode same none is =
    is ∙ ap (λ (xs : List ℕ). xs ++ stat_list globs) none ∙ ap stat_list same ∙ sym (ap (λ (m : StatMode). printed m job.globs values) mode)

pub printed_text : (job : Job) (values before text : List ℕ) (globs : List (List ℕ)) → job.stat ≡ modes.Once → globs ≡ job.globs → before ≡ [] → text ≡ before ++ stat_text values globs → text ≡ printed job.stat job.globs values
printed_text job values before text globs mode same none is =
    is ∙ ap (λ (xs : List ℕ). xs ++ stat_text values globs) none ∙ ap (λ (gs : List (List ℕ)). stat_text values gs) same ∙ sym (ap (λ (m : StatMode). printed m job.globs values) mode)

pub printed_json : (job : Job) (values before text : List ℕ) (globs : List (List ℕ)) → job.stat ≡ modes.Json → globs ≡ job.globs → before ≡ [] → text ≡ before ++ stat_json values globs → text ≡ printed job.stat job.globs values
printed_json job values before text globs mode same none is =
    is ∙ ap (λ (xs : List ℕ). xs ++ stat_json values globs) none ∙ ap (λ (gs : List (List ℕ)). stat_json values gs) same ∙ sym (ap (λ (m : StatMode). printed m job.globs values) mode)

-- it was written
pub wrote_all : (sink : ℕ) (text : List ℕ) (s t : Seen) → Wrote sink text s t → Called (WritesText sink text None) s t
wrote_all sink text s t wrote = record { calls = Write sink text Went ∷ []; did = (t, (wrote, tt), refl); is = inl (refl, refl) }

pub wrote_failed : (sink : ℕ) (text : List ℕ) (fault : ToolFault) (s t : Seen) → fault ≡ WriteFault (codes "-") → s.names Writing sink (codes "-") ≡ true → WroteOn sink [] (λ part. IsProperPrefix part text) s t → FaultsRose Writing sink s t → Called (WritesText sink text (Some fault)) s t
wrote_failed sink text fault s t e named wrote rose = record {
  calls = Write sink wrote.added (Failed (codes "-")) ∷ [];
  did = (t, (wrote.wrote, rose.each (codes "-") named), refl);
  is = inr (ap (λ (f : ToolFault). Some f) e, (wrote.added, wrote.is, refl));
}

pub wrote_part : (sink : ℕ) (text : List ℕ) (s t : Seen) → WroteOn sink [] (λ part. IsProperPrefix part text) s t → Called (λ calls. (calls ≡ []) ⊎ WritesPartOf sink text calls) s t
wrote_part sink text s t wrote = record { calls = Write sink wrote.added Went ∷ []; did = (t, (wrote.wrote, tt), refl); is = inr (wrote.added, (wrote.is).prefix, refl) }
