-- Feeds that fit in the ring of a job can be replayed, and counted.
use Rattle.std.proofs.Common.{◌≡◌, ◌⊎◌, ℕ, ◌*◌, ◌<◌, ◌≤◌, ◌||◌, ◌&&◌, not, Bool, true, Option, Some, None, List, [], ◌∷◌, ◌++◌, length, length-append, get_or, refl, sym, ap, subst, inl, inr, arith}
use Rattle.std.specs.Prelude.{is_some}
use Rattle.tool_words.specs.Job.{is_nil}
use Rattle.std.specs.List.{All, AllByRecursion}
use Rattle.std.proofs.lemmas.List.Elements.{All-cons, recursion_from_All}
use Rattle.std.proofs.lemmas.List.Sums.{sum_by-cons}
use Rattle.log_model.specs.Interleaving.{IsInterleaving}
use Rattle.vsl_record.specs.Unit.{LogUnit, Log}
use Rattle.vsl_record.specs.Words.{unit_words}
use Rattle.ring_layout.specs.declared.history.HistoryItem.{HistoryItem}
use Rattle.ring_layout.specs.Places.{AreFit, IsSegment, last_tail}
use Rattle.ring_layout.specs.History.{IsReadHistory, ReachesTail}
use Rattle.traffic_feed.specs.declared.listing.Listing.{Listing}
use Rattle.traffic_feed.specs.Batches.{IsWithin}
use Rattle.traffic_feed.specs.Listing.{word_count}
use Rattle.ring_layout.specs.Items.{items_of}
use Rattle.ring_layout.proofs.NumberLemmas.{adds_up}
use Rattle.feed_schedule.specs.Schedule.{IsScheduled}
use Rattle.feed_schedule.specs.Replaying.{Represents, count_feed_words}
use Rattle.run_sources.specs.declared.feed_items.FeedItems.{FeedItems}
use Rattle.run_sources.specs.Sources.{owed}
use Rattle.tool_words.specs.declared.job.Job.{Job}
use Rattle.job_steps.specs.Fits.{FitsRing, HasFitFeeds}
use Rattle.job_steps.specs.Jobs.{is_on_threads, is_threads, order_seed, units_of, with_made, made_listings}
use Rattle.live_run.specs.Runs.{MayBePut}
use Rattle.job_runs.specs.inside.Outputs.{IsFed}

-- units that are within a segment are fit
are_fit : (seg : ℕ) (units : Log) → AllByRecursion (IsWithin seg) units → AreFit unit_words seg units
are_fit seg [] p = tt
are_fit seg (u ∷ units) p = ((omega arith, p.0.fits), are_fit seg units p.1)

-- at most one is made
made_few : (reclen seg : ℕ) (made : Option (ℕ × ℕ)) → length (made_listings reclen seg made) ≤ 1
made_few reclen seg None = omega arith
made_few reclen seg (Some made) = omega arith

-- a job has at most seventeen writers
pub writers_few : (job : Job) (listings all : List Listing) → length listings ≤ 16 → all ≡ with_made job listings → length all ≤ 17
writers_few job listings all few same = omega (arith, few, made_few job.reclen job.seg job.made, length-append listings (made_listings job.reclen job.seg job.made), ap length same)

-- ---- listings that fit in a ring

fit_by : (seg : ℕ) (listings : List Listing) → AllByRecursion (FitsRing seg) listings → All (AreFit unit_words seg) (units_of listings)
fit_by seg [] p = λ k d inside. absurd (omega (arith, inside))
fit_by seg (l ∷ listings) p = All-cons (AreFit unit_words seg) l.units (units_of listings) (are_fit seg l.units (recursion_from_All (IsWithin seg) l.units p.0.units)) (fit_by seg listings p.1)

-- their units are fit
pub units_fit : (seg : ℕ) (listings : List Listing) → All (FitsRing seg) listings → All (AreFit unit_words seg) (units_of listings)
units_fit seg listings p = fit_by seg listings (recursion_from_All (FitsRing seg) listings p)

words_by : (seg : ℕ) (listings : List Listing) → AllByRecursion (FitsRing seg) listings → count_feed_words (units_of listings) ≤ 33554433 * length listings
words_by seg [] p = omega arith
words_by seg (l ∷ listings) p = omega (arith, sum_by-cons word_count l.units (units_of listings), words_by seg listings p.1, p.0.few_words)

-- where they are few, a ring has place for them
pub words_few : (seg : ℕ) (listings : List Listing) → All (FitsRing seg) listings → length listings ≤ 17 → 2 * count_feed_words (units_of listings) ≤ last_tail
words_few seg listings p few = omega (arith, words_by seg listings (recursion_from_All (FitsRing seg) listings p), few)

-- and its units in segments of as many words
pub put_fit : (job : Job) (all : List Listing) (seg : ℕ) → seg ≡ job.seg → All (FitsRing job.seg) all → All (AreFit unit_words seg) (units_of all)
put_fit job all seg same fit = subst (λ (k : ℕ). All (AreFit unit_words k) (units_of all)) (sym same) (units_fit job.seg all fit)

-- a new replay is that of the listings in the order of a job, and what its laws say
abbrev EverySchedule : Type 0
EverySchedule = (seg : ℕ) (order : Option ℕ) (feeds : List Log) → IsSegment seg → All (AreFit unit_words seg) feeds → (log : Log) × (history : List (HistoryItem LogUnit)) × IsScheduled seg order feeds log history

abbrev IsInterleaved : Type 0
IsInterleaved = (seg : ℕ) (order : Option ℕ) (feeds : List Log) (log : Log) (history : List (HistoryItem LogUnit)) → IsScheduled seg order feeds log history → IsInterleaving log feeds

abbrev IsRead : Type 0
IsRead = (seg : ℕ) (order : Option ℕ) (feeds : List Log) (log : Log) (history : List (HistoryItem LogUnit)) → IsSegment seg → All (AreFit unit_words seg) feeds → IsScheduled seg order feeds log history → IsReadHistory unit_words seg log history

abbrev IsToTheTail : Type 0
IsToTheTail = (seg : ℕ) (order : Option ℕ) (feeds : List Log) (log : Log) (history : List (HistoryItem LogUnit)) → IsSegment seg → All (AreFit unit_words seg) feeds → IsScheduled seg order feeds log history → ReachesTail log history

pub new_replay : EverySchedule → IsInterleaved → IsRead → IsToTheTail → (job : Job) (listings all : List Listing) (feeds : FeedItems) → feeds.missed ≡ None → IsSegment job.seg → all ≡ with_made job listings → All (FitsRing job.seg) all
    → ((log : Log) (history : List (HistoryItem LogUnit)) → IsScheduled job.seg (order_seed job.order) (units_of all) log history → Represents feeds.replay (items_of history)) → IsFed job listings feeds
new_replay ends interleaved read tail job listings all feeds free segment made fit new =
    let seed = order_seed job.order in
    let fits : All (AreFit unit_words job.seg) (units_of (with_made job listings)) = subst (λ (ls : List Listing). All (AreFit unit_words job.seg) (units_of ls)) made (units_fit job.seg all fit) in
    let law = ends job.seg seed (units_of (with_made job listings)) segment fits in
    record {
      log = law.0;
      history = law.1;
      fed = record {
        turns = λ stated. (law.2, tail job.seg seed (units_of (with_made job listings)) law.0 law.1 segment fits law.2);
        interleaved = interleaved job.seg seed (units_of (with_made job listings)) law.0 law.1 law.2;
        read = read job.seg seed (units_of (with_made job listings)) law.0 law.1 segment fits law.2;
        adds_up = adds_up unit_words job.seg (omega (arith, segment.0)) law.0 law.1 (read job.seg seed (units_of (with_made job listings)) law.0 law.1 segment fits law.2);
      };
      comes = (items_of law.1, sym (ap (λ (missed : Option ℕ). owed missed ++ items_of law.1) free), new law.0 law.1 (subst (λ (ls : List Listing). IsScheduled job.seg seed (units_of ls) law.0 law.1) (sym made) law.2));
    }

-- ---- listings that workers may put

-- a job that has feeds, or made requests, has a listing
fed_by : (feeds : List (List ℕ)) (made : Option (ℕ × ℕ)) (b : Bool) → ((not (is_nil feeds) || is_some made) && b) ≡ true → (0 < length feeds) ⊎ (is_some made ≡ true)
fed_by [] None b e = absurd cc
fed_by [] (Some m) b e = inr refl
fed_by (feed ∷ feeds) made b e = inl (omega arith)

some_made : (feeds : List (List ℕ)) (made : Option (ℕ × ℕ)) (reclen seg : ℕ) (listings : List Listing) → ((0 < length feeds) ⊎ (is_some made ≡ true)) → length listings ≡ length feeds → 0 < length (listings ++ made_listings reclen seg made)
some_made feeds made reclen seg listings (inl some) same = omega (arith, some, same, length-append listings (made_listings reclen seg made))
some_made feeds None reclen seg listings (inr some) same = absurd cc
some_made feeds (Some m) reclen seg listings (inr some) same = omega (arith, length-append listings (made_listings reclen seg (Some m)))

pub may_be_put : (job : Job) (listings all : List Listing) (seg : ℕ) → seg ≡ job.seg → is_on_threads job ≡ true → HasFitFeeds job listings → all ≡ with_made job listings → All (FitsRing job.seg) all → MayBePut seg all
may_be_put job listings all seg same threads fit made fits = rw same (record {
  some = subst (λ (ls : List Listing). 0 < length ls) (sym made) (some_made job.feeds job.made job.reclen job.seg listings (fed_by job.feeds job.made (is_threads job.order) threads) fit.all);
  many = writers_few job listings all fit.few made;
  within = λ k d inside. let f : FitsRing job.seg (get_or all k d) = fits k d inside in f.units;
  words = words_few job.seg all fits (writers_few job listings all fit.few made);
  records = λ k d inside. let f : FitsRing job.seg (get_or all k d) = fits k d inside in f.few_records;
  cuts = λ k d inside. let f : FitsRing job.seg (get_or all k d) = fits k d inside in f.few_cuts;
})
