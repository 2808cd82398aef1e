-- What came of a log, and of feeds.
use Rattle.std.proofs.Common.{◌≡◌, ℕ, Bool, true, false, List, [], ◌∷◌, ◌++◌, refl, sym, subst, ◌∙◌}
use Rattle.std.proofs.lemmas.List.{append-nil}
use Rattle.log_model.specs.Interleaving.{IsInterleaving}
use Rattle.vio.specs.Calls.{Call}
use Rattle.ring_layout.specs.declared.item.Item.{Item}
use Rattle.ring_layout.specs.History.{IsReadHistory}
use Rattle.ring_layout.specs.Items.{items_of}
use Rattle.vsl_record.specs.Words.{unit_words}
use Rattle.log_ring.specs.Closed.{ClosedState}
use Rattle.live_run.specs.Runs.{LiveBegan, LiveCame, feeds_of}
use Rattle.traffic_feed.specs.declared.listing.Listing.{Listing}
use Rattle.run_sources.specs.declared.file_items.FileItems.{FileItems}
use Rattle.run_sources.specs.declared.feed_items.FeedItems.{FeedItems}
use Rattle.run_sources.specs.Sources.{FileGave, FileBegins, FeedsGave, FeedsBegan}
use Rattle.run_sources.proofs.FileLemmas.{file_came, came_begins}
use Rattle.tool_words.specs.declared.job.Job.{Job}
use Rattle.job_steps.specs.Jobs.{is_on_threads, units_of, with_made}
use Rattle.job_runs.specs.declared.record.RunRecord.{RunRecord}
use Rattle.job_runs.specs.declared.record.RunRecord.TheVariants.{Closed}
use Rattle.job_runs.specs.Sources.{FedCame, FeedsCame, LogBegan}
use Rattle.job_runs.specs.inside.Outputs.{IsFed}

-- ---- a log

pub log_began : (start now : FileItems) (calls : List Call) (met : List Item) (all : Bool) → FileGave start now calls met all → LogBegan start.reader.handle calls met all
log_began start now calls met all p =
    let came = file_came start now calls met all p in record { begins = came_begins start.reader.handle calls met all came; whole = λ e. (came.units, came.are, came.whole e) }

pub log_late : (h : ℕ) (calls : List Call) (met : List Item) (all : Bool) → LogBegan h calls met all → LogBegan h calls met false
log_late h calls met all p = record { begins = p.begins; whole = λ e. absurd cc }

pub log_lacked : (h : ℕ) (calls : List Call) (met : List Item) → FileBegins h calls met → LogBegan h calls met false
log_lacked h calls met p = record { begins = p; whole = λ e. absurd cc }

-- ---- feeds

fed_came : (job : Job) (listings : List Listing) (feeds : FeedItems) (met : List Item) (all : Bool) → (fed : IsFed job listings feeds) → (stated : is_on_threads job ≡ false) → (rest : List Item) → items_of fed.history ≡ met ++ rest → (all ≡ true → rest ≡ []) → FedCame job listings met all
fed_came job listings feeds met all fed stated rest parts whole = record {
  log = fed.log;
  history = fed.history;
  fed = fed.fed;
  rest = rest;
  parts = parts;
  whole = λ e. (whole e, (fed.fed.turns stated).1);
}

pub feeds_came : (job : Job) (listings : List Listing) (start now : FeedItems) (met : List Item) (all : Bool) → IsFed job listings start → is_on_threads job ≡ false → FeedsGave start now met all → FedCame job listings met all
feeds_came job listings start now met all fed stated p = let came = p.came (items_of fed.history) fed.comes in fed_came job listings start met all fed stated came.0 came.1 came.3

-- nothing is on threads and in a stated order
pub never_both : (b : Bool) → b ≡ false → b ≡ true → ⊥
never_both b stated threads = let no : false ≡ true = sym stated ∙ threads in cc

-- no ring is recorded of a stated order
pub stated_came : (job : Job) (listings : List Listing) (recorded : RunRecord) (met : List Item) (all : Bool) → is_on_threads job ≡ false → FedCame job listings met all → FeedsCame job listings recorded met all
stated_came job listings recorded met all stated p = record { came = p; ring = λ threads. absurd (never_both (is_on_threads job) stated threads) }

-- what came of a ring that threads share, which is recorded
pub live_came : (job : Job) (listings made : List Listing) (seg : ℕ) (ring : ClosedState) (recorded : RunRecord) (met : List Item) (all : Bool) → is_on_threads job ≡ true → made ≡ with_made job listings → seg ≡ job.seg → recorded ≡ Closed ring → LiveCame seg (feeds_of made) ring met all
    → FeedsCame job listings recorded met all
live_came job listings made seg ring recorded met all threads made_is seg_is is p = record {
  came = record {
    log = ring.log;
    history = p.history;
    fed = record {
      turns = λ stated. absurd (never_both (is_on_threads job) stated threads);
      interleaved = subst (λ (ls : List Listing). IsInterleaving ring.log (units_of ls)) made_is p.interleaved;
      read = subst (λ (k : ℕ). IsReadHistory unit_words k ring.log p.history) seg_is p.read;
      adds_up = p.adds_up;
    };
    rest = [];
    parts = p.are ∙ sym (append-nil met);
    whole = λ e. (refl, p.tail e);
  };
  ring = λ on. (refl, record { ring = ring; is = is; log_is = refl; only = p.only });
}

-- what began to come of it before there was no memory
pub live_began : (job : Job) (listings made : List Listing) (seg : ℕ) (met : List Item) (all : Bool) → is_on_threads job ≡ true → made ≡ with_made job listings → seg ≡ job.seg → LiveBegan seg (feeds_of made) met all → FedCame job listings met all
live_began job listings made seg met all threads made_is seg_is p = record {
  log = p.log;
  history = p.history;
  fed = record {
    turns = λ stated. absurd (never_both (is_on_threads job) stated threads);
    interleaved = subst (λ (ls : List Listing). IsInterleaving p.log (units_of ls)) made_is p.interleaved;
    read = subst (λ (k : ℕ). IsReadHistory unit_words k p.log p.history) seg_is p.read;
    adds_up = p.adds_up;
  };
  rest = p.rest;
  parts = p.parts;
  whole = p.whole;
}

pub feeds_late : (job : Job) (listings : List Listing) (met : List Item) (all : Bool) → FedCame job listings met all → FedCame job listings met false
feeds_late job listings met all p =
    record { log = p.log; history = p.history; fed = p.fed; rest = p.rest; parts = p.parts; whole = λ e. absurd cc }

pub feeds_lacked : (job : Job) (listings : List Listing) (start : FeedItems) (met : List Item) → IsFed job listings start → is_on_threads job ≡ false → FeedsBegan start met → FedCame job listings met false
feeds_lacked job listings start met fed stated p = let came = p (items_of fed.history) fed.comes in fed_came job listings start met false fed stated came.0 came.1 (λ e. absurd cc)
