-- What a run met of a ring, once the ring is closed.
use Rattle.std.proofs.Common.{◌≡◌, ◌⊎◌, inl, inr, ℕ, Bool, true, false, List, [], ◌∷◌, ◌++◌, Result, Ok, Err, IfOk, OnErr, ◌<◌, map, ap, sym, refl, subst, ◌∙◌, arith}
use Rattle.std.specs.List.{AllByRecursion}
use Rattle.std.proofs.lemmas.List.{append-nil, same_from_push}
use Rattle.log_model.specs.Interleaving.{IsInterleaving}
use Rattle.log_model.specs.declared.fault.NoMemory.{NoMemory}
use Rattle.vio.specs.World.{Seen}
use Rattle.vio.specs.Calls.{Call}
use Rattle.vsl_record.specs.Unit.{Log}
use Rattle.vsl_record.specs.Words.{unit_words}
use Rattle.ring_layout.specs.declared.item.Item.{Item}
use Rattle.ring_layout.specs.declared.item.Item.TheVariants as items
use Rattle.ring_layout.specs.Items.{items_of}
use Rattle.ring_layout.specs.History.{IsReadHistory, ReachesTail, AddUp}
use Rattle.ring_layout.proofs.NumberLemmas.{adds_up}
use Rattle.log_ring.specs.Ring.{RingSet}
use Rattle.log_ring.specs.Writers.{WriterState, units_put}
use Rattle.log_ring.specs.Readers.{ReaderState, new_pass, history_taken}
use Rattle.log_ring.specs.Closed.{ClosedState, IsDoneWith, HasReached}
use Rattle.one_run.specs.declared.pass.RunEnd.{RunEnd}
use Rattle.one_run.specs.declared.pass.RunEnd.TheVariants as ends
use Rattle.one_run.specs.declared.pass.RunEnded.{RunEnded}
use Rattle.one_run.specs.declared.source.Never.{Never}
use Rattle.one_run.specs.Run.{MadeBut, Ran, RanShort, EndsBy}
use Rattle.one_run.proofs.RunLemmas.{made_so}
use Rattle.run_sources.specs.Live.{LiveGave, LiveStarved}
use Rattle.traffic_feed.specs.declared.listing.Listing.{Listing}
use Rattle.traffic_feed.specs.declared.feeding.Fed.{Fed}
use Rattle.traffic_feed.specs.Workers.{AllFed, listings_of}
use Rattle.live_run.specs.Runs.{MayBePut, LiveCame, LiveBegan, feeds_of}
use Rattle.live_run.specs.declared.opening.Opened.{Opened}
use Rattle.live_run.specs.inside.Opening.{IsOpened, lefts_of}
use Rattle.live_run.specs.inside.Reading.{HasRead}
use Rattle.live_run.proofs.WholeLemmas.{live_log}

-- a pass of which never anything is at hand gave what it gave until it is as it is
pub last_gave : (start now : ReaderState) (final : ReaderState) (met : List Item) (all : Bool) → LiveGave start now met all → (now ≡ final) ⊎ (false ≡ true) → LiveGave start final met all
last_gave start now final met all p (inl same) = subst (λ (s : ReaderState). LiveGave start s met all) same p
last_gave start now final met all p (inr hand) = absurd cc

-- ---- however a run ended, its pass is of the same ring

module _ {E : Type 0} (took printed : List Call → List Item → Type 0) (ended : E → List Call → List Item → List Item → Bool → Type 0) (starved : List Call → List Item → Bool → Type 0) (alone writes : List ℕ) (start now : ReaderState) where
  same_ended : (end : RunEnd E Never) (calls : List Call) (done last : List Item) (all : Bool) → EndsBy (λ cs met whole. LiveGave start now met whole) (λ fault cs met. ⊥) (λ before. ⊥) printed ended writes end calls done last all → now.ring ≡ start.ring
  same_ended (ends.ByOutput ending) calls done last all p = (p.4).same
  same_ended (ends.BySource fault) calls done last all p = absurd p.1

  same_short : (calls : List Call) (met : List Item) (all : Bool) → (LiveGave start now met all × starved calls met all) ⊎ ((LiveGave start now met all ⊎ LiveStarved start now met) × took calls met) → now.ring ≡ start.ring
  same_short calls met all (inl p) = (p.0).same
  same_short calls met all (inr (inl gave, prints)) = gave.same
  same_short calls met all (inr (inr lacking, prints)) = (lacking.2).same

  pub has_read : (result : Result (RunEnded E Never) NoMemory) (before after : Seen)
      → IfOk result (λ r. MadeBut alone false [] writes (Ran (λ calls met all. LiveGave start now met all) (λ fault calls met. ⊥) (λ before. ⊥) printed ended writes r.end r.met) before after)
      → OnErr result (MadeBut alone false [] writes (RanShort (λ calls met all. LiveGave start now met all) (λ calls met. LiveStarved start now met) took starved) before after)
      → HasRead alone writes took printed ended starved result start now before after
  has_read (Ok r) before after ran short = record { ring = same_ended r.end ran.calls (ran.is).done (ran.is).last (ran.is).all (ran.is).ends; ran = ran; short = short }
  has_read (Err e) before after ran short = record { ring = same_short short.calls (short.is).met (short.is).all (short.is).ends; ran = ran; short = short }

-- ---- what a run met is the history that its pass took

-- what the law of items says of a pass, and of a log in which it is done
abbrev pub AreHistory : RingSet → ReaderState → Log → Type 0
AreHistory ring pass log = (met : List Item) (all : Bool) → LiveGave (new_pass ring) pass met all → (met ≡ items_of (history_taken pass)) × IsReadHistory unit_words ring.seg log (history_taken pass) × (all ≡ true → ReachesTail log (history_taken pass))

-- a ring of this segment was closed with one reader, whose pass was new at the start; its log is an interleaving of the feeds
pub record IsClosedWith (seg : ℕ) (ring : RingSet) (start pass : ReaderState) (feeds : List Log) (closed : ClosedState) : Type 0 where
  pub seg_is : ring.seg ≡ seg
  pub fresh : start ≡ new_pass ring
  pub mixed : IsInterleaving closed.log feeds
  pub only : closed.histories ≡ history_taken pass ∷ []
  pub adds_up : AddUp closed.log (history_taken pass)
  pub are : AreHistory ring pass closed.log

-- what is known when a run was opened, its only pass was taken out, workers and the reader were done, and all was closed
pub closed_with : (seg : ℕ) (ls : List Listing) (opened : Opened) (fs : List Fed) (lefts : List WriterState) (popped readers : List ReaderState) (start pass : ReaderState) (closed : ClosedState) → 0 < seg → MayBePut seg ls → IsOpened seg 1 ls opened
    → AllFed opened.ring opened.counters (listings_of opened.workers.items) fs → lefts ≡ lefts_of fs → opened.readers.items ≡ popped ++ start ∷ [] → readers ≡ popped ++ pass ∷ []
    → IsInterleaving closed.log (map units_put lefts) → AllByRecursion (HasReached opened.ring.seg closed.log) lefts → closed.histories ≡ map history_taken readers → AllByRecursion (IsDoneWith opened.ring.seg closed.log) readers
    → ((ring : RingSet) (pass : ReaderState) (log : Log) (met : List Item) (all : Bool) → LiveGave (new_pass ring) pass met all → IsDoneWith ring.seg log pass → (met ≡ items_of (history_taken pass)) × IsReadHistory unit_words ring.seg log (history_taken pass) × (all ≡ true → ReachesTail log (history_taken pass)))
    → IsClosedWith seg opened.ring start pass (feeds_of ls) closed
closed_with seg ls opened fs lefts popped readers start pass closed some put is fed lefts_are popped_is pushed log found histories done law =
    let ring = opened.ring in
    let first = same_from_push popped [] start (new_pass ring) (sym popped_is ∙ is.readers_are) in
    let one : readers ≡ pass ∷ [] = pushed ∙ ap (λ (rs : List ReaderState). rs ++ pass ∷ []) first.0 in
    let last : IsDoneWith ring.seg closed.log pass = (subst (AllByRecursion (IsDoneWith ring.seg closed.log)) one done).0 in
    record {
      seg_is = is.seg_is;
      fresh = first.1;
      mixed = live_log ring opened.counters ls fs closed.log (omega (arith, is.seg_is)) (subst (λ (xs : List Listing). AllFed ring opened.counters xs fs) is.listings_are fed) (subst (λ (n : ℕ). MayBePut n ls) (sym is.seg_is) put)
          (subst (λ (ws : List WriterState). IsInterleaving closed.log (map units_put ws)) lefts_are log) (subst (AllByRecursion (HasReached ring.seg closed.log)) lefts_are found);
      only = histories ∙ ap (map history_taken) one;
      adds_up = adds_up unit_words ring.seg (omega (arith, is.seg_is)) closed.log (history_taken pass) last.history;
      are = λ met all gave. law ring pass closed.log met all gave last;
    }

module _ (seg : ℕ) (ring : RingSet) (start pass : ReaderState) (feeds : List Log) (closed : ClosedState) (with : IsClosedWith seg ring start pass feeds closed) where
  -- what the pass gave from its start on is its history
  given : (met : List Item) (all : Bool) → LiveGave start pass met all → (met ≡ items_of (history_taken pass)) × IsReadHistory unit_words seg closed.log (history_taken pass) × (all ≡ true → ReachesTail closed.log (history_taken pass))
  given met all gave =
      let h = with.are met all (subst (λ (s : ReaderState). LiveGave s pass met all) with.fresh gave) in
      (h.0, subst (λ (n : ℕ). IsReadHistory unit_words n closed.log (history_taken pass)) with.seg_is h.1, h.2)

  came_of : (met : List Item) (all : Bool) → LiveGave start pass met all → LiveCame seg feeds closed met all
  came_of met all gave = let h = given met all gave in record { interleaved = with.mixed; history = history_taken pass; only = with.only; read = h.1; adds_up = with.adds_up; are = sym h.0; tail = h.2 }

  began_gave : (met : List Item) (all : Bool) → LiveGave start pass met all → LiveBegan seg feeds met all
  began_gave met all gave = let h = given met all gave in
      record { log = closed.log; interleaved = with.mixed; history = history_taken pass; read = h.1; adds_up = with.adds_up; rest = []; parts = sym h.0 ∙ sym (append-nil met); whole = λ e. (refl, h.2 e) }

  began_starved : (met : List Item) → LiveStarved start pass met → LiveBegan seg feeds met false
  began_starved met lacking = let h = given (met ++ items.Unit lacking.0 ∷ []) false lacking.2 in
      record { log = closed.log; interleaved = with.mixed; history = history_taken pass; read = h.1; adds_up = with.adds_up; rest = items.Unit lacking.0 ∷ []; parts = sym h.0; whole = λ e. cc }

  module _ {E : Type 0} (took printed : List Call → List Item → Type 0) (ended : E → List Call → List Item → List Item → Bool → Type 0) (starved : List Call → List Item → Bool → Type 0) (alone writes : List ℕ) (before after : Seen) where
    ends_came : (end : RunEnd E Never) (calls : List Call) (done last : List Item) (all : Bool) → EndsBy (λ cs met whole. LiveGave start pass met whole) (λ fault cs met. ⊥) (λ before. ⊥) printed ended writes end calls done last all
        → EndsBy (λ cs. LiveCame seg feeds closed) (λ fault cs met. ⊥) (λ before. ⊥) printed ended writes end calls done last all
    ends_came (ends.ByOutput ending) calls done last all p = (p.0, p.1, p.2, p.3, came_of (done ++ last) all p.4, p.5)
    ends_came (ends.BySource fault) calls done last all p = absurd p.1

    short_by : (calls : List Call) (met : List Item) (all : Bool) → (LiveGave start pass met all × starved calls met all) ⊎ ((LiveGave start pass met all ⊎ LiveStarved start pass met) × took calls met)
        → RanShort (λ cs. LiveBegan seg feeds) (λ cs met. ⊥) took starved calls
    short_by calls met all (inl p) = record { met = met; all = all; ends = inl (began_gave met all p.0, p.1) }
    short_by calls met all (inr (inl gave, prints)) = record { met = met; all = all; ends = inr (inl (began_gave met all gave), prints) }
    short_by calls met all (inr (inr lacking, prints)) = record { met = met; all = false; ends = inr (inl (began_starved met lacking), prints) }

    -- a run that ended met all of what its pass took
    pub live_ran : (result : Result (RunEnded E Never) NoMemory) (r : RunEnded E Never) → result ≡ Ok r → HasRead alone writes took printed ended starved result start pass before after
        → MadeBut alone false [] writes (Ran (λ calls. LiveCame seg feeds closed) (λ fault calls met. ⊥) (λ before. ⊥) printed ended writes r.end r.met) before after
    live_ran result r was read =
        let made = (subst (λ (x : Result (RunEnded E Never) NoMemory). HasRead alone writes took printed ended starved x start pass before after) was read).ran in
        let is = made.is in
        made_so made (record { done = is.done; last = is.last; all = is.all; one = is.one; count = is.count; ends = ends_came r.end made.calls is.done is.last is.all is.ends; prompt = is.prompt })

    -- and one that had no memory met the first of it, or all
    pub live_short : (result : Result (RunEnded E Never) NoMemory) (e : NoMemory) → result ≡ Err e → HasRead alone writes took printed ended starved result start pass before after
        → MadeBut alone false [] writes (λ calls. (calls ≡ []) ⊎ RanShort (λ cs. LiveBegan seg feeds) (λ cs met. ⊥) took starved calls) before after
    live_short result e was read =
        let made = (subst (λ (x : Result (RunEnded E Never) NoMemory). HasRead alone writes took printed ended starved x start pass before after) was read).short in
        let is = made.is in
        made_so made (inr (short_by made.calls is.met is.all is.ends))
