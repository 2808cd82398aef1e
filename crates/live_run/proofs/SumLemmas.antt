-- What workers that put their listings whole counted and waited, together.
use Rattle.std.proofs.Common.{◌≡◌, ℕ, ◌+◌, ◌<◌, if◌then◌else◌, List, [], ◌∷◌, length, map, min, slice_get, Option, None, Some, refl, ap, ◌∙◌, ⊎_elim, arith}
use Rattle.std.specs.List.{sum_by}
use Rattle.std.proofs.lemmas.List.Sums.{sum_by-cons}
use Rattle.std.proofs.Math.Nat.{min-eq_left, min-eq_right}
use mathlib.Core.Logic.{dite}
use native.Mathlib.Decide.{dec_lt}
use Rattle.log_model.specs.Interleaving.{IsInterleaving}
use Rattle.vsl_record.specs.Unit.{LogUnit, Log}
use Rattle.vsl_record.specs.Words.{unit_words}
use Rattle.ring_layout.specs.Places.{stays, end_at}
use Rattle.ring_plain.specs.Ring.{wraps_from, count_wraps}
use Rattle.log_ring.specs.Ring.{RingSet}
use Rattle.log_ring.specs.Writers.{WriterState, busy_of, count_wrapped, entries_of}
use Rattle.log_ring.specs.Closed.{entries_from}
use Rattle.counter_segments.specs.Sums.{CounterSet, counter_count, own_sum, total, totals}
use Rattle.traffic_feed.specs.declared.listing.Listing.{Listing}
use Rattle.traffic_feed.specs.Counted.{Cause, EachTag, EachRequest, EachFetch, EachCall, EachField, EachRecord, EachUnit, EachCut, EachWait, EachWrap, causes, unit_share, wait_raise, wrap_raise, listing_share}
use Rattle.traffic_feed.specs.declared.feeding.Fed.{Fed}
use Rattle.traffic_feed.specs.Feeding.{most_waits, wraps_of}
use Rattle.traffic_feed.specs.Workers.{AllFed}
use Rattle.live_run.specs.inside.Opening.{lefts_of, counts_of, AreWhole}
use Rattle.live_run.specs.Runs.{AreTold, live_value, live_values}
use Rattle.live_run.proofs.ListLemmas.{interleaving_sum, map_range}

-- ---- the units that wrapped

-- one for a unit that wrapped, and nothing for another
abbrev wrapped : ℕ → ℕ × LogUnit → ℕ
wrapped seg e = if stays seg e.0 (length (unit_words e.1)) then 0 else 1

-- they add up to how many wrapped
wrapped_sum : (seg : ℕ) (es : List (ℕ × LogUnit)) → sum_by (wrapped seg) es ≡ count_wrapped seg es
wrapped_sum seg [] = refl
wrapped_sum seg (e ∷ es) = omega (arith, wrapped_sum seg es, sum_by-cons (wrapped seg) e es)

-- so do those of all writers
writers_sum : (seg : ℕ) (ws : List WriterState) → sum_by (sum_by (wrapped seg)) (map entries_of ws) ≡ sum_by (λ (w : WriterState). count_wrapped seg w.entries) ws
writers_sum seg [] = refl
writers_sum seg (w ∷ ws) =
    omega (arith, writers_sum seg ws, wrapped_sum seg w.entries, sum_by-cons (sum_by (wrapped seg)) w.entries (map entries_of ws), sum_by-cons (λ (v : WriterState). count_wrapped seg v.entries) w ws)

-- a log's entries wrap where its units do
entries_wrap : (seg t : ℕ) (log : Log) → count_wrapped seg (entries_from unit_words seg t log) ≡ wraps_from seg t log
entries_wrap seg t [] = refl
entries_wrap seg t (u ∷ log) = ap (λ (n : ℕ). (if stays seg t (length (unit_words u)) then 0 else 1) + n) (entries_wrap seg (end_at seg t (length (unit_words u))) log)

-- as many units of writers wrapped as of the log that is their interleaving
pub wraps_sum : (seg : ℕ) (log : Log) (writers : List WriterState) → IsInterleaving (entries_from unit_words seg 0 log) (map entries_of writers)
    → sum_by (λ (w : WriterState). count_wrapped seg w.entries) writers ≡ count_wraps seg log
wraps_sum seg log writers h =
    omega (arith, interleaving_sum (wrapped seg) (entries_from unit_words seg 0 log) (map entries_of writers) h, writers_sum seg writers, wrapped_sum seg (entries_from unit_words seg 0 log), entries_wrap seg 0 log)

-- ---- the waits

-- one worker more that tells its waits, as far as 2^56
told_more : (busy kept waits : ℕ) → AreTold kept waits → AreTold (busy + kept) (min busy most_waits + waits)
told_more busy kept waits h =
    let most = h.most in
    dite (dec_lt busy most_waits)
    (λ low. let is : min busy most_waits ≡ busy = min-eq_left (omega arith) in record {
      exact = λ few. let rest = h.exact (omega arith) in omega (arith, is, rest, few);
      many = λ full. dite (dec_lt kept most_waits)
          (λ few. let rest = h.exact few in omega (arith, is, rest, full))
          (λ most. let rest = h.many (omega arith) in omega (arith, is, rest));
      most = omega (arith, is, most);
    })
    (λ high. let is : min busy most_waits ≡ most_waits = min-eq_right (omega arith) in record {
      exact = λ few. absurd (omega arith);
      many = λ full. omega (arith, is);
      most = omega (arith, is, most);
    })

module _ (ring : RingSet) (counters : CounterSet) where
  -- what they tell of the waits that writers left
  pub told : (ls : List Listing) (fs : List Fed) → AllFed ring counters ls fs → AreWhole fs → AreTold (sum_by busy_of (lefts_of fs)) (sum_by (λ (f : Fed). f.busy) fs)
  told [] [] h w = record { exact = λ few. refl; many = λ full. full; most = omega arith }
  told [] (f ∷ fs) h w = absurd h
  told (l ∷ ls) [] h w = absurd h
  told (l ∷ ls) (f ∷ fs) h w =
      let kept : sum_by busy_of (lefts_of (f ∷ fs)) ≡ f.left.busy + sum_by busy_of (lefts_of fs) = sum_by-cons busy_of f.left (lefts_of fs) in
      let waits : sum_by (λ (g : Fed). g.busy) (f ∷ fs) ≡ min f.left.busy most_waits + sum_by (λ (g : Fed). g.busy) fs =
      sum_by-cons (λ (g : Fed). g.busy) f fs ∙ ap (λ (n : ℕ). n + sum_by (λ (g : Fed). g.busy) fs) (h.0.busy w.0) in
      rw (kept, waits) (told_more f.left.busy (sum_by busy_of (lefts_of fs)) (sum_by (λ (g : Fed). g.busy) fs) (told ls fs h.1 w.1))

  -- one worker alone never waited
  pub alone : (ls : List Listing) (fs : List Fed) → ring.writers ≡ length ls → AllFed ring counters ls fs → length ls ≡ 1 → sum_by busy_of (lefts_of fs) ≡ 0
  alone [] fs count h one = absurd (omega arith)
  alone (l ∷ ls) [] count h one = absurd h
  alone (l ∷ m ∷ ls) (f ∷ fs) count h one = absurd (omega arith)
  alone (l ∷ []) (f ∷ g ∷ fs) count h one = absurd h.1
  alone (l ∷ []) (f ∷ []) count h one =
      ⊎_elim (λ (none : f.left.busy ≡ 0). omega (arith, none, sum_by-cons busy_of f.left [])) (λ (many : 1 < ring.writers). absurd (omega arith)) h.0.alone

-- ---- the counters

-- waits raise a counter each by itself, and so do wraps
raises_more : (o : Option Cause) (a b : ℕ) → (wait_raise o (a + b) ≡ wait_raise o a + wait_raise o b) × (wrap_raise o (a + b) ≡ wrap_raise o a + wrap_raise o b)
raises_more None a b = (omega arith, omega arith)
raises_more (Some (EachTag tag)) a b = (omega arith, omega arith)
raises_more (Some EachRequest) a b = (omega arith, omega arith)
raises_more (Some EachFetch) a b = (omega arith, omega arith)
raises_more (Some (EachCall name)) a b = (omega arith, omega arith)
raises_more (Some (EachField n)) a b = (omega arith, omega arith)
raises_more (Some EachRecord) a b = (omega arith, omega arith)
raises_more (Some EachUnit) a b = (omega arith, omega arith)
raises_more (Some EachCut) a b = (omega arith, omega arith)
raises_more (Some EachWait) a b = (omega arith, omega arith)
raises_more (Some EachWrap) a b = (omega arith, omega arith)

module _ (ring : RingSet) (counters : CounterSet) where
  -- how many units of a writer of the ring wrapped
  abbrev wrapped_of : WriterState → ℕ
  wrapped_of w = count_wrapped ring.seg w.entries

  -- a counter comes to what the listings raise it by, the waits that are told, and the units that wrapped
  counter_is : (which : ℕ) → which < counter_count → (ls : List Listing) (fs : List Fed) → AllFed ring counters ls fs → AreWhole fs
      → total which (counts_of fs) ≡ sum_by (listing_share which) ls + (wait_raise (slice_get causes which) (sum_by (λ (f : Fed). f.busy) fs) + wrap_raise (slice_get causes which) (sum_by wrapped_of (lefts_of fs)))
  counter_is which below [] [] h w = let none = raises_more (slice_get causes which) 0 0 in omega (arith, none.0, none.1)
  counter_is which below [] (f ∷ fs) h w = absurd h
  counter_is which below (l ∷ ls) [] h w = absurd h
  counter_is which below (l ∷ ls) (f ∷ fs) h w =
      let cause = slice_get causes which in
      let one = h.0.counted which below in
      let units = ap (sum_by (unit_share which)) (h.0.all w.0) in
      let mine : wrap_raise cause (wraps_of f.left) ≡ wrap_raise cause (wrapped_of f.left) = ap (λ (r : RingSet). wrap_raise cause (count_wrapped r.seg f.left.entries)) h.0.in_ring in
      let waits = ap (wait_raise cause) (sum_by-cons (λ (g : Fed). g.busy) f fs) ∙ (raises_more cause f.busy (sum_by (λ (g : Fed). g.busy) fs)).0 in
      let wraps = ap (wrap_raise cause) (sum_by-cons wrapped_of f.left (lefts_of fs)) ∙ (raises_more cause (wrapped_of f.left) (sum_by wrapped_of (lefts_of fs))).1 in
      omega (arith, one, units, mine, waits, wraps, counter_is which below ls fs h.1 w.1, sum_by-cons (own_sum which) f.counts (counts_of fs), sum_by-cons (listing_share which) l ls)

  -- so all counters come to what is stated
  pub counted : (ls : List Listing) (fs : List Fed) (log : Log) → AllFed ring counters ls fs → AreWhole fs → IsInterleaving (entries_from unit_words ring.seg 0 log) (map entries_of (lefts_of fs))
      → totals (counts_of fs) ≡ live_values ls (sum_by (λ (f : Fed). f.busy) fs) (count_wraps ring.seg log)
  counted ls fs log h w entries =
      let waits : ℕ = sum_by (λ (f : Fed). f.busy) fs in
      map_range (λ which. total which (counts_of fs)) (λ which. live_value which ls waits (count_wraps ring.seg log)) 0 counter_count (λ which below.
      let wraps = ap (wrap_raise (slice_get causes which)) (wraps_sum ring.seg log (lefts_of fs) entries) in
      omega (arith, counter_is which (omega arith) ls fs h w, wraps))
