-- What workers left of a ring that had room for all of their listings: they put them whole, for the tail is at most twice the words that were put.
use Rattle.std.proofs.Common.{◌≡◌, ℕ, ◌+◌, ◌*◌, ◌<◌, ◌≤◌, List, [], ◌∷◌, ◌++◌, length, map, refl, ap, ◌∙◌, subst, arith, Option, None, Some}
use Rattle.std.specs.List.{AllByRecursion, sum_by}
use Rattle.std.proofs.lemmas.List.Sums.{sum_by-cons, sum_by-append}
use Rattle.log_model.specs.Interleaving.{IsInterleaving}
use Rattle.log_model.specs.Prefix.{IsPrefix}
use Rattle.vsl_record.specs.Unit.{LogUnit, Log}
use Rattle.vsl_record.specs.Words.{unit_words}
use Rattle.ring_layout.specs.Places.{tail, last_tail}
use Rattle.feed_schedule.proofs.PuttingLemmas.{end_twice, tail_twice}
use Rattle.log_ring.specs.Ring.{RingSet}
use Rattle.log_ring.specs.Writers.{WriterState, AreWritersOf, busy_of, entries_of, units_put}
use Rattle.log_ring.specs.Closed.{ClosedState, HasReached, entries_from}
use Rattle.counter_segments.specs.Sums.{CounterSet, AreOf, totals}
use Rattle.traffic_feed.specs.declared.listing.Listing.{Listing}
use Rattle.traffic_feed.specs.Listing.{word_count}
use Rattle.feed_schedule.specs.Replaying.{count_feed_words}
use Rattle.traffic_feed.specs.declared.feeding.Fed.{Fed}
use Rattle.traffic_feed.specs.Feeding.{IsFullAt}
use Rattle.traffic_feed.specs.Workers.{AllFed}
use Rattle.live_run.specs.inside.Opening.{lefts_of, counts_of, AreWhole}
use Rattle.live_run.specs.Runs.{LiveCounted, MayBePut, feeds_of}
use Rattle.live_run.proofs.ListLemmas.{interleaving_sum}
use Rattle.live_run.proofs.SumLemmas.{told, alone, counted}

-- ---- words

-- the first units have no more words than all
prefix_words : (xs ys : Log) → IsPrefix xs ys → word_count xs ≤ word_count ys
prefix_words xs ys p = omega (arith, ap word_count p.is, sum_by-append (λ (u : LogUnit). length (unit_words u)) xs p.rest)

-- nor have the first units and the next one
next_words : (xs : Log) (u : LogUnit) (rest ys : Log) → ys ≡ xs ++ u ∷ rest → word_count xs + length (unit_words u) ≤ word_count ys
next_words xs u rest ys is = omega (arith, ap word_count is, sum_by-append (λ (v : LogUnit). length (unit_words v)) xs (u ∷ rest), sum_by-cons (λ (v : LogUnit). length (unit_words v)) u rest)

-- what is no number is none
no_some : (o : Option ℕ) → ((t : ℕ) → o ≡ Some t → ⊥) → o ≡ None
no_some None none = refl
no_some (Some t) none = absurd (none t refl)

-- ---- what each worker left

module _ (ring : RingSet) (counters : CounterSet) where
  -- what workers left is of the ring, and of the counters
  pub fed_writers : (ls : List Listing) (fs : List Fed) → AllFed ring counters ls fs → AreWritersOf ring (lefts_of fs)
  fed_writers [] [] h = tt
  fed_writers [] (f ∷ fs) h = absurd h
  fed_writers (l ∷ ls) [] h = absurd h
  fed_writers (l ∷ ls) (f ∷ fs) h = (h.0.in_ring, fed_writers ls fs h.1)

  pub fed_counts : (ls : List Listing) (fs : List Fed) → AllFed ring counters ls fs → AreOf counters (counts_of fs)
  fed_counts [] [] h = tt
  fed_counts [] (f ∷ fs) h = absurd h
  fed_counts (l ∷ ls) [] h = absurd h
  fed_counts (l ∷ ls) (f ∷ fs) h = (h.0.of_counters, fed_counts ls fs h.1)

  -- each worker left something
  pub fed_length : (ls : List Listing) (fs : List Fed) → AllFed ring counters ls fs → length fs ≡ length ls
  fed_length [] [] h = refl
  fed_length [] (f ∷ fs) h = absurd h
  fed_length (l ∷ ls) [] h = absurd h
  fed_length (l ∷ ls) (f ∷ fs) h = omega (arith, fed_length ls fs h.1)

  -- they put no more words than their listings have
  put_words : (ls : List Listing) (fs : List Fed) → AllFed ring counters ls fs → count_feed_words (map units_put (lefts_of fs)) ≤ count_feed_words (feeds_of ls)
  put_words [] [] h = omega arith
  put_words [] (f ∷ fs) h = absurd h
  put_words (l ∷ ls) [] h = absurd h
  put_words (l ∷ ls) (f ∷ fs) h =
      omega (arith, put_words ls fs h.1, prefix_words (units_put f.left) l.units h.0.put, sum_by-cons word_count (units_put f.left) (map units_put (lefts_of fs)), sum_by-cons word_count l.units (feeds_of ls))

  -- no worker met a full ring: the tails that it found are at most twice the words that were put, and a tail that is twice the words of all listings would still be a tail; other workers put
  -- so many words before
  whole_from : (top before : ℕ) (ls : List Listing) (fs : List Fed) → 0 < ring.seg → AllFed ring counters ls fs → AllByRecursion (λ (w : WriterState). w.found ≤ top) (lefts_of fs)
      → top ≤ 2 * (before + count_feed_words (map units_put (lefts_of fs))) → 2 * (before + count_feed_words (feeds_of ls)) ≤ last_tail → AreWhole fs
  whole_from top before [] [] pos h found low room = tt
  whole_from top before [] (f ∷ fs) pos h found low room = absurd h
  whole_from top before (l ∷ ls) [] pos h found low room = absurd h
  whole_from top before (l ∷ ls) (f ∷ fs) pos h found low room =
      let put = sum_by-cons word_count (units_put f.left) (map units_put (lefts_of fs)) in
      let all = sum_by-cons word_count l.units (feeds_of ls) in
      let part = prefix_words (units_put f.left) l.units h.0.put in
      let rest = put_words ls fs h.1 in
      let reached = found.0 in (
        no_some f.full (λ t is.
            let full : IsFullAt ring.seg t l.units f.left = h.0.full t is in
            let at = full.found in
            let above = full.no_place in
            let twice = end_twice ring.seg t (length (unit_words full.next)) pos in
            let next = next_words (units_put f.left) full.next full.rest l.units full.units_are in
            omega (arith, put, all, rest, reached, at, above, twice, next, low, room)),
        whole_from top (before + word_count (units_put f.left)) ls fs pos h.1 found.1 (omega (arith, put, low)) (omega (arith, all, part, room)),
      )

  -- so for each unit there was a place
  pub all_whole : (ls : List Listing) (fs : List Fed) (log : Log) → 0 < ring.seg → AllFed ring counters ls fs → MayBePut ring.seg ls → IsInterleaving log (map units_put (lefts_of fs))
      → AllByRecursion (HasReached ring.seg log) (lefts_of fs) → AreWhole fs
  all_whole ls fs log pos h may is found =
      let twice = tail_twice ring.seg [] log pos in
      let words = interleaving_sum (λ (u : LogUnit). length (unit_words u)) log (map units_put (lefts_of fs)) is in
      let room = may.words in
      whole_from (tail unit_words ring.seg log) 0 ls fs pos h found (omega (arith, twice, words)) (omega (arith, room))

  -- where there was, they put their listings
  pub whole_lists : (ls : List Listing) (fs : List Fed) → AllFed ring counters ls fs → AreWhole fs → map units_put (lefts_of fs) ≡ feeds_of ls
  whole_lists [] [] h w = refl
  whole_lists [] (f ∷ fs) h w = absurd h
  whole_lists (l ∷ ls) [] h w = absurd h
  whole_lists (l ∷ ls) (f ∷ fs) h w = ap (λ (units : Log). units ∷ map units_put (lefts_of fs)) (h.0.all w.0) ∙ ap (λ (rest : List Log). l.units ∷ rest) (whole_lists ls fs h.1 w.1)

  -- the log of a closed ring is an interleaving of the listings' units
  pub live_log : (ls : List Listing) (fs : List Fed) (log : Log) → 0 < ring.seg → AllFed ring counters ls fs → MayBePut ring.seg ls → IsInterleaving log (map units_put (lefts_of fs))
      → AllByRecursion (HasReached ring.seg log) (lefts_of fs) → IsInterleaving log (feeds_of ls)
  live_log ls fs log pos h may is found = subst (λ (lists : List Log). IsInterleaving log lists) (whole_lists ls fs h (all_whole ls fs log pos h may is found)) is

  -- and the counters come to what is in it
  pub live_counted : (ls : List Listing) (fs : List Fed) (closed : ClosedState) (values : List ℕ) → closed.histories ≡ [] → 0 < ring.seg → ring.writers ≡ length ls → AllFed ring counters ls fs → MayBePut ring.seg ls
      → IsInterleaving closed.log (map units_put (lefts_of fs)) → IsInterleaving (entries_from unit_words ring.seg 0 closed.log) (map entries_of (lefts_of fs)) → closed.busy ≡ sum_by busy_of (lefts_of fs)
      → AllByRecursion (HasReached ring.seg closed.log) (lefts_of fs) → values ≡ totals (counts_of fs) → LiveCounted ring.seg ls closed values
  live_counted ls fs closed values unread pos count h may is entries busy found values_are =
      let whole = all_whole ls fs closed.log pos h may is found in record {
        interleaved = live_log ls fs closed.log pos h may is found;
        unread = unread;
        waits = sum_by (λ (f : Fed). f.busy) fs;
        told = rw busy (told ring counters ls fs h whole);
        alone = λ one. busy ∙ alone ring counters ls fs count h one;
        values_are = values_are ∙ counted ring counters ls fs closed.log h whole entries;
      }
