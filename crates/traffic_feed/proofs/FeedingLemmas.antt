-- What a worker has put and counted, put by put.
use Rattle.std.proofs.Common.{◌≡◌, ◌⊎◌, ℕ, ◌+◌, ◌*◌, ◌^◌, ◌<◌, ◌≤◌, List, [], ◌∷◌, ◌++◌, length, take, drop, get_or, inl, inr, sym, ap, ◌∙◌, subst, arith}
use Rattle.std.specs.Prelude.{max, slice_get, if◌then◌else◌, Bool, true, false, Option}
use Rattle.std.specs.List.{All, AllByRecursion, sum_by}
use Rattle.std.proofs.lemmas.List.{length-take-le, length-map, take-append-drop, take_all, drop_more}
use Rattle.std.proofs.lemmas.List.Elements.{recursion_from_All}
use Rattle.std.proofs.lemmas.List.Sums.{sum_by-cons, sum_by-append}
use Rattle.vsl_record.specs.Unit.{LogUnit, Log}
use Rattle.vsl_record.specs.Words.{unit_words}
use Rattle.ring_layout.specs.declared.steps.PutFault.TheVariants.{Exhausted}
use Rattle.ring_layout.specs.Places.{stays, end_at, last_tail}
use Rattle.log_ring.specs.Ring.{RingSet}
use Rattle.log_ring.specs.Writers.{WriterState, IsRefusedAtLast, count_wrapped, units_put}
use Rattle.counter_segments.specs.Sums.{CounterSet, PassSums, counter_count, own_sum}
use Rattle.traffic_feed.specs.declared.listing.Listing.{Listing}
use Rattle.traffic_feed.specs.Batches.{IsWithin}
use Rattle.traffic_feed.specs.Counted.{causes, unit_share, cut_raise, wait_raise, wrap_raise}
use Rattle.traffic_feed.specs.Listing.{record_count}
use Rattle.traffic_feed.proofs.CountedLemmas.{no_unit_share, unit_share_bound}
use Rattle.traffic_feed.specs.Feeding.{IsFed, IsFullAt, most_records, wraps_of}
use Rattle.traffic_feed.specs.inside.Putting.{HasAdded, HasPutFirst, StoppedAt}

-- units raise a counter by at most 2^32 for each of their records
shares_low : (seg which : ℕ) (us : Log) → AllByRecursion (IsWithin seg) us → sum_by (unit_share which) us ≤ 4294967296 * record_count us
shares_low seg which [] all = omega arith
shares_low seg which (u ∷ us) all =
    omega (arith, shares_low seg which us all.1, unit_share_bound which u all.0.unit, sum_by-cons (unit_share which) u us, sum_by-cons (λ (x : LogUnit). length x.records) u us)

-- they are no more than their records
units_low : (seg : ℕ) (us : Log) → AllByRecursion (IsWithin seg) us → length us ≤ record_count us
units_low seg [] all = omega arith
units_low seg (u ∷ us) all = omega (arith, units_low seg us all.1, all.0.unit.some, sum_by-cons (λ (x : LogUnit). length x.records) u us)

-- the last three counters are raised by none
no_shares : (which : ℕ) (us : Log) → 18 ≤ which → which < counter_count → sum_by (unit_share which) us ≡ 0
no_shares which [] low high = omega arith
no_shares which (u ∷ us) low high = omega (arith, no_shares which us low high, no_unit_share which u low high, sum_by-cons (unit_share which) u us)

-- the first units raise it by no more than all
first_low : (f : LogUnit → ℕ) (n : ℕ) (us : Log) → sum_by f (take n us) ≤ sum_by f us
first_low f n us = let parts = ap (sum_by f) (take-append-drop n us) in omega (arith, sum_by-append f (take n us) (drop n us), parts)

-- no more units wrapped than were put
one_at_most : (b : Bool) → (if b then 0 else 1) ≤ 1
one_at_most true = omega arith
one_at_most false = omega arith

few_wrapped : (seg : ℕ) (es : List (ℕ × LogUnit)) → count_wrapped seg es ≤ length es
few_wrapped seg [] = omega arith
few_wrapped seg (e ∷ es) = omega (arith, few_wrapped seg es, one_at_most (stays seg e.0 (length (unit_words e.1))))

-- a writer that waits is not alone
still_alone : (old new : WriterState) (writers times : ℕ) → (old.busy ≡ 0) ⊎ (1 < writers) → (times ≡ 0) ⊎ (1 < writers) → new.busy ≡ old.busy + times → (new.busy ≡ 0) ⊎ (1 < writers)
still_alone old new writers times (inl none) (inl more) is = inl (omega (arith, none, more, is))
still_alone old new writers times (inl none) (inr many) is = inr many
still_alone old new writers times (inr many) more is = inr many

module _ (ring : RingSet) (counters : CounterSet) (units : Log) where
  -- a put that is refused leaves what was put and counted
  pub same_put : (n busy tail : ℕ) (old new : WriterState) (counts after : PassSums) (u : LogUnit) → HasPutFirst ring counters units n old counts busy → IsRefusedAtLast u old (Exhausted tail) new → after ≡ counts
      → HasPutFirst ring counters units n new after busy
  same_put n busy tail old new counts after u has refused kept =
      let is = refused.refused.2 in
      let ring_is = has.in_ring in
      let most = has.most in
      let more = ap (λ (p : WriterState). p.busy) is in record {
        in_ring = ap (λ (p : WriterState). p.ring) is ∙ ring_is;
        of_counters = ap (λ (p : PassSums). p.counters) kept ∙ has.of_counters;
        inside = has.inside;
        put = ap units_put is ∙ has.put;
        counted = λ which l. ap (own_sum which) kept ∙ has.counted which l;
        most = grind arith;
        alone = still_alone old new ring.writers refused.times has.alone (subst (λ (r : RingSet). (refused.times ≡ 0) ⊎ (1 < r.writers)) ring_is refused.alone) more;
      }

  -- where the next unit was refused the ring was full for it
  pub full_at : (n busy tail : ℕ) (old new : WriterState) (counts : PassSums) (u : LogUnit) → HasPutFirst ring counters units n old counts busy → n < length units → u ≡ get_or units n u
      → IsRefusedAtLast u old (Exhausted tail) new → IsFullAt ring.seg tail units new
  full_at n busy tail old new counts u has inside at refused =
      let is = refused.refused.2 in
      let found : new.found ≡ max old.found tail = ap (λ (p : WriterState). p.found) is in record {
        found = grind arith;
        next = u;
        rest = drop (n + 1) units;
        units_are = sym (take-append-drop n units)
            ∙ (ap (λ (l : Log). take n units ++ l) (drop_more units n u inside ∙ ap (λ (x : LogUnit). x ∷ drop (n + 1) units) (sym at))
            ∙ ap (λ (l : Log). l ++ u ∷ drop (n + 1) units) (sym (ap units_put is ∙ has.put)));
        no_place = subst (λ (r : RingSet). last_tail < end_at r.seg tail (length (unit_words u))) has.in_ring refused.refused.1;
      }

  -- as many entries as units
  pub entries_put : (n busy : ℕ) (pass : WriterState) (counts : PassSums) → HasPutFirst ring counters units n pass counts busy → length pass.entries ≡ n
  entries_put n busy pass counts has =
      let long = ap (length {A = LogUnit}) has.put in
      let inside = has.inside in
      sym (length-map pass.entries (λ (e : ℕ × LogUnit). e.1)) ∙ (long ∙ length-take-le n units inside)

  -- a worker has counted less than 2^55
  pub counted_low : (n busy which : ℕ) (pass : WriterState) (counts : PassSums) → HasPutFirst ring counters units n pass counts busy → All (IsWithin ring.seg) units → record_count units ≤ most_records → which < counter_count → own_sum which counts < 2 ^ 55
  counted_low n busy which pass counts has within few l =
      omega (arith, has.counted which l, first_low (unit_share which) n units, shares_low ring.seg which units (recursion_from_All (IsWithin ring.seg) units within), few)

  -- of the last three nothing
  pub counted_none : (n busy which : ℕ) (pass : WriterState) (counts : PassSums) → HasPutFirst ring counters units n pass counts busy → 18 ≤ which → which < counter_count → own_sum which counts ≡ 0
  counted_none n busy which pass counts has low l = has.counted which l ∙ no_shares which (take n units) low l

  -- and few of its units wrapped
  pub few_wraps : (n busy : ℕ) (pass : WriterState) (counts : PassSums) → HasPutFirst ring counters units n pass counts busy → All (IsWithin ring.seg) units → record_count units ≤ most_records → wraps_of pass ≤ most_records
  few_wraps n busy pass counts has within few =
      omega (arith, few_wrapped pass.ring.seg pass.entries, entries_put n busy pass counts has, has.inside, units_low ring.seg units (recursion_from_All (IsWithin ring.seg) units within), few)

-- what a worker leaves
pub fed : (ring : RingSet) (counters : CounterSet) (listing : Listing) (units : Log) (pass left : WriterState) (put cut waited all : PassSums) (busy wraps : ℕ) (full : Option ℕ) → units ≡ listing.units
    → StoppedAt ring counters units full pass put busy → left ≡ pass → wraps ≡ wraps_of left → cut.counters ≡ put.counters → waited.counters ≡ cut.counters → all.counters ≡ waited.counters
    → HasAdded (λ which. cut_raise (slice_get causes which) listing.cuts) put cut → HasAdded (λ which. wait_raise (slice_get causes which) busy) cut waited → HasAdded (λ which. wrap_raise (slice_get causes which) wraps) waited all
    → IsFed ring counters listing (record { left = left; counts = all; busy = busy; full = full })
fed ring counters listing units pass left put cut waited all busy wraps full same stop gone so s1 s2 s3 a1 a2 a3 =
    let st = subst (λ (us : Log). StoppedAt ring counters us full pass put busy) same stop in
    let has = st.has_put in
    let enough : length listing.units ≤ length listing.units = omega arith in
    subst (λ (w : WriterState). IsFed ring counters listing (record { left = w; counts = all; busy = busy; full = full })) (sym gone) (record {
      in_ring = has.in_ring;
      of_counters = s3 ∙ (s2 ∙ (s1 ∙ has.of_counters));
      put = record { rest = drop st.n listing.units; is = sym (take-append-drop st.n listing.units) ∙ ap (λ (l : Log). l ++ drop st.n listing.units) (sym has.put) };
      all = λ none. has.put ∙ (ap (λ (k : ℕ). take k listing.units) (st.all none).0 ∙ take_all (length listing.units) listing.units enough);
      full = st.next;
      counted = λ which l.
          let units_are = ap (sum_by (unit_share which)) has.put in
          let wraps_are = ap (wrap_raise (slice_get causes which)) (so ∙ ap wraps_of gone) in
          omega (arith, a1 which l, a2 which l, a3 which l, has.counted which l, units_are, wraps_are);
      busy = λ none. (st.all none).1;
      most = has.most;
      alone = has.alone;
    })
