-- Passes that are given out from the last on, and workers that may begin with them.
use Rattle.std.proofs.Common.{◌≡◌, ℕ, zero, suc, ◌≤◌, List, [], ◌∷◌, ◌++◌, map, reverse, replicate, sym, subst, refl}
use Rattle.std.proofs.lemmas.List.{reverse-append, reverse-reverse}
use Rattle.std.proofs.lemmas.List.Elements.{All-head, All-tail}
use Rattle.std.specs.List.{All, AllByRecursion, range_with_len}
use Rattle.counter_segments.specs.Sums.{CounterSet, PassSums, new_pass}
use Rattle.log_ring.specs.Ring.{RingSet}
use Rattle.log_ring.specs.Writers.{WriterState, new_writer, new_writers}
use Rattle.traffic_feed.specs.declared.listing.Listing.{Listing}
use Rattle.traffic_feed.specs.Batches.{IsWithin}
use Rattle.traffic_feed.specs.Listing.{record_count}
use Rattle.traffic_feed.specs.Feeding.{most_records}
use Rattle.traffic_feed.specs.declared.worker.Worker.{Worker}
use Rattle.traffic_feed.specs.Workers.{AllReady, listings_of}
use Rattle.live_run.specs.Runs.{MayBePut}

-- what is so of each is so in the other order
all_append : {X : Type 0} (P : X → Type 0) (xs ys : List X) → AllByRecursion P xs → AllByRecursion P ys → AllByRecursion P (xs ++ ys)
all_append P [] ys p q = q
all_append P (x ∷ xs) ys p q = (p.0, all_append P xs ys p.1 q)

all_reverse : {X : Type 0} (P : X → Type 0) (xs : List X) → AllByRecursion P xs → AllByRecursion P (reverse xs)
all_reverse P [] p = p
all_reverse P (x ∷ xs) p = subst (AllByRecursion P) (sym (reverse-append (x ∷ []) xs)) (all_append P (reverse xs) (x ∷ []) (all_reverse P xs p.1) (p.0, tt))

-- a list that gave out all of these has them in reverse
all_given : {X Y : Type 0} (P : Y → Type 0) (f : X → Y) (first : List Y) (ws : List X) → first ≡ reverse (map f ws) → AllByRecursion P first → AllByRecursion P (map f ws)
all_given P f first ws is p = subst (AllByRecursion P) (reverse-reverse (map f ws)) (all_reverse P (reverse (map f ws)) (subst (AllByRecursion P) is p))

all_new_writers : (ring : RingSet) (numbers : List ℕ) → AllByRecursion (λ (w : WriterState). w ≡ new_writer ring w.number) (map (new_writer ring) numbers)
all_new_writers ring [] = tt
all_new_writers ring (n ∷ numbers) = (refl, all_new_writers ring numbers)

all_new_passes : (counters : CounterSet) (n : ℕ) → AllByRecursion (λ (p : PassSums). p ≡ new_pass counters) (replicate n (new_pass counters))
all_new_passes counters zero = tt
all_new_passes counters (suc n) = (refl, all_new_passes counters n)

-- workers may begin whose passes are new, and whose listings may be put
each_ready : (ring : RingSet) (counters : CounterSet) (ws : List Worker) → AllByRecursion (λ (w : WriterState). w ≡ new_writer ring w.number) (map (λ (w : Worker). w.pass) ws) → AllByRecursion (λ (p : PassSums). p ≡ new_pass counters) (map (λ (w : Worker). w.counts) ws)
    → All (λ (l : Listing). All (IsWithin ring.seg) l.units) (listings_of ws) → All (λ (l : Listing). record_count l.units ≤ most_records) (listings_of ws) → All (λ (l : Listing). l.cuts ≤ record_count l.units) (listings_of ws) → AllReady ring counters ws
each_ready ring counters [] passes counts within few cuts = tt
each_ready ring counters (w ∷ ws) passes counts within few cuts =
    let Within = λ (l : Listing). All (IsWithin ring.seg) l.units in
    let Few = λ (l : Listing). record_count l.units ≤ most_records in
    let Cuts = λ (l : Listing). l.cuts ≤ record_count l.units in
    let ls = listings_of ws in
    let l = w.listing in (
      record { pass = passes.0; counts = counts.0; within = All-head Within l ls within; few = All-head Few l ls few; cuts = All-head Cuts l ls cuts },
      each_ready ring counters ws passes.1 counts.1 (All-tail Within l ls within) (All-tail Few l ls few) (All-tail Cuts l ls cuts),
    )

pub all_ready : (ring : RingSet) (counters : CounterSet) (listings : List Listing) (ws : List Worker) (passes : List WriterState) (counts : List PassSums) (n m : ℕ) → MayBePut ring.seg listings → listings_of ws ≡ listings
    → passes ≡ new_writers ring n → passes ≡ reverse (map (λ (w : Worker). w.pass) ws) → counts ≡ replicate m (new_pass counters) → counts ≡ reverse (map (λ (w : Worker). w.counts) ws) → AllReady ring counters ws
all_ready ring counters listings ws passes counts n m put are fresh given zeros taken =
    let put = subst (MayBePut ring.seg) (sym are) put in
    each_ready ring counters ws
    (all_given (λ (w : WriterState). w ≡ new_writer ring w.number) (λ (w : Worker). w.pass) passes ws given (subst (AllByRecursion (λ (w : WriterState). w ≡ new_writer ring w.number)) (sym fresh) (all_new_writers ring (range_with_len 0 n))))
    (all_given (λ (p : PassSums). p ≡ new_pass counters) (λ (w : Worker). w.counts) counts ws taken (subst (AllByRecursion (λ (p : PassSums). p ≡ new_pass counters)) (sym zeros) (all_new_passes counters m)))
    put.within put.records put.cuts
