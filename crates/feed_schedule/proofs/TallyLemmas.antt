-- What passes have counted, writer by writer.
use Rattle.std.proofs.Common.{◌≡◌, ℕ, zero, suc, ◌+◌, ◌^◌, ◌<◌, ◌≤◌, List, [], ◌∷◌, length, map, set, take, replicate, get_or, slice_get, sym, refl, ap, ◌∙◌, subst, arith, Option, Some, None, length-set}
use Rattle.std.proofs.lemmas.List.{length-map, length-replicate, get_or-replicate}
use Rattle.std.proofs.lemmas.List.Sums.{sum_by-cons, sum-map}
use Rattle.std.proofs.lemmas.List.Elements.{recursion_from_All}
use Rattle.std.proofs.lemmas.Option.{same_Some, slice_get_read, slice_get_within}
use Rattle.std.specs.List.{All, AllByRecursion, range_with_len, sum, sum_by}
use Rattle.std.specs.Option.{IsSome}
use Rattle.vsl_record.specs.Unit.{LogUnit, Log}
use Rattle.vsl_record.specs.Words.{IsUnit}
use Rattle.counter_segments.specs.Sums.{CounterSet, PassSums, counter_count, own_sum, new_pass, AreOf, total, totals}
use Rattle.traffic_feed.specs.declared.listing.Listing.{Listing}
use Rattle.traffic_feed.specs.Listing.{record_count}
use Rattle.traffic_feed.specs.Counted.{causes, unit_share, wrap_raise, listing_share, counter_value, counter_values}
use Rattle.traffic_feed.proofs.CountedLemmas.{unit_share_bound}
use Rattle.feed_schedule.specs.Schedule.{count_writers, put_by, without_next}
use Rattle.feed_schedule.proofs.WaitingLemmas.{IsWriterAt, writer_at}
use Rattle.feed_schedule.specs.inside.Counting.{tally, tallies, whole_share, IsSound, IsCounted, AreTallied}

-- ---- lists

-- what holds of all holds of the one at a place
kth_of : {X : Type 0} (P : X → Type 0) (xs : List X) (i : ℕ) (x : X) → AllByRecursion P xs → slice_get xs i ≡ Some x → P x
kth_of P [] i x all e = cc e
kth_of P (y ∷ xs) zero x all e = subst P (same_Some y x e) all.0
kth_of P (y ∷ xs) (suc i) x all e = kth_of P xs i x all.1 e

-- and of all where another of which it holds is put there
all_set : {X : Type 0} (P : X → Type 0) (xs : List X) (i : ℕ) (y : X) → AllByRecursion P xs → P y → AllByRecursion P (set xs i y)
all_set P [] i y all h = all
all_set P (x ∷ xs) zero y all h = (h, all.1)
all_set P (x ∷ xs) (suc i) y all h = (all.0, all_set P xs i y all.1 h)

-- what is the same of the other is the same of all
map_set : {X : Type 0} (f : X → ℕ) (xs : List X) (i : ℕ) (x y : X) → slice_get xs i ≡ Some x → f y ≡ f x → map f (set xs i y) ≡ map f xs
map_set f [] i x y e same = refl
map_set f (z ∷ xs) zero x y e same = ap (λ (n : ℕ). n ∷ map f xs) (same ∙ ap f (sym (same_Some z x e)))
map_set f (z ∷ xs) (suc i) x y e same = ap (λ (l : List ℕ). f z ∷ l) (map_set f xs i x y e same)

-- a sum in which one is so much more
sum_set : {X : Type 0} (f : X → ℕ) (xs : List X) (i more : ℕ) (x y : X) → slice_get xs i ≡ Some x → f y ≡ f x + more → sum_by f (set xs i y) ≡ sum_by f xs + more
sum_set f [] i more x y e is = cc e
sum_set f (z ∷ xs) zero more x y e is = let a = ap f (same_Some z x e) in omega (arith, sum_by-cons f y xs, sum_by-cons f z xs)
sum_set f (z ∷ xs) (suc i) more x y e is = omega (arith, sum_by-cons f z (set xs i y), sum_by-cons f z xs, sum_set f xs i more x y e is)

-- functions that agree on numbers agree on the list of them
map_range : (f g : ℕ → ℕ) (a n : ℕ) → ((k : ℕ) → k < a + n → f k ≡ g k) → map f (range_with_len a n) ≡ map g (range_with_len a n)
map_range f g a zero same = refl
map_range f g a (suc n) same = ap (λ (x : ℕ). x ∷ map f (range_with_len (a + 1) n)) (same a (omega arith)) ∙ ap (λ (l : List ℕ). g a ∷ l) (map_range f g (a + 1) n (λ k l. same k (omega arith)))

-- ---- tallies of writers

-- the tally at a place
tally_at : (writers : List (Option Log)) (cuts : List ℕ) (passes : List PassSums) (i n : ℕ) (w : Option Log) (p : PassSums) → slice_get writers i ≡ Some w → slice_get cuts i ≡ Some n → slice_get passes i ≡ Some p
    → slice_get (tallies writers cuts passes) i ≡ Some (tally w n p)
tally_at [] cuts passes i n w p a b c = cc a
tally_at (v ∷ writers) [] passes i n w p a b c = cc b
tally_at (v ∷ writers) (m ∷ cuts) [] i n w p a b c = cc c
tally_at (v ∷ writers) (m ∷ cuts) (q ∷ passes) zero n w p a b c = let x = same_Some v w a in let y = same_Some m n b in let z = same_Some q p c in cc (x, y, z)
tally_at (v ∷ writers) (m ∷ cuts) (q ∷ passes) (suc i) n w p a b c = tally_at writers cuts passes i n w p a b c

-- another one there
tally_set : (writers : List (Option Log)) (cuts : List ℕ) (passes : List PassSums) (i n : ℕ) (w : Option Log) (p : PassSums) → slice_get cuts i ≡ Some n → tallies (set writers i w) cuts (set passes i p) ≡ set (tallies writers cuts passes) i (tally w n p)
tally_set [] cuts passes i n w p b = refl
tally_set (v ∷ writers) [] passes i n w p b = cc b
tally_set (v ∷ writers) (m ∷ cuts) [] zero n w p b = refl
tally_set (v ∷ writers) (m ∷ cuts) [] (suc i) n w p b = refl
tally_set (v ∷ writers) (m ∷ cuts) (q ∷ passes) zero n w p b = ap (λ (k : ℕ). tally w k p ∷ tallies writers cuts passes) (same_Some m n b)
tally_set (v ∷ writers) (m ∷ cuts) (q ∷ passes) (suc i) n w p b = ap (λ l. tally v m q ∷ l) (tally_set writers cuts passes i n w p b)

-- the tally at a place is sound
pub sound_at : (counters : CounterSet) (listings : List Listing) (writers : List (Option Log)) (cuts : List ℕ) (passes : List PassSums) (i n : ℕ) (w : Option Log) (p : PassSums) → AreTallied counters listings writers cuts passes
    → slice_get writers i ≡ Some w → slice_get cuts i ≡ Some n → slice_get passes i ≡ Some p → IsSound counters (tally w n p)
sound_at counters listings writers cuts passes i n w p h a b c = kth_of (IsSound counters) (tallies writers cuts passes) i (tally w n p) h.sound (tally_at writers cuts passes i n w p a b c)

-- after a turn that was counted
pub tallied_turn : (counters : CounterSet) (listings : List Listing) (writers : List (Option Log)) (cuts : List ℕ) (passes : List PassSums) (i n : ℕ) (w after : Option Log) (p q : PassSums) → AreTallied counters listings writers cuts passes
    → slice_get writers i ≡ Some w → slice_get cuts i ≡ Some n → slice_get passes i ≡ Some p → IsCounted counters (tally w n p) (tally after n q) → AreTallied counters listings (set writers i after) cuts (set passes i q)
tallied_turn counters listings writers cuts passes i n w after p q h a b c counted =
    let is = tally_set writers cuts passes i n after q b in
    let at = tally_at writers cuts passes i n w p a b c in
    record {
      as_many = length-set writers i after ∙ h.as_many;
      as_many_cuts = h.as_many_cuts ∙ sym (length-set writers i after);
      as_many_passes = length-set passes i q ∙ (h.as_many_passes ∙ sym (length-set writers i after));
      all = h.all ∙ sym (length-set writers i after);
      sound = subst (AllByRecursion (IsSound counters)) (sym is) (all_set (IsSound counters) (tallies writers cuts passes) i (tally after n q) h.sound counted.sound);
      shares = λ which l. ap (map (whole_share which)) is ∙ (map_set (whole_share which) (tallies writers cuts passes) i (tally w n p) (tally after n q) at (counted.same which l) ∙ h.shares which l);
    }

-- ---- one writer's turn

-- a pass that added so much more to each counter
pub record HasAdded (more : ℕ → ℕ) (old new : PassSums) : Type 0 where
  pub same : new.counters ≡ old.counters
  pub whole : length new.sums ≡ length old.sums
  pub added : (which : ℕ) → which < counter_count → own_sum which new ≡ own_sum which old + more which

-- a unit that is put was counted
pub counted_unit : (counters : CounterSet) (w after : Option Log) (n : ℕ) (p q : PassSums) (u : LogUnit) → IsSome w → IsSound counters (tally w n p) → IsUnit u → put_by 0 (w ∷ []) ≡ u ∷ [] → without_next 0 (w ∷ []) ≡ after ∷ []
    → HasAdded (λ which. unit_share which u) p q → IsCounted counters (tally w n p) (tally after n q)
counted_unit counters None after n p q u some h is put alone a = cc some
counted_unit counters (Some []) after n p q u some h is put alone a = cc put
counted_unit counters (Some (v ∷ units)) after n p q u some h is put alone a =
    let same : v ≡ u = cc put in
    let left : after ≡ Some units = cc alone in
    let goal : IsCounted counters (tally (Some (v ∷ units)) n p) (tally (Some units) n q) = record {
      sound = record {
        ours = a.same ∙ h.ours;
        whole = a.whole ∙ h.whole;
        low = λ which l. omega (arith, a.added which l, h.low which l, unit_share_bound which u is, sum_by-cons (λ (x : LogUnit). length x.records) v units, ap (λ (x : LogUnit). length x.records) same);
      };
      same = λ which l. omega (arith, a.added which l, sum_by-cons (unit_share which) v units, ap (unit_share which) same);
    } in
    subst (λ (o : Option Log). IsCounted counters (tally (Some (v ∷ units)) n p) (tally o n q)) (sym left) goal

-- ---- before the first turn

-- a new pass added nothing
new_is_zero : (counters : CounterSet) (which : ℕ) → which < counter_count → own_sum which (new_pass counters) ≡ 0
new_is_zero counters which l = get_or-replicate counter_count which 0 0 l

-- a listing's records and cuts are few
abbrev pub IsFew : Listing → Type 0
IsFew l = (record_count l.units ≤ 4194304) × (l.cuts ≤ record_count l.units)

new_sound : (counters : CounterSet) (ls : List Listing) → AllByRecursion IsFew ls → AllByRecursion (IsSound counters) (tallies (map (λ (l : Listing). Some l.units) ls) (map (λ (l : Listing). l.cuts) ls) (replicate (length ls) (new_pass counters)))
new_sound counters [] few = tt
new_sound counters (l ∷ ls) few =
    let one = few.0.0 in
    let two = few.0.1 in
    (record { ours = refl; whole = refl; low = λ which lt. omega (arith, new_is_zero counters which lt, one, two) }, new_sound counters ls few.1)

new_shares : (counters : CounterSet) (ls : List Listing) (which : ℕ) → which < counter_count
    → map (whole_share which) (tallies (map (λ (l : Listing). Some l.units) ls) (map (λ (l : Listing). l.cuts) ls) (replicate (length ls) (new_pass counters))) ≡ map (listing_share which) ls
new_shares counters [] which lt = refl
new_shares counters (l ∷ ls) which lt =
    let rest : List ℕ = map (whole_share which) (tallies (map (λ (l : Listing). Some l.units) ls) (map (λ (l : Listing). l.cuts) ls) (replicate (length ls) (new_pass counters))) in
    let first : own_sum which (new_pass counters) + listing_share which l ≡ listing_share which l = omega (arith, new_is_zero counters which lt) in
    ap (λ (n : ℕ). n ∷ rest) first ∙ ap (λ (r : List ℕ). listing_share which l ∷ r) (new_shares counters ls which lt)

-- ---- when all writers have left

-- each pass has added all that it will
all_added : (writers : List (Option Log)) (cuts : List ℕ) (passes : List PassSums) (which : ℕ) → count_writers writers ≡ 0 → length cuts ≡ length writers → length passes ≡ length writers → sum_by (whole_share which) (tallies writers cuts passes) ≡ total which passes
all_added [] cuts [] which left a b = refl
all_added [] cuts (p ∷ passes) which left a b = absurd (omega arith)
all_added (Some units ∷ writers) cuts passes which left a b = absurd (omega arith)
all_added (None ∷ writers) [] passes which left a b = absurd (omega arith)
all_added (None ∷ writers) (n ∷ cuts) [] which left a b = absurd (omega arith)
all_added (None ∷ writers) (n ∷ cuts) (p ∷ passes) which left a b =
    omega (arith, sum_by-cons (whole_share which) (tally None n p) (tallies writers cuts passes), sum_by-cons (own_sum which) p passes, all_added writers cuts passes which left (omega arith) (omega arith))

-- all passes are of these counters
all_ours : (counters : CounterSet) (writers : List (Option Log)) (cuts : List ℕ) (passes : List PassSums) → length cuts ≡ length writers → length passes ≡ length writers → AllByRecursion (IsSound counters) (tallies writers cuts passes)
    → AreOf counters passes
all_ours counters [] cuts [] a b h = tt
all_ours counters [] cuts (p ∷ passes) a b h = absurd (omega arith)
all_ours counters (w ∷ writers) [] passes a b h = absurd (omega arith)
all_ours counters (w ∷ writers) (n ∷ cuts) [] a b h = absurd (omega arith)
all_ours counters (w ∷ writers) (n ∷ cuts) (p ∷ passes) a b h = (h.0.ours, all_ours counters writers cuts passes (omega arith) (omega arith) h.1)

-- a pass is of these counters, and added less than 2^55 to each
pub record IsPass (counters : CounterSet) (p : PassSums) : Type 0 where
  pub ours : p.counters ≡ counters
  pub whole : length p.sums ≡ counter_count
  pub low : (which : ℕ) → which < counter_count → own_sum which p < 2 ^ 55

all_passes : (counters : CounterSet) (writers : List (Option Log)) (cuts : List ℕ) (passes : List PassSums) → length cuts ≡ length writers → length passes ≡ length writers → AllByRecursion (IsSound counters) (tallies writers cuts passes)
    → AllByRecursion (IsPass counters) passes
all_passes counters [] cuts [] a b h = tt
all_passes counters [] cuts (p ∷ passes) a b h = absurd (omega arith)
all_passes counters (w ∷ writers) [] passes a b h = absurd (omega arith)
all_passes counters (w ∷ writers) (n ∷ cuts) [] a b h = absurd (omega arith)
all_passes counters (w ∷ writers) (n ∷ cuts) (p ∷ passes) a b h =
    let sound = h.0 in
    (record { ours = sound.ours; whole = sound.whole; low = λ which l. omega (arith, sound.low which l) }, all_passes counters writers cuts passes (omega arith) (omega arith) h.1)

-- so is the one at a place
pub pass_at : (counters : CounterSet) (listings : List Listing) (writers : List (Option Log)) (cuts : List ℕ) (passes : List PassSums) (i : ℕ) (p : PassSums) → AreTallied counters listings writers cuts passes → slice_get passes i ≡ Some p → IsPass counters p
pass_at counters listings writers cuts passes i p h at = kth_of (IsPass counters) passes i p (all_passes counters writers cuts passes h.as_many_cuts h.as_many_passes h.sound) at

-- the first of them
pub first_pass : (passes : List PassSums) (writers : List (Option Log)) (p : PassSums) → 0 < length writers → length passes ≡ length writers → p ≡ get_or passes 0 p → slice_get passes 0 ≡ Some p
first_pass passes writers p some same read = slice_get_read passes (length passes) 0 p refl (omega arith) read

-- so they are where one was put in another's place
pub ours_set : (counters : CounterSet) (listings : List Listing) (writers : List (Option Log)) (cuts : List ℕ) (passes : List PassSums) (i : ℕ) (q : PassSums) → AreTallied counters listings writers cuts passes → q.counters ≡ counters → AreOf counters (set passes i q)
ours_set counters listings writers cuts passes i q h is = all_set (λ (p : PassSums). p.counters ≡ counters) passes i q (all_ours counters writers cuts passes h.as_many_cuts h.as_many_passes h.sound) is

-- with what wrapped, the counters come to what the listings raise
pub all_values : (counters : CounterSet) (listings : List Listing) (writers : List (Option Log)) (cuts : List ℕ) (passes : List PassSums) (i wraps : ℕ) (p q : PassSums) → count_writers writers ≡ 0 → AreTallied counters listings writers cuts passes
    → slice_get passes i ≡ Some p → HasAdded (λ which. wrap_raise (slice_get causes which) wraps) p q → totals (set passes i q) ≡ counter_values listings wraps
all_values counters listings writers cuts passes i wraps p q left h at a =
    map_range (λ (which : ℕ). total which (set passes i q)) (λ (which : ℕ). counter_value which listings wraps) 0 counter_count (λ which l.
    let lt : which < counter_count = omega arith in
    let shares = ap sum (h.shares which lt) in
    omega (arith, sum_set (own_sum which) passes i (wrap_raise (slice_get causes which) wraps) p q at (a.added which lt), all_added writers cuts passes which left h.as_many_cuts h.as_many_passes, shares, sum-map (whole_share which) (tallies writers cuts passes), sum-map (listing_share which) listings))

-- before the first turn
pub new_tallied : (counters : CounterSet) (listings : List Listing) (writers : List (Option Log)) (cuts : List ℕ) (passes : List PassSums) → All (λ l. record_count l.units ≤ 4194304) listings → All (λ l. l.cuts ≤ record_count l.units) listings
    → writers ≡ map (λ (l : Listing). Some l.units) listings → cuts ≡ map (λ (l : Listing). l.cuts) listings → counters.passes ≡ length listings → passes ≡ replicate (length listings) (new_pass counters) → AreTallied counters listings writers cuts passes
new_tallied counters listings writers cuts passes records few_cuts ws cs count ps =
    let few = both_few listings (recursion_from_All (λ l. record_count l.units ≤ 4194304) listings records) (recursion_from_All (λ l. l.cuts ≤ record_count l.units) listings few_cuts) in
    let many_writers : length writers ≡ length listings = ap (λ (l : List (Option Log)). length l) ws ∙ length-map listings (λ (l : Listing). Some l.units) in
    let many_cuts : length cuts ≡ length listings = ap (λ (l : List ℕ). length l) cs ∙ length-map listings (λ (l : Listing). l.cuts) in
    let many_passes : length passes ≡ length listings = ap (λ (l : List PassSums). length l) ps ∙ length-replicate (length listings) (new_pass counters) in
    let is : tallies writers cuts passes ≡ tallies (map (λ (l : Listing). Some l.units) listings) (map (λ (l : Listing). l.cuts) listings) (replicate (length listings) (new_pass counters)) = cc (ws, cs, ps) in
    record {
      as_many = many_writers;
      as_many_cuts = many_cuts ∙ sym many_writers;
      as_many_passes = many_passes ∙ sym many_writers;
      all = count ∙ sym many_writers;
      sound = subst (AllByRecursion (IsSound counters)) (sym is) (new_sound counters listings few);
      shares = λ which l. ap (map (whole_share which)) is ∙ new_shares counters listings which l;
    }
  where
    both_few : (ls : List Listing) → AllByRecursion (λ l. record_count l.units ≤ 4194304) ls → AllByRecursion (λ l. l.cuts ≤ record_count l.units) ls → AllByRecursion IsFew ls
    both_few [] a b = tt
    both_few (l ∷ ls) a b = ((a.0, b.0), both_few ls a.1 b.1)

-- ---- whose turn it is

-- the k-th of the writers that have not left is this one, with these cuts and this pass
pub record IsTurnOf (writers : List (Option Log)) (cuts : List ℕ) (passes : List PassSums) (k place n : ℕ) (w : Option Log) (p : PassSums) : Type 0 where
  pub writer : IsWriterAt writers k place w
  pub writer_is : slice_get writers place ≡ Some w
  pub cuts_are : slice_get cuts place ≡ Some n
  pub pass_is : slice_get passes place ≡ Some p

-- it is found by its place
pub turn_of : (counters : CounterSet) (listings : List Listing) (writers seen : List (Option Log)) (cuts : List ℕ) (passes : List PassSums) (k place n : ℕ) (w : Option Log) (p : PassSums) → AreTallied counters listings writers cuts passes → seen ≡ writers
    → count_writers (take place seen) ≡ k → ((units : Log) × (slice_get seen place ≡ Some (Some units))) → w ≡ get_or writers place w → n ≡ get_or cuts place n → p ≡ get_or passes place p → IsTurnOf writers cuts passes k place n w p
turn_of counters listings writers seen cuts passes k place n w p h same behind found a b c =
    let at = writer_at writers seen k place w same behind found a in
    let within : place < length writers = slice_get_within writers place (Some at.units) at.at in
    let as_many_cuts = h.as_many_cuts in
    let as_many_passes = h.as_many_passes in
    record {
      writer = at;
      writer_is = at.at ∙ ap Some (sym at.is);
      cuts_are = slice_get_read cuts (length cuts) place n refl (omega arith) b;
      pass_is = slice_get_read passes (length passes) place p refl (omega arith) c;
    }
