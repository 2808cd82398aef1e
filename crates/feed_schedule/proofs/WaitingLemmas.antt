-- What writers have still to put, and which of them has a turn.
use Rattle.std.proofs.Common.{◌≡◌, ℕ, zero, suc, ◌+◌, ◌<◌, ◌≤◌, Bool, true, false, cond, List, [], ◌∷◌, ◌++◌, length, map, take, set, get_or, slice_get, drop, drop-cons, sym, refl, ap, ◌∙◌, subst, arith, Option, Some, None, length-append, append_assoc}
use Rattle.std.proofs.lemmas.List.Sums.{sum_by-append, sum_by-cons}
use Rattle.std.proofs.lemmas.List.{drop_all}
use Rattle.std.proofs.lemmas.List.Elements.{recursion_from_All}
use Rattle.std.proofs.lemmas.Option.{same_Some, slice_get_read, slice_get_within}
use Rattle.std.specs.List.{All, AllByRecursion}
use Rattle.std.specs.Option.{is_none, IsSome}
use Rattle.vsl_record.specs.Unit.{LogUnit, Log}
use Rattle.vsl_record.specs.Words.{unit_words}
use Rattle.ring_layout.specs.Places.{AreFit}
use Rattle.traffic_feed.specs.Listing.{word_count}
use Rattle.feed_schedule.specs.Schedule.{count_writers, put_by, without_next}
use Rattle.feed_schedule.specs.Replaying.{count_feed_words, waiting}

-- what is put in a turn stands somewhere in what was still to be put, and all else is still to be put then
record IsTaken (k : ℕ) (writers : List (Option Log)) : Type 0 where
  before : Log
  behind : Log
  whole : waiting writers ≡ before ++ (put_by k writers ++ behind)
  rest : waiting (without_next k writers) ≡ before ++ behind

-- each turn's unit does
taken : (k : ℕ) (writers : List (Option Log)) → IsTaken k writers
taken k [] = record { before = []; behind = []; whole = refl; rest = refl }
taken k (None ∷ writers) = let r = taken k writers in record { before = r.before; behind = r.behind; whole = r.whole; rest = r.rest }
taken zero (Some [] ∷ writers) = record { before = []; behind = waiting writers; whole = refl; rest = refl }
taken zero (Some (u ∷ units) ∷ writers) = record { before = []; behind = units ++ waiting writers; whole = refl; rest = refl }
taken (suc k) (Some units ∷ writers) =
    let r = taken k writers in
    record {
      before = units ++ r.before;
      behind = r.behind;
      whole = ap (λ (l : Log). units ++ l) r.whole ∙ sym (append_assoc units r.before (put_by k writers ++ r.behind));
      rest = ap (λ (l : Log). units ++ l) r.rest ∙ sym (append_assoc units r.before r.behind);
    }

-- a unit that is put isn't still to be put
pub put_length : (k : ℕ) (writers : List (Option Log)) → length (put_by k writers) + length (waiting (without_next k writers)) ≡ length (waiting writers)
put_length k writers =
    let t = taken k writers in
    let a = ap (λ (l : Log). length l) t.whole in
    let b = ap (λ (l : Log). length l) t.rest in
    let c = length-append t.before (put_by k writers ++ t.behind) in
    let d = length-append (put_by k writers) t.behind in
    let e = length-append t.before t.behind in
    omega arith

-- nor are its words
pub put_words : (k : ℕ) (writers : List (Option Log)) → word_count (put_by k writers) + word_count (waiting (without_next k writers)) ≡ word_count (waiting writers)
put_words k writers =
    let t = taken k writers in
    let size : LogUnit → ℕ = λ u. length (unit_words u) in
    let a = ap word_count t.whole in
    let b = ap word_count t.rest in
    let c = sum_by-append size t.before (put_by k writers ++ t.behind) in
    let d = sum_by-append size (put_by k writers) t.behind in
    let e = sum_by-append size t.before t.behind in
    omega arith

-- both parts of a fit log are fit
fit_parts : (seg : ℕ) (log more : Log) → AreFit unit_words seg (log ++ more) → AreFit unit_words seg log × AreFit unit_words seg more
fit_parts seg [] more h = (tt, h)
fit_parts seg (u ∷ log) more h = let r = fit_parts seg log more h.1 in ((h.0, r.0), r.1)

-- two fit logs in one
pub fit_append : (seg : ℕ) (log more : Log) → AreFit unit_words seg log → AreFit unit_words seg more → AreFit unit_words seg (log ++ more)
fit_append seg [] more h m = m
fit_append seg (u ∷ log) more h m = (h.0, fit_append seg log more h.1 m)

-- what is put is fit, and so is what is still to be put then
pub put_is_fit : (seg k : ℕ) (writers : List (Option Log)) → AreFit unit_words seg (waiting writers) → AreFit unit_words seg (put_by k writers) × AreFit unit_words seg (waiting (without_next k writers))
put_is_fit seg k writers h =
    let t = taken k writers in
    let p = fit_parts seg t.before (put_by k writers ++ t.behind) (subst (AreFit unit_words seg) t.whole h) in
    let q = fit_parts seg (put_by k writers) t.behind p.1 in
    (q.0, subst (AreFit unit_words seg) (sym t.rest) (fit_append seg t.before t.behind p.0 q.1))

-- a writer puts the unit that it is at
pub one_put : (left : Bool) (put : ℕ) (units slice : Log) (w : Option Log) (u : LogUnit) → cond left None (Some (drop put units)) ≡ w → IsSome w → slice ≡ units → put < length slice → u ≡ get_or slice put u → put_by 0 (w ∷ []) ≡ u ∷ []
one_put true put units slice w u is some same inside read = let no = subst IsSome (sym is) some in cc no
one_put false put units slice w u is some same inside read =
    let rest : drop put slice ≡ u ∷ drop (suc put) slice = drop-cons slice put u inside ∙ ap (λ (v : LogUnit). v ∷ drop (suc put) slice) (sym read) in
    ap (λ (o : Option Log). put_by 0 (o ∷ [])) (sym is ∙ ap (λ (l : Log). Some (drop put l)) (sym same) ∙ ap Some rest)

-- where none is left it puts nothing
pub none_put : (left : Bool) (put : ℕ) (units slice : Log) (w : Option Log) → cond left None (Some (drop put units)) ≡ w → slice ≡ units → length slice ≤ put → put_by 0 (w ∷ []) ≡ []
none_put true put units slice w is same past = ap (λ (o : Option Log). put_by 0 (o ∷ [])) (sym is)
none_put false put units slice w is same past = ap (λ (o : Option Log). put_by 0 (o ∷ [])) (sym is ∙ ap (λ (l : Log). Some (drop put l)) (sym same) ∙ ap Some (drop_all put slice past))

-- ---- which writer it is

one_more : (n : ℕ) → 1 + n ≡ suc n
one_more n = omega arith

-- a writer that has so many before it that have not left puts what it would put alone
put_at : (place : ℕ) (writers : List (Option Log)) (units : Log) → slice_get writers place ≡ Some (Some units) → put_by (count_writers (take place writers)) writers ≡ put_by 0 (Some units ∷ [])
put_at place [] units e = cc e
put_at zero (None ∷ writers) units e = cc e
put_at zero (Some [] ∷ writers) units e = ap (λ (w : Option Log). put_by 0 (w ∷ [])) (same_Some (Some []) (Some units) e)
put_at zero (Some (u ∷ more) ∷ writers) units e = ap (λ (w : Option Log). put_by 0 (w ∷ [])) (same_Some (Some (u ∷ more)) (Some units) e)
put_at (suc place) (None ∷ writers) units e = put_at place writers units e
put_at (suc place) (Some x ∷ writers) units e = ap (λ (k : ℕ). put_by k (Some x ∷ writers)) (one_more (count_writers (take place writers))) ∙ put_at place writers units e

-- and is then as it would be alone
after_at : (place : ℕ) (writers : List (Option Log)) (units : Log) (w : Option Log) → slice_get writers place ≡ Some (Some units) → without_next 0 (Some units ∷ []) ≡ w ∷ []
    → without_next (count_writers (take place writers)) writers ≡ set writers place w
after_at place [] units w e alone = cc
after_at zero (None ∷ writers) units w e alone = cc e
after_at zero (Some [] ∷ writers) units w e alone = let a : None ∷ [] ≡ w ∷ [] = ap (λ (o : Option Log). without_next 0 (o ∷ [])) (same_Some (Some []) (Some units) e) ∙ alone in cc a
after_at zero (Some (u ∷ more) ∷ writers) units w e alone = let a : Some more ∷ [] ≡ w ∷ [] = ap (λ (o : Option Log). without_next 0 (o ∷ [])) (same_Some (Some (u ∷ more)) (Some units) e) ∙ alone in cc a
after_at (suc place) (None ∷ writers) units w e alone = ap (λ l. None ∷ l) (after_at place writers units w e alone)
after_at (suc place) (Some x ∷ writers) units w e alone =
    ap (λ (k : ℕ). without_next k (Some x ∷ writers)) (one_more (count_writers (take place writers))) ∙ ap (λ l. Some x ∷ l) (after_at place writers units w e alone)

-- this is the writer that has so many before it that have not left
pub record IsWriterAt (writers : List (Option Log)) (k place : ℕ) (w : Option Log) : Type 0 where
  pub units : Log
  pub is : w ≡ Some units
  pub at : slice_get writers place ≡ Some (Some units)
  pub behind : count_writers (take place writers) ≡ k

-- it is found by its place
pub writer_at : (writers seen : List (Option Log)) (k place : ℕ) (w : Option Log) → seen ≡ writers → count_writers (take place seen) ≡ k → ((units : Log) × (slice_get seen place ≡ Some (Some units))) → w ≡ get_or writers place w
    → IsWriterAt writers k place w
writer_at writers seen k place w same behind found read =
    let at : slice_get writers place ≡ Some (Some found.0) = ap (λ (l : List (Option Log)). slice_get l place) (sym same) ∙ found.1 in
    let is_w : slice_get writers place ≡ Some w = slice_get_read writers (length writers) place w refl (slice_get_within writers place (Some found.0) at) read in
    record { units = found.0; is = same_Some w (Some found.0) (sym is_w ∙ at); at = at; behind = ap (λ (l : List (Option Log)). count_writers (take place l)) (sym same) ∙ behind }

-- its turn is that of the k-th
pub puts_at : (writers : List (Option Log)) (k place : ℕ) (w : Option Log) → IsWriterAt writers k place w → put_by k writers ≡ put_by 0 (w ∷ [])
puts_at writers k place w h = ap (λ (j : ℕ). put_by j writers) (sym h.behind) ∙ put_at place writers h.units h.at ∙ ap (λ (o : Option Log). put_by 0 (o ∷ [])) (sym h.is)

pub leaves_at : (writers : List (Option Log)) (k place : ℕ) (w after : Option Log) → IsWriterAt writers k place w → without_next 0 (w ∷ []) ≡ after ∷ [] → without_next k writers ≡ set writers place after
leaves_at writers k place w after h alone =
    ap (λ (j : ℕ). without_next j writers) (sym h.behind) ∙ after_at place writers h.units after h.at (ap (λ (o : Option Log). without_next 0 (o ∷ [])) (sym h.is) ∙ alone)

next_place : (place : ℕ) → suc place + 1 ≡ suc (place + 1)
next_place place = omega arith

-- with one writer more, one more hasn't left, or none
count_more : (place : ℕ) (writers : List (Option Log)) (w : Option Log) → slice_get writers place ≡ Some w → count_writers (take (place + 1) writers) ≡ count_writers (take place writers) + count_writers (w ∷ [])
count_more place [] w e = cc e
count_more zero (None ∷ writers) w e = let a = ap (λ (o : Option Log). count_writers (o ∷ [])) (same_Some None w e) in omega arith
count_more zero (Some units ∷ writers) w e = let a = ap (λ (o : Option Log). count_writers (o ∷ [])) (same_Some (Some units) w e) in omega arith
count_more (suc place) (None ∷ writers) w e = ap (λ (k : ℕ). count_writers (take k (None ∷ writers))) (next_place place) ∙ count_more place writers w e
count_more (suc place) (Some units ∷ writers) w e =
    let r = count_more place writers w e in
    let a = ap (λ (k : ℕ). count_writers (take k (Some units ∷ writers))) (next_place place) in
    omega arith

-- so many of one writer have not left
one_stays : (w : Option Log) → is_none w ≡ false → count_writers (w ∷ []) ≡ 1
one_stays None e = cc e
one_stays (Some units) e = refl

one_left : (w : Option Log) → is_none w ≡ true → count_writers (w ∷ []) ≡ 0
one_left None e = refl
one_left (Some units) e = cc e

-- one more hasn't left
pub count_stays : (place : ℕ) (writers : List (Option Log)) (w : Option Log) → slice_get writers place ≡ Some w → is_none w ≡ false → count_writers (take (place + 1) writers) ≡ count_writers (take place writers) + 1
count_stays place writers w e stays = let more = count_more place writers w e in let one = one_stays w stays in omega arith

-- and one that left doesn't count
pub count_left : (place : ℕ) (writers : List (Option Log)) (w : Option Log) → slice_get writers place ≡ Some w → is_none w ≡ true → count_writers (take (place + 1) writers) ≡ count_writers (take place writers)
count_left place writers w e left = let more = count_more place writers w e in let one = one_left w left in omega arith

-- ---- before the first turn

-- all the feeds' units are still to be put
first_fit : (seg : ℕ) (feeds : List Log) → AllByRecursion (AreFit unit_words seg) feeds → AreFit unit_words seg (waiting (map Some feeds))
first_fit seg [] h = tt
first_fit seg (feed ∷ feeds) h = fit_append seg feed (waiting (map Some feeds)) h.0 (first_fit seg feeds h.1)

-- they are fit
pub first_is_fit : (seg : ℕ) (feeds : List Log) → All (AreFit unit_words seg) feeds → AreFit unit_words seg (waiting (map Some feeds))
first_is_fit seg feeds h = first_fit seg feeds (recursion_from_All (AreFit unit_words seg) feeds h)

-- they have so many words
pub first_words : (feeds : List Log) → word_count (waiting (map Some feeds)) ≡ count_feed_words feeds
first_words [] = refl
first_words (feed ∷ feeds) = sum_by-append (λ (u : LogUnit). length (unit_words u)) feed (waiting (map Some feeds)) ∙ ap (λ (n : ℕ). word_count feed + n) (first_words feeds)
    ∙ sym (sum_by-cons word_count feed feeds)

-- no writer has left
pub first_count : (feeds : List Log) → count_writers (map Some feeds) ≡ length feeds
first_count [] = refl
first_count (feed ∷ feeds) = let r = first_count feeds in omega arith
