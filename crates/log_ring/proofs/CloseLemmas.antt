-- The seat that stands for all writers has the whole log.
use Rattle.std.proofs.Common.{◌≡◌, ◌≢◌, ◌⊎◌, ℕ, zero, suc, ◌/◌, ◌<◌, ◌≤◌, cond, eqb, List, [], ◌∷◌, map, reverse, length, get_or, sym, refl, ap, ◌∙◌, subst, ⊎_elim, inl, inr, arith, eq-eqb, ne_eqb, Option, Some, None, slice_get}
use Rattle.std.specs.List.{AllByRecursion}
use Rattle.std.proofs.lemmas.List.{length-map, length-reverse, reverse-reverse, reverse-append}
use mathlib.Core.Logic.{dite}
use mathlib.Core.Option.{some, none, some-injective, some-ne-none}
use native.Mathlib.Decide.{ℕ_discrete}
use lib.ListN.{get_elem?}
use Rattle.atomic_table.specs.Table.{step, keeps, Allows}
use Rattle.log_model.specs.Interleaving.{given_to, IsInterleaving}
use Rattle.vsl_record.specs.Unit.{LogUnit, Log}
use Rattle.ring_layout.specs.declared.history.HistoryItem.{HistoryItem}
use Rattle.ring_layout.specs.declared.history.HistoryItem.TheVariants.{UnitRun, Overrun}
use Rattle.ring_layout.specs.Places.{end_at, tail}
use Rattle.ring_layout.specs.History.{IsReadBack, ReachesTail}
use Rattle.log_ring.specs.declared.rule.RingKey.{RingKey}
use Rattle.log_ring.specs.declared.rule.WriterView.{WriterView}
use Rattle.log_ring.specs.declared.rule.Progress.{Progress}
use Rattle.log_ring.specs.declared.rule.Progress.TheVariants.{Free, Storing, Stored}
use Rattle.log_ring.specs.declared.rule.ReaderView.{ReaderView}
use Rattle.log_ring.specs.declared.rule.View.{View}
use Rattle.log_ring.specs.Closed.{AreObserved, entries_from, IsDone}
use Rattle.log_ring.specs.inside.Rule.{KnowsToken, PutAll, IsWithout, AreApart, IsNext, IsReader, IsUnderWay, HoldsOneLog, writers_of, HasNumber, IsSeated}
use Rattle.log_ring.specs.inside.Closing.{units_of, entries_in, Settles}
use Rattle.log_model.proofs.SumLemmas.{rest_zero}
use Rattle.log_ring.proofs.EntryLemmas.{entries_long}
use Rattle.log_ring.proofs.SeatLemmas.{all_map, some_at}
use Rattle.log_ring.proofs.WordLemmas.{ent, word}
use Rattle.log_ring.proofs.RuleLemmas.{M, St, storing_free, stored_free, overrun_item, looks}

-- which of these writers has a number
abbrev place : List WriterView → ℕ → ℕ
place [] k = 0
place (x ∷ xs) k = cond (eqb x.number k) 0 (suc (place xs k))

place_below : (xs : List WriterView) (k : ℕ) → HasNumber k xs → place xs k < length xs
place_below [] k h = absurd h
place_below (y ∷ ys) k h = dite (ℕ_discrete y.number k) (λ e. rw (eq-eqb y.number k e) (omega arith))
    (λ n. rw (ne_eqb y.number k n) (let r = place_below ys k (⊎_elim (λ e. absurd (n e)) (λ r. r) h) in omega arith))

without_at : (k i : ℕ) (xs : List WriterView) (x : WriterView) → IsWithout k xs → get_elem? xs i ≡ some x → x.number ≢ k
without_at k i [] x h e = absurd (some-ne-none x (sym e))
without_at k zero (y ∷ ys) x h e = λ c. h.0 (ap (λ (z : WriterView). z.number) (some-injective y x e) ∙ c)
without_at k (suc i) (y ∷ ys) x h e = without_at k i ys x h.1 e

suc_eqb : (a b : ℕ) → eqb (suc a) (suc b) ≡ eqb a b
suc_eqb a b = dite (ℕ_discrete a b) (λ e. eq-eqb (suc a) (suc b) (ap suc e) ∙ sym (eq-eqb a b e)) (λ n. ne_eqb (suc a) (suc b) (λ z. n (omega arith)) ∙ sym (ne_eqb a b n))

-- a number is at the place i exactly where it is the number of the writer there
place_is : (xs : List WriterView) (i : ℕ) (x : WriterView) (k : ℕ) → AreApart xs → get_elem? xs i ≡ some x → eqb (place xs k) i ≡ eqb k x.number
place_is [] i x k a e = absurd (some-ne-none x (sym e))
place_is (y ∷ ys) zero x k a e = let same : y.number ≡ x.number = ap (λ (z : WriterView). z.number) (some-injective y x e) in dite (ℕ_discrete y.number k)
    (λ h. rw (eq-eqb y.number k h) (sym (eq-eqb k x.number (sym h ∙ same))))
    (λ n. rw (ne_eqb y.number k n) (ne_eqb (suc (place ys k)) 0 (λ z. omega arith) ∙ sym (ne_eqb k x.number (λ z. n (same ∙ sym z)))))
place_is (y ∷ ys) (suc i) x k a e = dite (ℕ_discrete y.number k)
    (λ h. rw (eq-eqb y.number k h) (ne_eqb 0 (suc i) (λ z. omega arith) ∙ sym (ne_eqb k x.number (λ z. without_at y.number i ys x a.0 e (sym z ∙ sym h)))))
    (λ n. rw (ne_eqb y.number k n) (suc_eqb (place ys k) i ∙ place_is ys i x k a.1 e))

-- what is given to a place is what is given to the writer there
given_place : {A : Type 0} (xs : List WriterView) (i : ℕ) (x : WriterView) → AreApart xs → get_elem? xs i ≡ some x → (owners : List ℕ) (log : List A) → given_to i (map (place xs) owners) log ≡ given_to x.number owners log
given_place xs i x a e [] log = refl
given_place xs i x a e (o ∷ os) [] = refl
given_place xs i x a e (o ∷ os) (u ∷ us) = (λ c. cond (place_is xs i x o a e c) (u ∷ given_to i (map (place xs) os) us) (given_to i (map (place xs) os) us))
    ∙ (λ c. cond (eqb o x.number) (u ∷ given_place xs i x a e os us c) (given_place xs i x a e os us c))

-- the units of what is given are what is given of the units
given_units : (words : LogUnit → List ℕ) (seg t k : ℕ) (owners : List ℕ) (log : Log) → map (λ (e : ℕ × LogUnit). e.1) (given_to k owners (entries_from words seg t log)) ≡ given_to k owners log
given_units words seg t k [] log = refl
given_units words seg t k (o ∷ os) [] = refl
given_units words seg t k (o ∷ os) (u ∷ us) = let rest = given_units words seg (end_at seg t (length (words u))) k os us in dite (ℕ_discrete o k)
    (λ e. rw (eq-eqb o k e) (ap (λ (l : Log). u ∷ l) rest))
    (λ n. rw (ne_eqb o k n) rest)

index_all : (f : ℕ → ℕ) (n : ℕ) (os : List ℕ) → AllByRecursion (λ k. f k < n) os → (i : ℕ) → i < length (map f os) → get_or (map f os) i 0 < n
index_all f n [] all i l = absurd (omega arith)
index_all f n (o ∷ os) all zero l = all.0
index_all f n (o ∷ os) all (suc i) l = index_all f n os all.1 i (omega arith)

get_map : {X Y : Type 0} (f : X → Y) (xs : List X) (i : ℕ) (x : X) → get_elem? xs i ≡ some x → slice_get (map f xs) i ≡ Some (f x)
get_map f [] i x e = absurd (some-ne-none x (sym e))
get_map f (y ∷ ys) zero x e = ap (λ z. Some (f z)) (some-injective y x e)
get_map f (y ∷ ys) (suc i) x e = get_map f ys i x e

no_writers : (xs : List WriterView) (k : ℕ) → length xs ≡ 0 → HasNumber k xs → ⊥
no_writers [] k e h = h
no_writers (x ∷ xs) k e h = omega arith

progress_cases : (h : Progress) → (h ≡ Free) ⊎ (h ≢ Free)
progress_cases Free = inl refl
progress_cases (Storing p) = inr storing_free
progress_cases (Stored p) = inr stored_free

module _ (words : LogUnit → List ℕ) (key : RingKey) where
  put_at : (seg : ℕ) (log : Log) (owners : List ℕ) (seat : ℕ → ℕ) (j : ℕ) (xs : List WriterView) (i : ℕ) (x : WriterView) → get_elem? xs i ≡ some x → PutAll words seg log owners seat j xs → x.entries ≡ given_to x.number owners (entries_from words seg 0 log)
  put_at seg log owners seat j [] i x e h = absurd (some-ne-none x (sym e))
  put_at seg log owners seat j (y ∷ ys) zero x e h = subst (λ (z : WriterView). z.entries ≡ given_to z.number owners (entries_from words seg 0 log)) (some-injective y x e) h.0.1
  put_at seg log owners seat j (y ∷ ys) (suc i) x e h = put_at seg log owners seat j ys i x e h.1

  -- a list is an interleaving of what is given to all writers, of whatever each of them has what is given to its number
  interleaved : {A : Type 0} (given_part : WriterView → List A) (log : List A) (s : St words key) (r : HoldsOneLog words key s) (id : ℕ) (v : View) → get_elem? s.views id ≡ some v → length v.writers ≡ key.writers → length r.shared.owners ≡ length log
      → ((i : ℕ) (x : WriterView) → get_elem? v.writers i ≡ some x → given_part x ≡ given_to x.number r.shared.owners log) → IsInterleaving log (map given_part v.writers)
  interleaved given_part log s r id v at all long given =
      let w = r.shared in
      let o = r.seats id v at in
      let count = length-map v.writers given_part in
      let has : AllByRecursion (λ k. HasNumber k v.writers) w.owners = all_map (IsSeated w.seat s.views) (λ k. HasNumber k v.writers) w.owners (λ k q. dite (ℕ_discrete (w.seat k) id)
      (λ e. subst (λ (z : View). HasNumber k z.writers) (some-injective q.view v (sym q.there ∙ (ap (λ (z : ℕ). get_elem? s.views z) e ∙ at))) q.has)
      (λ ne. let c = r.writers in absurd (no_writers q.view.writers k (rest_zero writers_of s.views id (w.seat k) v q.view at q.there ne (omega arith)) q.has))) r.owners in record {
        owners = map (place v.writers) w.owners;
        one_each = length-map w.owners (place v.writers) ∙ long;
        are_lists = λ i l. index_all (place v.writers) (length (map given_part v.writers)) w.owners
            (all_map (λ k. HasNumber k v.writers) (λ k. place v.writers k < length (map given_part v.writers)) w.owners (λ k h. let b = place_below v.writers k h in omega arith) has) i l;
        whole = λ i l. let x = some_at v.writers i (omega arith) in get_map given_part v.writers i x.0 x.1 ∙ ap Some (given i x.0 x.1 ∙ sym (given_place v.writers i x.0 o.apart x.1 w.owners log));
      }

  -- no put is in progress, so the counter is the tail's segment
  at_rest : (s : St words key) (r : HoldsOneLog words key s) (id : ℕ) (v : View) → get_elem? s.views id ≡ some v → length v.writers ≡ key.writers → v.progress ≡ Free → r.shared.counter ≡ tail words key.seg r.shared.log / key.seg
  at_rest s r id v at all free =
      let w = r.shared in ⊎_elim
      (λ (none_yet : w.progress ≡ Free). subst (λ (h : Progress). IsUnderWay words key.seg w.log w.counter h (ent s.words) (word s.words)) none_yet r.are_words.under_way)
      (λ (held : w.progress ≢ Free). let u = some_at s.views w.holder (r.holder held) in let q = r.seats w.holder u.0 u.1 in absurd (dite (ℕ_discrete w.holder id)
      (λ e. subst (KnowsToken w.progress w.holder id) free (r.seats id v at).token held (sym e))
      (λ ne. let c = r.writers in let none_there : length u.0.writers ≡ 0 = rest_zero writers_of s.views id w.holder v u.0 at u.1 ne (omega arith) in let low = q.finished in
      subst (KnowsToken w.progress w.holder w.holder) (q.idle (omega arith)) q.token held refl)))
      (progress_cases w.progress)

  next_item : (k : ℕ) (items : List (HistoryItem LogUnit)) → IsNext k items → 0 < length items
  next_item k [] h = absurd h
  next_item k (x ∷ xs) h = omega arith

  lost_or : (r : ReaderView) (lost : Option ℕ) → r.lost ≡ lost → (c finished : ℕ) (log : Log) → IsReader words key log c finished r → 0 < length r.items
  lost_or r None e c finished log h = next_item r.number r.items (h.reading e).next
  lost_or r (Some at) e c finished log h = overrun_item at r.items (h.overrun at e)

  some_item : (r : ReaderView) (c finished : ℕ) (log : Log) → IsReader words key log c finished r → (0 < length r.items)
  some_item r c finished log h = lost_or r r.lost refl c finished log h

  -- the newest item is a run that ends where the log does
  reaches : (items : List (HistoryItem LogUnit)) (log : Log) → IsNext (length log) items → ReachesTail log (reverse items)
  reaches [] log h = absurd h
  reaches (UnitRun q ∷ is) log h = record { before = reverse is; run = q; last = reverse-append (UnitRun q ∷ []) is; ends = sym h }
  reaches (Overrun a b ∷ is) log h = absurd h

  -- a reader is done with the whole log
  done : (r : ReaderView) (c finished : ℕ) (log : Log) → c ≡ tail words key.seg log / key.seg → IsReader words key log c finished r → IsDone words key.seg log r
  done r c finished log level h = record {
    history = (
      λ e. let some_one = some_item r c finished log h in let l = ap length e in omega (arith, length-reverse r.items),
      subst (λ (l : List (HistoryItem LogUnit)). IsReadBack words key.seg (tail words key.seg log / key.seg) log l) (sym (reverse-reverse r.items)) (subst (λ (z : ℕ). IsReadBack words key.seg z log r.items) level h.history),
    );
    stands = λ free. (h.reading free).stands;
    observed = subst (λ (z : ℕ). AreObserved words key.seg log z r.observed) level h.observed;
    ended = λ e. reaches r.items log (h.ended e).1;
  }

  pub settles : (slots id : ℕ) (me : M words key) → me.0.progress ≡ Free → length me.0.writers ≡ key.writers → 0 < key.writers → Allows (HoldsOneLog words key) slots id me 0 (λ x. x) (Settles words (step slots 0 0 0 none) me)
  settles slots id me free all some_one s r _ at small =
      let w = r.shared in
      let o = r.seats id me.0 at in
      let ring : me.0.ring ≡ key = o.ring (omega arith) in
      let seg_is : key.seg ≡ me.0.ring.seg = ap (λ (k : RingKey). k.seg) (sym ring) in
      let level = at_rest s r id me.0 at all free in
      let v' : View = record me.0 { log = w.log } in (
        v',
        keeps,
        tt,
        looks words key s r 0 id me.1 me.0 v' at record { ring = o.ring; put = o.put; apart = o.apart; token = o.token; found = o.found; finished = o.finished; idle = o.idle; readers = o.readers } refl refl,
        (
          w.log,
          refl,
          record {
            writers = interleaved units_of w.log s r id me.0 at all r.one_each (λ i x e. ap (λ (es : List (ℕ × LogUnit)). map (λ (z : ℕ × LogUnit). z.1) es) (put_at key.seg w.log w.owners w.seat id me.0.writers i x e o.put) ∙ given_units words key.seg 0 x.number w.owners w.log);
            entries = subst (λ (z : ℕ). IsInterleaving (entries_from words z 0 w.log) (map entries_in me.0.writers)) seg_is
                (interleaved entries_in (entries_from words key.seg 0 w.log) s r id me.0 at all (r.one_each ∙ sym (entries_long words key.seg 0 w.log)) (λ i x e. put_at key.seg w.log w.owners w.seat id me.0.writers i x e o.put));
            readers = subst (λ (z : ℕ). AllByRecursion (IsDone words z w.log) me.0.readers) seg_is (all_map (IsReader words key w.log w.counter w.finished) (IsDone words key.seg w.log) me.0.readers (λ q h. done q w.counter w.finished w.log level h) o.readers);
            found = subst (λ (z : ℕ). me.0.found ≤ tail words z w.log) seg_is o.found;
          },
        ),
      )
