-- The first seat, a seat that gives a writer or a reader to a new one, and a seat that takes in another.
use Rattle.std.proofs.Common.{◌≡◌, ◌≢◌, ℕ, zero, suc, ◌+◌, ◌*◌, ◌/◌, ◌^◌, ◌<◌, ◌≤◌, cond, eqb, List, [], ◌∷◌, ◌++◌, length, get_or, set, sym, refl, ap, ◌∙◌, subst, ⊎_elim, inl, inr, arith, eq-eqb, ne_eqb, length-set, length-append}
use Rattle.std.specs.List.{AllByRecursion}
use Rattle.std.proofs.lemmas.Nat.{div_below}
use Rattle.std.proofs.lemmas.List.Sums.{sum_by_push}
use mathlib.Core.Logic.{dite}
use mathlib.Core.Option.{some, some-injective, some-ne-none}
use native.Mathlib.Decide.{ℕ_discrete}
use lib.ListN.{get_elem?}
use Rattle.atomic_table.specs.Table.{Splits, Joins, opening}
use Rattle.atomic_table.proofs.Lists.{set_here, set_else, at_longer}
use Rattle.vsl_record.specs.Unit.{LogUnit, Log}
use Rattle.ring_layout.specs.Places.{IsSegment, end_mark}
use Rattle.ring_layout.proofs.StartLemmas.{first_start, empty_holds}
use Rattle.ring_layout.proofs.NumberedLemmas.{empty_numbers}
use Rattle.log_ring.specs.declared.rule.RingKey.{RingKey}
use Rattle.log_ring.specs.declared.rule.WriterView.{WriterView}
use Rattle.log_ring.specs.declared.rule.Progress.TheVariants.{Free}
use Rattle.log_ring.specs.declared.rule.ReaderView.{ReaderView}
use Rattle.log_ring.specs.declared.rule.View.{View}
use Rattle.log_ring.specs.Ring.{most_writers}
use Rattle.log_ring.specs.Readers.{new_reader}
use Rattle.log_ring.specs.inside.Rule.{SharedState, KnowsToken, PutAll, IsWithout, AreApart, AreWords, IsReader, IsSeat, HoldsOneLog, finished_of, writers_of, HasNumber, IsSeated}
use Rattle.log_ring.specs.inside.Writing.{new_writer_views, new_reader_views, first_view, later_writers, first_writer, without_writer, one_writer, later_readers, first_reader, without_reader, one_reader, both_views, no_view}
use Rattle.log_model.proofs.SumLemmas.{sum_set}
use Rattle.log_ring.proofs.SeatLemmas.{all_map, all_join, inside_at, at_new, at_end, seats_stay, seated_on}

div_zero : (n : ℕ) → 0 < n → 0 / n ≡ 0
div_zero n pos = let b : 0 / n < 1 = div_below 0 n 1 pos (omega arith) in omega arith

-- a writer of these with a number is not without it
not_in : (k : ℕ) (xs : List WriterView) → IsWithout k xs → HasNumber k xs → ⊥
not_in k [] h has = has
not_in k (x ∷ xs) h has = ⊎_elim (λ e. h.0 e) (λ r. not_in k xs h.1 r) has

has_left : (k : ℕ) (xs ys : List WriterView) → HasNumber k xs → HasNumber k (xs ++ ys)
has_left k [] ys h = absurd h
has_left k (x ∷ xs) ys h = ⊎_elim (λ e. inl e) (λ r. inr (has_left k xs ys r)) h

has_right : (k : ℕ) (xs ys : List WriterView) → HasNumber k ys → HasNumber k (xs ++ ys)
has_right k [] ys h = h
has_right k (x ∷ xs) ys h = inr (has_right k xs ys h)

without_join : (k : ℕ) (xs ys : List WriterView) → IsWithout k xs → IsWithout k ys → IsWithout k (xs ++ ys)
without_join k [] ys h l = l
without_join k (x ∷ xs) ys h l = (h.0, without_join k xs ys h.1 l)

-- new writers are numbered apart
new_without : (j k n : ℕ) → j < k → IsWithout j (new_writer_views k n)
new_without j k zero l = tt
new_without j k (suc n) l = ((λ e. omega arith), new_without j (k + 1) n (omega arith))

new_apart : (k n : ℕ) → AreApart (new_writer_views k n)
new_apart k zero = tt
new_apart k (suc n) = (new_without k (k + 1) n (omega arith), new_apart (k + 1) n)

new_long : (k n : ℕ) → length (new_writer_views k n) ≡ n
new_long k zero = refl
new_long k (suc n) = ap suc (new_long (k + 1) n)

module _ (words : LogUnit → List ℕ) where
  -- writers that are where another state says, and put the same
  put_as : (seg : ℕ) (log : Log) (owners : List ℕ) (seat seat' : ℕ → ℕ) (j j' : ℕ) (xs : List WriterView) → ((k : ℕ) → seat k ≡ j → HasNumber k xs → seat' k ≡ j') → PutAll words seg log owners seat j xs → PutAll words seg log owners seat' j' xs
  put_as seg log owners seat seat' j j' [] there h = tt
  put_as seg log owners seat seat' j j' (x ∷ xs) there h = ((there x.number h.0.0 (inl refl), h.0.1), put_as seg log owners seat seat' j j' xs (λ k e has. there k e (inr has)) h.1)

  put_join : (seg : ℕ) (log : Log) (owners : List ℕ) (seat : ℕ → ℕ) (j : ℕ) (xs ys : List WriterView) → PutAll words seg log owners seat j xs → PutAll words seg log owners seat j ys → PutAll words seg log owners seat j (xs ++ ys)
  put_join seg log owners seat j [] ys h k = k
  put_join seg log owners seat j (x ∷ xs) ys h k = (h.0, put_join seg log owners seat j xs ys h.1 k)

  -- numbers that are in another seat
  without_seat : (seg : ℕ) (log : Log) (owners : List ℕ) (seat : ℕ → ℕ) (i j k : ℕ) (ys : List WriterView) → seat k ≡ i → i ≢ j → PutAll words seg log owners seat j ys → IsWithout k ys
  without_seat seg log owners seat i j k [] e ne h = tt
  without_seat seg log owners seat i j k (y ∷ ys) e ne h = (λ s. ne (sym e ∙ (ap seat (sym s) ∙ h.0.0)), without_seat seg log owners seat i j k ys e ne h.1)

  apart_join : (seg : ℕ) (log : Log) (owners : List ℕ) (seat : ℕ → ℕ) (i j : ℕ) (xs ys : List WriterView) → i ≢ j → PutAll words seg log owners seat i xs → PutAll words seg log owners seat j ys → AreApart xs → AreApart ys → AreApart (xs ++ ys)
  apart_join seg log owners seat i j [] ys ne h k a b = b
  apart_join seg log owners seat i j (x ∷ xs) ys ne h k a b = (without_join x.number xs ys a.0 (without_seat seg log owners seat i j x.number ys h.0.0 ne k), apart_join seg log owners seat i j xs ys ne h.1 k a.1 b)

  new_put : (seg k n : ℕ) → PutAll words seg [] [] (λ _. 0) 0 (new_writer_views k n)
  new_put seg k zero = tt
  new_put seg k (suc n) = ((refl, refl), new_put seg (k + 1) n)

  module _ (key : RingKey) where
    new_is_reader : 0 < key.seg → IsReader words key [] 0 0 new_reader
    new_is_reader pos = record {
      history = (record { units = refl; inside = omega arith; segment = omega arith }, (refl, refl, refl), tt);
      reading = λ _. record { next = omega arith; stands = inl ((λ _. first_start words key.seg pos), λ z. absurd (omega arith)); due = (omega arith, inl refl) };
      overrun = λ at e. cc e;
      unchecked = tt;
      seen = omega arith;
      loaded = omega arith;
      finished_seen = omega arith;
      observed = tt;
      ended = λ e. cc e;
    }

    are_readers : 0 < key.seg → (n : ℕ) → AllByRecursion (IsReader words key [] 0 0) (new_reader_views n)
    are_readers pos zero = tt
    are_readers pos (suc n) = (new_is_reader pos, are_readers pos n)

    abbrev empty : SharedState
    empty = record { log = []; owners = []; seat = λ _. 0; holder = 0; progress = Free; counter = 0; finished = 0 }

    first_seat : 0 < key.seg → IsSeat words key empty 0 (first_view key)
    first_seat pos = record {
      ring = λ _. refl;
      put = new_put key.seg 0 key.writers;
      apart = new_apart 0 key.writers;
      token = λ p. absurd (p refl);
      found = omega arith;
      finished = omega arith;
      idle = λ _. refl;
      readers = are_readers pos key.readers;
    }

    first_only : 0 < key.seg → (j : ℕ) (v : View) → get_elem? (first_view key ∷ []) j ≡ some v → IsSeat words key empty j v
    first_only pos zero v e = subst (IsSeat words key empty 0) (some-injective (first_view key) v e) (first_seat pos)
    first_only pos (suc j) v e = absurd (some-ne-none v (sym e))

    -- words of zeros, but the write token and the end mark, hold no unit
    pub opens : (ws : List ℕ) → IsSegment key.seg → key.writers ≤ most_writers → length ws ≡ 32 + 8 * key.seg → get_or ws 0 0 ≡ 1 → get_or ws 32 0 ≡ end_mark → ((i : ℕ) → i ≢ 0 → i ≢ 32 → get_or ws i 0 ≡ 0)
        → HoldsOneLog words key (opening ws [] (first_view key))
    opens ws shape few wide token mark zeros =
        let pos : 0 < key.seg = (let l = shape.0 in omega arith) in record {
          segment = shape;
          few = few;
          shared = empty;
          are_words = record {
            wide = wide;
            token = token;
            counter = zeros 8 (λ e. omega arith) (λ e. omega arith);
            finished = zeros 17 (λ e. omega arith) (λ e. omega arith);
            holds = empty_holds words key.seg pos (λ i. get_or ws (9 + i) 0) (λ i. get_or ws (32 + i) 0) (zeros 9 (λ e. omega arith) (λ e. omega arith)) mark;
            under_way = let z = div_zero key.seg pos in sym z;
            count = zeros 1 (λ e. omega arith) (λ e. omega arith);
            numbers = empty_numbers words key.seg pos (λ i. get_or ws (18 + i) 0) (zeros 18 (λ e. omega arith) (λ e. omega arith)) (div_zero key.seg pos);
            numbering = tt;
            narrow = λ i. dite (ℕ_discrete (32 + i) 32) (λ e. subst (λ (y : ℕ). y < 2 ^ 32) (sym (ap (λ (z : ℕ). get_or ws z 0) e ∙ mark)) (omega arith)) (λ ne. subst (λ (y : ℕ). y < 2 ^ 32) (sym (zeros (32 + i) (λ e. omega arith) ne)) (omega arith));
            fit = tt;
            units = tt;
            low = omega arith;
          };
          one_each = refl;
          seats = first_only pos;
          holder = λ p. absurd (p refl);
          owners = tt;
          writers = let n = new_long 0 key.writers in omega arith;
          finished = omega arith;
        }

    are_as : (w : SharedState) (f : ℕ → ℕ) (ws : List ℕ) → AreWords words key.seg w ws → AreWords words key.seg (record w { seat = f }) ws
    are_as w f ws a = record { wide = a.wide; token = a.token; counter = a.counter; finished = a.finished; holds = a.holds; under_way = a.under_way; count = a.count; numbers = a.numbers; numbering = a.numbering; narrow = a.narrow; fit = a.fit; units = a.units; low = a.low }

    -- the first writer goes to a new seat
    pub splits : (id : ℕ) (v : View) (x : WriterView) (xs : List WriterView) → v.writers ≡ x ∷ xs → v.progress ≡ Free → v.finished ≡ 0 → Splits (HoldsOneLog words key) id v (without_writer v) (one_writer v)
    splits id v x xs is free stays s r at =
        let w = r.shared in
        let o = r.seats id v at in
        let inside = inside_at s.views id v at in
        let vs : List View = set s.views id (without_writer v) in
        let new : ℕ = length s.views in
        let l1 : length vs ≡ length s.views = length-set s.views id (without_writer v) in
        let l2 : length (vs ++ one_writer v ∷ []) ≡ length s.views + 1 = length-append vs (one_writer v ∷ []) ∙ omega arith in
        let count : length v.writers ≡ suc (length xs) = ap (λ (l : List WriterView). length l) is in
        let ring : v.ring ≡ key = o.ring (omega arith) in
        let sh : PutAll words key.seg w.log w.owners w.seat id (x ∷ xs) = subst (PutAll words key.seg w.log w.owners w.seat id) is o.put in
        let ap' : AreApart (x ∷ xs) = subst AreApart is o.apart in
        let f : ℕ → ℕ = λ k. cond (eqb k x.number) new (w.seat k) in
        let w' : SharedState = record w { seat = f } in
        let f_new : f x.number ≡ new = (λ i. cond (eq-eqb x.number x.number refl i) new (w.seat x.number)) in
        let f_old : (k : ℕ) → k ≢ x.number → f k ≡ w.seat k = λ k ne. (λ i. cond (ne_eqb k x.number ne i) new (w.seat k)) in record {
          segment = r.segment;
          few = r.few;
          shared = w';
          are_words = are_as w f s.words r.are_words;
          one_each = r.one_each;
          seats = λ j u e. ⊎_elim
              (seats_stay (IsSeat words key w') s.views id (without_writer v)
              record {
                ring = λ _. ring;
                put = subst (λ (l : List WriterView). PutAll words key.seg w.log w.owners f id (later_writers l)) (sym is)
                    (put_as key.seg w.log w.owners w.seat f id id xs (λ k e has. f_old k (λ c. not_in x.number xs ap'.0 (subst (λ (z : ℕ). HasNumber z xs) c has)) ∙ e) sh.1);
                apart = subst (λ (l : List WriterView). AreApart (later_writers l)) (sym is) ap'.1;
                token = o.token;
                found = o.found;
                finished = omega arith;
                idle = λ _. free;
                readers = o.readers;
              }
              (λ j u ne e. let q = r.seats j u e in record {
                ring = q.ring;
                put = put_as key.seg w.log w.owners w.seat f j j u.writers (λ k there has. f_old k (λ c. ne (sym there ∙ (ap w.seat c ∙ sh.0.0))) ∙ there) q.put;
                apart = q.apart;
                token = q.token;
                found = q.found;
                finished = q.finished;
                idle = q.idle;
                readers = q.readers;
              }) j u)
              (λ (t : (j ≡ length vs) × (one_writer v ≡ u)). subst (λ (z : ℕ × View). IsSeat words key w' z.0 z.1) (λ i. (sym (t.0 ∙ l1) i, t.1 i)) (record {
                ring = λ _. ring;
                put = subst (λ (l : List WriterView). PutAll words key.seg w.log w.owners f new (first_writer l)) (sym is) ((f_new, sh.0.1), tt);
                apart = subst (λ (l : List WriterView). AreApart (first_writer l)) (sym is) (tt, tt);
                token = λ p e. let h = r.holder p in omega arith;
                found = omega arith;
                finished = omega arith;
                idle = λ _. refl;
                readers = tt;
              }))
              (at_new vs (one_writer v) u j e);
          holder = λ p. let h = r.holder p in omega arith;
          owners = all_map (IsSeated w.seat s.views) (IsSeated f (vs ++ one_writer v ∷ [])) w.owners (λ k q. dite (ℕ_discrete k x.number)
              (λ e. record {
                view = one_writer v;
                there = ap (λ (z : ℕ). get_elem? (vs ++ one_writer v ∷ []) z) (ap f e ∙ (f_new ∙ sym l1)) ∙ at_end vs (one_writer v);
                has = subst (λ (l : List WriterView). HasNumber k (first_writer l)) (sym is) (inl (sym e));
              })
              (λ ne. let q' = seated_on w.seat s.views id k v (without_writer v) at (λ has. subst (λ (l : List WriterView). HasNumber k (later_writers l)) (sym is) (⊎_elim (λ c. absurd (ne (sym c))) (λ t. t) (subst (HasNumber k) is has))) q in record {
                view = q'.view;
                there = ap (λ (z : ℕ). get_elem? (vs ++ one_writer v ∷ []) z) (f_old k ne) ∙ at_longer vs (one_writer v ∷ []) (w.seat k) q'.view q'.there;
                has = q'.has;
              })) r.owners;
          writers = let t = sum_set writers_of s.views id v (without_writer v) at in let p = sum_by_push writers_of vs (one_writer v) in let all = r.writers in
              let b : length (later_writers v.writers) ≡ length xs = ap (λ (l : List WriterView). length (later_writers l)) is in
              let c : length (first_writer v.writers) ≡ 1 = ap (λ (l : List WriterView). length (first_writer l)) is in omega arith;
          finished = let t = sum_set finished_of s.views id v (without_writer v) at in let p = sum_by_push finished_of vs (one_writer v) in let all = r.finished in omega arith;
        }

    -- the first reader goes to a new seat
    pub splits_reader : (id : ℕ) (v : View) (x : ReaderView) (xs : List ReaderView) → v.readers ≡ x ∷ xs → Splits (HoldsOneLog words key) id v (without_reader v) (one_reader v)
    splits_reader id v x xs is s r at =
        let w = r.shared in
        let o = r.seats id v at in
        let inside = inside_at s.views id v at in
        let vs : List View = set s.views id (without_reader v) in
        let l1 : length vs ≡ length s.views = length-set s.views id (without_reader v) in
        let l2 : length (vs ++ one_reader v ∷ []) ≡ length s.views + 1 = length-append vs (one_reader v ∷ []) ∙ omega arith in
        let count : length v.readers ≡ suc (length xs) = ap (λ (l : List ReaderView). length l) is in
        let ring : v.ring ≡ key = o.ring (omega arith) in
        let all : AllByRecursion (IsReader words key w.log w.counter w.finished) (x ∷ xs) = subst (AllByRecursion (IsReader words key w.log w.counter w.finished)) is o.readers in record {
          segment = r.segment;
          few = r.few;
          shared = w;
          are_words = r.are_words;
          one_each = r.one_each;
          seats = λ j u e. ⊎_elim
              (seats_stay (IsSeat words key w) s.views id (without_reader v)
              record {
                ring = λ _. ring;
                put = o.put;
                apart = o.apart;
                token = o.token;
                found = o.found;
                finished = o.finished;
                idle = o.idle;
                readers = subst (λ (l : List ReaderView). AllByRecursion (IsReader words key w.log w.counter w.finished) (later_readers l)) (sym is) all.1;
              }
              (λ j u _ e. r.seats j u e) j u)
              (λ (t : (j ≡ length vs) × (one_reader v ≡ u)). subst (IsSeat words key w j) t.1 (let j_is = t.0 in record {
                ring = λ _. ring;
                put = tt;
                apart = tt;
                token = λ p e. let h = r.holder p in omega arith;
                found = omega arith;
                finished = omega arith;
                idle = λ _. refl;
                readers = subst (λ (l : List ReaderView). AllByRecursion (IsReader words key w.log w.counter w.finished) (first_reader l)) (sym is) (all.0, tt);
              }))
              (at_new vs (one_reader v) u j e);
          holder = λ p. let h = r.holder p in omega arith;
          owners = all_map (IsSeated w.seat s.views) (IsSeated w.seat (vs ++ one_reader v ∷ [])) w.owners (λ k q. let q' = seated_on w.seat s.views id k v (without_reader v) at (λ has. has) q in record {
            view = q'.view;
            there = at_longer vs (one_reader v ∷ []) (w.seat k) q'.view q'.there;
            has = q'.has;
          }) r.owners;
          writers = let t = sum_set writers_of s.views id v (without_reader v) at in let p = sum_by_push writers_of vs (one_reader v) in let all = r.writers in omega arith;
          finished = let t = sum_set finished_of s.views id v (without_reader v) at in let p = sum_by_push finished_of vs (one_reader v) in let all = r.finished in omega arith;
        }

    -- a seat takes in the writers and the readers of another
    pub joins : (id : ℕ) (v : View) (other : ℕ) (x : View) → 0 < length v.writers + length v.readers → x.progress ≡ Free → Joins (HoldsOneLog words key) id v other x (both_views v x) no_view
    joins id v other x some_one free s r at apart there =
        let w = r.shared in
        let both : View = both_views v x in
        let vs : List View = set s.views id both in
        let vs' : List View = set vs other no_view in
        let there' : get_elem? s.views other ≡ some x = sym (set_else s.views id other both apart) ∙ there in
        let o = r.seats id v at in
        let p = r.seats other x there' in
        let l1 : length vs ≡ length s.views = length-set s.views id both in
        let l2 : length vs' ≡ length vs = length-set vs other no_view in
        let f : ℕ → ℕ = λ k. cond (eqb (w.seat k) other) id (w.seat k) in
        let w' : SharedState = record w { seat = f } in
        let f_moved : (k : ℕ) → w.seat k ≡ other → f k ≡ id = λ k e. (λ i. cond (eq-eqb (w.seat k) other e i) id (w.seat k)) in
        let f_old : (k : ℕ) → w.seat k ≢ other → f k ≡ w.seat k = λ k ne. (λ i. cond (ne_eqb (w.seat k) other ne i) id (w.seat k)) in
        let here : get_elem? vs' id ≡ some both = set_else vs other id no_view (λ e. apart (sym e)) ∙ set_here s.views id both (inside_at s.views id v at) in
        let long = length-append v.writers x.writers in
        let mine = o.finished in
        let theirs = p.finished in record {
          segment = r.segment;
          few = r.few;
          shared = w';
          are_words = are_as w f s.words r.are_words;
          one_each = r.one_each;
          seats = seats_stay (IsSeat words key w') vs other no_view
              record { ring = λ z. absurd (omega arith); put = tt; apart = tt; token = subst (KnowsToken w.progress w.holder other) free p.token; found = omega arith; finished = omega arith; idle = λ _. refl; readers = tt }
              (λ j u no e. seats_stay (λ j u. j ≢ other → IsSeat words key w' j u) s.views id both
              (λ _. record {
                ring = λ _. o.ring some_one;
                put = put_join key.seg w.log w.owners f id v.writers x.writers
                    (put_as key.seg w.log w.owners w.seat f id id v.writers (λ k e has. f_old k (λ c. apart (sym c ∙ e)) ∙ e) o.put)
                    (put_as key.seg w.log w.owners w.seat f other id x.writers (λ k e has. f_moved k e) p.put);
                apart = apart_join key.seg w.log w.owners w.seat id other v.writers x.writers (λ e. apart (sym e)) o.put p.put o.apart p.apart;
                token = o.token;
                found = let a = o.found in let b = p.found in omega arith;
                finished = omega arith;
                idle = λ e. o.idle (omega arith);
                readers = all_join (IsReader words key w.log w.counter w.finished) v.readers x.readers o.readers p.readers;
              })
              (λ j u ni e no. let q = r.seats j u e in record {
                ring = q.ring;
                put = put_as key.seg w.log w.owners w.seat f j j u.writers (λ k e has. f_old k (λ c. no (sym e ∙ c)) ∙ e) q.put;
                apart = q.apart;
                token = q.token;
                found = q.found;
                finished = q.finished;
                idle = q.idle;
                readers = q.readers;
              }) j u e no);
          holder = λ q. let h = r.holder q in omega arith;
          owners = all_map (IsSeated w.seat s.views) (IsSeated f vs') w.owners (λ k q. dite (ℕ_discrete (w.seat k) other)
              (λ e. let had : x ≡ q.view = some-injective x q.view (sym there' ∙ (ap (λ (z : ℕ). get_elem? s.views z) (sym e) ∙ q.there)) in record {
                view = both;
                there = ap (λ (z : ℕ). get_elem? vs' z) (f_moved k e) ∙ here;
                has = has_right k v.writers x.writers (subst (λ (z : View). HasNumber k z.writers) (sym had) q.has);
              })
              (λ ne. let y = seated_on w.seat s.views id k v both at (λ has. has_left k v.writers x.writers has) q in record {
                view = y.view;
                there = ap (λ (z : ℕ). get_elem? vs' z) (f_old k ne) ∙ (set_else vs other (w.seat k) no_view ne ∙ y.there);
                has = y.has;
              })) r.owners;
          writers = let t = sum_set writers_of s.views id v both at in let t2 = sum_set writers_of vs other x no_view there in let all = r.writers in omega arith;
          finished = let t = sum_set finished_of s.views id v both at in let t2 = sum_set finished_of vs other x no_view there in let all = r.finished in omega arith;
        }
