-- The loads of a reader.
use Rattle.std.proofs.Common.{◌≡◌, ◌≢◌, ℕ, zero, suc, ◌+◌, ◌-◌, ◌*◌, ◌/◌, ◌%◌, ◌^◌, ◌<◌, ◌≤◌, false, List, [], ◌∷◌, ◌++◌, length, take, drop, get_or, sym, refl, ap, ◌∙◌, subst, ⊎_elim, inl, inr, arith, le_refl, le_trans, Some, None, slice_get, leb-true, le-ltb, ltb-false, take_all, length-append}
use Rattle.std.specs.Prelude.{slice_index_or}
use Rattle.std.specs.List.{AllByRecursion}
use mathlib.Core.Logic.{dite}
use mathlib.Core.Option.{none}
use native.Mathlib.Decide.{dec_lt, dec_le}
use Rattle.atomic_table.specs.Table.{State, Me, step, keeps, Allows}
use Rattle.vsl_words.specs.declared.version.Version.TheVariants.{Two}
use Rattle.vsl_record.specs.Unit.{LogUnit, Log}
use Rattle.vsl_record.specs.Words.{IsUnit, header_mark, unit_words}
use Rattle.vsl_record.proofs.UnitReadingLemmas.{length_unit_words-at_least}
use Rattle.ring_layout.specs.declared.history.HistoryItem.{HistoryItem}
use Rattle.ring_layout.specs.declared.history.HistoryItem.TheVariants.{UnitRun, Overrun}
use Rattle.ring_layout.specs.Places.{fewest_words, last_tail, stays, start_at, end_at, tail_from, tail, word_at, segment_start, AreFit, end_mark, wrap_mark}
use Rattle.ring_layout.specs.Content.{HoldsLog}
use Rattle.ring_layout.specs.Copied.{IsDueAt, AreCopied}
use Rattle.ring_layout.specs.History.{HasRun, last_seen, next_number, first_number, UnitStarts, MayFollow, IsReadBack, with_unit}
use Rattle.ring_layout.proofs.EntriesLemmas.{at_stay, at_wrap, start_there}
use Rattle.ring_layout.proofs.LapLemmas.{in_stretch}
use Rattle.ring_layout.proofs.TakenLemmas.{get_inside}
use Rattle.ring_layout.proofs.AgreedLemmas.{tail_above}
use Rattle.ring_layout.proofs.ReadingLemmas.{wrap_word, start_leads}
use Rattle.ring_layout.proofs.ItemsLemmas.{run_more, run_begins, below_few, next_place}
use Rattle.ring_layout.proofs.NumberLemmas.{units_short, number_behind}
use Rattle.ring_layout.proofs.CopiesLemmas.{some_is, around, there, has_word, unit_word, reads_first, reads_next}
use Rattle.log_ring.specs.declared.rule.RingKey.{RingKey}
use Rattle.log_ring.specs.declared.rule.Progress.{Progress}
use Rattle.log_ring.specs.declared.rule.Progress.TheVariants.{Free, Storing, Stored}
use Rattle.log_ring.specs.declared.rule.Unchecked.TheVariants.{Words, Start, Numbered}
use Rattle.log_ring.specs.declared.rule.Observation.TheVariants.{CounterSeen, FinishedSeen, WordSeen, StartSeen, NumberSeen}
use Rattle.log_ring.specs.declared.rule.ReaderView.{ReaderView}
use Rattle.log_ring.specs.declared.rule.View.{View}
use Rattle.log_ring.specs.Readers.{new_reader}
use Rattle.log_ring.specs.Closed.{WasTail, AreObserved, CursorStands}
use Rattle.log_ring.specs.inside.Rule.{SharedState, IsUnderWay, IsNext, IsOverrunAt, AreWords, IsUnchecked, IsReader, HoldsOneLog}
use Rattle.log_ring.specs.inside.Reading.{with_finished, unchecked_words, with_head, with_copy, overrun_at, with_end, with_lap, with_taken, with_loaded, with_start_of, with_number_of, with_run, reader_of, Reads, LoadsFinished, LoadsHead, LoadsMore, Checks, FindsEnd, FindsLap, FindsUnit, FindsNothing, ChecksAgain, Looks, LoadsStart, LoadsNumber, unchecked_start, unchecked_number, Seeks, Observes}
use Rattle.log_ring.proofs.WordLemmas.{ent, num, word}
use Rattle.log_ring.proofs.RuleLemmas.{overrun_item, looks}

tail_of_some : {U : Type 0} (words : U → List ℕ) (seg : ℕ) → 0 < seg → (t k : ℕ) (us : List U) → tail_from words seg t (take k us) ≤ tail_from words seg t us
tail_of_some words seg pos t zero us = tail_above words seg pos t us
tail_of_some words seg pos t (suc k) [] = omega arith
tail_of_some words seg pos t (suc k) (u ∷ us) = tail_of_some words seg pos (end_at seg t (length (words u))) k us

kth_of : {X : Type 0} (P : X → Type 0) (xs : List X) (k : ℕ) (x : X) → AllByRecursion P xs → slice_get xs k ≡ Some x → P x
kth_of P [] k x all e = cc e
kth_of P (y ∷ xs) zero x all e = subst P (some_is e) all.0
kth_of P (y ∷ xs) (suc k) x all e = kth_of P xs k x all.1 e

head_is : {x y : ℕ} {xs : List ℕ} → x ∷ xs ≡ y ∷ [] → x ≡ y
head_is e = cc e

-- the first of words that a list begins with
first_of_taken : (ys xs : List ℕ) → 0 < length xs → xs ≡ take (length xs) ys → get_or xs 0 0 ≡ get_or ys 0 0
first_of_taken ys [] l e = absurd (omega arith)
first_of_taken [] (x ∷ xs) l e = cc e
first_of_taken (y ∷ ys) (x ∷ xs) l e = ap (λ (z : List ℕ). get_or z 0 0) e

none_some : {x : ℕ} → None ≡ Some x → ⊥
none_some e = cc e

last_seen_more : (items : List (HistoryItem LogUnit)) (u : LogUnit) → last_seen (with_unit u items) ≡ last_seen items
last_seen_more [] u = refl
last_seen_more (UnitRun q ∷ is) u = refl
last_seen_more (Overrun a b ∷ is) u = refl

module _ (key : RingKey) where
  abbrev words : LogUnit → List ℕ
  words = unit_words

  abbrev St : Type 0
  St = State ℕ View

  abbrev M : Type 0
  M = Me ℕ View

  -- what holds of a reader in a state
  abbrev IsIn : SharedState → ReaderView → Type 0
  IsIn w r = IsReader words key w.log w.counter w.finished r

  -- a load by a seat that stands for one reader
  reads : (T : RingKey → ℕ → ReaderView → ReaderView → Type 0) (slots id i : ℕ) (me : M) (r : ReaderView) → me.0.readers ≡ r ∷ []
      → ((s : St) (k : HoldsOneLog words key s) → IsIn k.shared r → (r' : ReaderView) × IsIn k.shared r' × T key (get_or s.words i 0) r r' × Observes key.seg i (get_or s.words i 0) r r')
      → Allows (HoldsOneLog words key) slots id me i (λ x. x) (Reads T (step slots i 0 0 none) me)
  reads T slots id i me r one next s k _ at small =
      let o = k.seats id me.0 at in
      let w = k.shared in
      let count : length me.0.readers ≡ 1 = ap (λ (l : List ReaderView). length l) one in
      let ring : me.0.ring ≡ key = o.ring (omega arith) in
      let all : AllByRecursion (IsIn w) (r ∷ []) = subst (AllByRecursion (IsIn w)) one o.readers in
      let n = next s k all.0 in
      let v' : View = record me.0 { readers = n.0 ∷ [] } in (
        v',
        keeps,
        tt,
        looks words key s k i id me.1 me.0 v' at record { ring = λ _. ring; put = o.put; apart = o.apart; token = o.token; found = o.found; finished = o.finished; idle = o.idle; readers = (n.1, tt) } refl refl,
        (
          (refl, subst (λ (z : RingKey). T z (get_or s.words i 0) (reader_of me.0) n.0) (sym ring) (subst (λ (l : List ReaderView). T key (get_or s.words i 0) (slice_index_or l 0 new_reader) n.0) (sym one) n.2)),
          subst (λ (z : RingKey). Observes z.seg i (get_or s.words i 0) (reader_of me.0) n.0) (sym ring) (subst (λ (l : List ReaderView). Observes key.seg i (get_or s.words i 0) (slice_index_or l 0 new_reader) n.0) (sym one) n.3),
        ),
      )

  -- the number of writers that left
  pub loads_finished : (slots id : ℕ) (me : M) (r : ReaderView) → me.0.readers ≡ r ∷ [] → Allows (HoldsOneLog words key) slots id me 17 (λ x. x) (Reads LoadsFinished (step slots 17 0 0 none) me)
  loads_finished slots id me r one = reads LoadsFinished slots id 17 me r one (λ s k h. let x : ℕ = get_or s.words 17 0 in let finished = k.are_words.finished in (
    with_finished x r,
    record { history = h.history; reading = λ e. let g = h.reading e in record { next = g.next; stands = g.stands; due = g.due }; overrun = h.overrun; unchecked = tt; seen = h.seen; loaded = h.loaded; finished_seen = omega arith; observed = h.observed; ended = h.ended },
    refl,
    inr (FinishedSeen x, (refl, refl), refl),
  ))

  -- the first word of a unit counts its words, and is no mark
  head : (u : LogUnit) → get_or (words u) 0 0 ≡ header_mark + length (words u)
  head u = omega arith

  -- at the load of an end mark no unit is due
  none_due : (log : Log) (c k p x : ℕ) (e w : ℕ → ℕ) → 0 < key.seg → HoldsLog words key.seg log c e w → AreFit words key.seg log → IsDueAt words key.seg log k p → c < p / key.seg + 8 → x ≡ w (p % (8 * key.seg)) → x ≡ end_mark → k ≡ length log
  none_due log c k p x e w pos holds fit due near x_is mark = let low = due.0 in dite (dec_lt k (length log))
      (λ l. let u = there log k l in absurd (
      let head_of : UnitStarts words key.seg log k p → ⊥ = λ starts. (
      let y = unit_word words key.seg pos log c k p 0 starts.0 e w holds starts.1 starts.2 (has_word words key.seg log k starts.0 fit starts.1).0 near in
      let same : w ((p + 0) % (8 * key.seg)) ≡ w (p % (8 * key.seg)) = ap (λ (z : ℕ). w (z % (8 * key.seg))) (omega arith) in
      let h = head starts.0 in omega arith) in
      ⊎_elim
      (λ (at : p ≡ tail words key.seg (take k log)). let n : ℕ = length (words u.0) in dite (dec_lt (p % (8 * key.seg) + n) (8 * key.seg))
      (λ stay. head_of (u.0, u.1, sym (ap (λ (z : ℕ). start_at key.seg z n) (sym at) ∙ at_stay key.seg p n stay)))
      (λ far. let leaves : stays key.seg p n ≡ false = le-ltb (p % (8 * key.seg) + n) (8 * key.seg) (omega arith) in
      let wrap : w (p % (8 * key.seg)) ≡ wrap_mark = holds.word_at p wrap_mark (ap (λ (z : Log). word_at words key.seg z p) (around log k u.0 u.1) ∙ (ap (word_at words key.seg (take k log ++ u.0 ∷ drop (k + 1) log)) at ∙ wrap_word words key.seg pos (take k log) (drop (k + 1) log) u.0 (ap (λ (z : ℕ). stays key.seg z n) (sym at) ∙ leaves))) near in omega arith))
      head_of due.1))
      (λ g. omega arith)

  abbrev IsEnd : SharedState → ReaderView → List ℕ → Type 0
  IsEnd w r xs = (xs ≡ end_mark ∷ []) × (r.number ≤ length w.log) × (r.place ≡ tail words key.seg (take r.number w.log))

  abbrev IsLap : SharedState → ReaderView → List ℕ → Type 0
  IsLap w r xs = (xs ≡ wrap_mark ∷ []) × ((u : LogUnit) × (slice_get w.log r.number ≡ Some u) × (r.place ≡ tail words key.seg (take r.number w.log)) × (stays key.seg r.place (length (words u)) ≡ false))

  abbrev IsPart : SharedState → ReaderView → List ℕ → Type 0
  IsPart w r xs = (0 < length xs) × UnitStarts words key.seg w.log r.number r.place × ((u : LogUnit) → slice_get w.log r.number ≡ Some u → xs ≡ take (length xs) (words u))

  -- the first of words that are a unit's counts the unit's words
  part_head : (w : SharedState) (r : ReaderView) (xs : List ℕ) (t : IsPart w r xs) → get_or xs 0 0 ≡ header_mark + length (words t.1.0)
  part_head w r xs t = first_of_taken (words t.1.0) xs t.0 (t.2 t.1.0 t.1.1) ∙ head t.1.0

  -- an end mark is found at a tail
  end_found : (w : SharedState) (r : ReaderView) (x : ℕ) → AreCopied words key.seg w.log r.place r.number (x ∷ []) → x ≡ end_mark → WasTail words key.seg w.log r.place
  end_found w r x copied mark = ⊎_elim (λ (t : IsEnd w r (x ∷ [])). (r.number, t.1, t.2))
      (λ rest. ⊎_elim (λ (t : IsLap w r (x ∷ [])). absurd (let e = head_is t.0 in omega arith)) (λ (t : IsPart w r (x ∷ [])). absurd (let e = part_head w r (x ∷ []) t in omega arith)) rest) copied

  -- the first word at the cursor's place
  pub loads_head : (slots id i : ℕ) (me : M) (r : ReaderView) → me.0.readers ≡ r ∷ [] → 0 < key.seg → r.lost ≡ None → i ≡ 32 + r.place % (8 * key.seg) → Allows (HoldsOneLog words key) slots id me i (λ x. x) (Reads LoadsHead (step slots i 0 0 none) me)
  loads_head slots id i me r one pos free i_is = reads LoadsHead slots id i me r one (λ s k h.
      let x : ℕ = get_or s.words i 0 in
      let w = k.shared in
      let a = k.are_words in
      let g = h.reading free in
      let x_is : x ≡ word s.words (r.place % (8 * key.seg)) = ap (λ (z : ℕ). get_or s.words z 0) i_is in
      let copied : w.counter < r.place / key.seg + 8 → AreCopied words key.seg w.log r.place r.number (x ∷ []) = λ near.
      subst (λ (z : ℕ). AreCopied words key.seg w.log r.place r.number (z ∷ [])) (sym x_is) (reads_first words key.seg pos w.log w.counter r.number r.place (ent s.words) (word s.words) a.holds a.fit g.due near) in (
        with_head x r,
        record {
          history = h.history;
          reading = λ _. record { next = g.next; stands = g.stands; due = g.due };
          overrun = h.overrun;
          unchecked = λ near. (
            copied near,
            λ _ mark. none_due w.log w.counter r.number r.place x (ent s.words) (word s.words) pos a.holds a.fit g.due near x_is (head_is mark),
          );
          seen = h.seen;
          loaded = h.loaded;
          finished_seen = h.finished_seen;
          observed = (λ mark near. end_found w r x (copied near) mark, h.observed);
          ended = h.ended;
        },
        (refl, subst (λ (z : ℕ). z < 2 ^ 32) (sym x_is) (a.narrow (r.place % (8 * key.seg)))),
        inr (WordSeen r.place x, (i_is, refl), refl),
      ))

  -- a further word of the unit
  pub loads_more : (slots id i : ℕ) (me : M) (r : ReaderView) (xs : List ℕ) → me.0.readers ≡ r ∷ [] → 0 < key.seg → r.lost ≡ None → r.unchecked ≡ Words xs
      → 0 < length xs → get_or xs 0 0 ≢ end_mark → get_or xs 0 0 ≢ wrap_mark → header_mark + length xs < get_or xs 0 0 → i ≡ 32 + (r.place + length xs) % (8 * key.seg)
      → Allows (HoldsOneLog words key) slots id me i (λ x. x) (Reads LoadsMore (step slots i 0 0 none) me)
  loads_more slots id i me r xs one pos free unchecked some_word no_end no_wrap more i_is = reads LoadsMore slots id i me r one (λ s k h.
      let x : ℕ = get_or s.words i 0 in
      let w = k.shared in
      let a = k.are_words in
      let g = h.reading free in
      let seg : ℕ = key.seg in
      let x_is : x ≡ word s.words ((r.place + length xs) % (8 * seg)) = ap (λ (z : ℕ). get_or s.words z 0) i_is in
      let copied : unchecked_words r.unchecked ≡ xs = ap unchecked_words unchecked in
      let before : IsUnchecked words key w.log w.counter r (Words xs) = subst (IsUnchecked words key w.log w.counter r) unchecked h.unchecked in (
        with_copy x r,
        record {
          history = h.history;
          reading = λ _. record { next = g.next; stands = g.stands; due = g.due };
          overrun = h.overrun;
          unchecked = λ near. (
            subst (λ (z : List ℕ). AreCopied words seg w.log r.place r.number (z ++ x ∷ [])) (sym copied) (subst (λ (z : ℕ). AreCopied words seg w.log r.place r.number (xs ++ z ∷ [])) (sym x_is)
                (⊎_elim
                (λ (t : (xs ≡ end_mark ∷ []) × (r.number ≤ length w.log) × (r.place ≡ tail words seg (take r.number w.log))). absurd (no_end (ap (λ (l : List ℕ). get_or l 0 0) t.0)))
                (λ rest. ⊎_elim
                (λ (t : (xs ≡ wrap_mark ∷ []) × ((u : LogUnit) × (slice_get w.log r.number ≡ Some u) × (r.place ≡ tail words seg (take r.number w.log)) × (stays seg r.place (length (words u)) ≡ false))). absurd (no_wrap (ap (λ (l : List ℕ). get_or l 0 0) t.0)))
                (λ (t : (0 < length xs) × UnitStarts words seg w.log r.number r.place × ((u : LogUnit) → slice_get w.log r.number ≡ Some u → xs ≡ take (length xs) (words u))).
                reads_next words seg pos w.log w.counter r.number r.place xs (ent s.words) (word s.words) a.holds t.1 (λ u e. (t.2 u e, (let same = first_of_taken (words u) xs t.0 (t.2 u e) in let hd = head u in omega arith))) near) rest) (before near).0)),
            λ _ mark. absurd (let z = ap (λ (l : List ℕ). length l) mark in let y : length (unchecked_words r.unchecked) ≡ length xs = ap (λ (l : List ℕ). length l) copied in omega (arith, length-append (unchecked_words r.unchecked) (x ∷ []))),
          );
          seen = h.seen;
          loaded = h.loaded;
          finished_seen = h.finished_seen;
          observed = h.observed;
          ended = h.ended;
        },
        (refl, subst (λ (z : ℕ). z < 2 ^ 32) (sym x_is) (a.narrow ((r.place + length xs) % (8 * seg)))),
        inl refl,
      ))

  -- an overrun may follow where the cursor stands
  may_follow : (log : Log) (p : ℕ) (items : List (HistoryItem LogUnit)) → CursorStands words key.seg log p items → MayFollow words key.seg log (p / key.seg) items
  may_follow log p [] h = absurd h
  may_follow log p (UnitRun q ∷ is) h = (p, refl, h)
  may_follow log p (Overrun a b ∷ is) h = absurd h

  -- a reader that is overrun where it may be
  overrun_in : (w : SharedState) (at x : ℕ) (r : ReaderView) → IsIn w r → at + 6 ≤ x → x ≡ w.counter → MayFollow words key.seg w.log at r.items → IsIn w (overrun_at at x r)
  overrun_in w at x r h far x_is follows = let seen = h.seen in let loaded = h.loaded in record {
    history = (far, omega arith, omega arith, follows, h.history);
    reading = λ e. cc e;
    overrun = λ a e. some_is e;
    unchecked = tt;
    seen = le_refl x;
    loaded = omega arith;
    finished_seen = h.finished_seen;
    observed = (omega arith, subst (λ (z : ℕ). AreObserved words key.seg w.log z r.observed) (sym x_is) h.observed);
    ended = λ e. cc e;
  }

  -- a check: the cursor is overrun, or what it copied is the log's
  checks : (T : RingKey → ℕ → ReaderView → ReaderView → Type 0) (slots id : ℕ) (me : M) (r : ReaderView) → me.0.readers ≡ r ∷ [] → r.lost ≡ None
      → ((s : St) (k : HoldsOneLog words key s) → IsIn k.shared r → k.shared.counter < r.place / key.seg + 6 → (r' : ReaderView) × IsIn k.shared r' × T key k.shared.counter r r' × (r'.observed ≡ CounterSeen k.shared.counter ∷ r.observed))
      → Allows (HoldsOneLog words key) slots id me 8 (λ x. x) (Reads (Checks T) (step slots 8 0 0 none) me)
  checks T slots id me r one free near = reads (Checks T) slots id 8 me r one (λ s k h.
      let x : ℕ = get_or s.words 8 0 in
      let w = k.shared in
      let x_is : x ≡ w.counter = k.are_words.counter in
      let at : ℕ = r.place / key.seg in
      dite (dec_le (at + 6) x)
      (λ far. (overrun_at at x r, overrun_in w at x r h far x_is (may_follow w.log r.place r.items (h.reading free).stands), inl (far, refl), inr (CounterSeen x, (refl, refl), refl)))
      (λ not. let n = near s k h (omega arith) in (n.0, n.1, inr (omega arith, subst (λ (z : ℕ). T key z r n.0) (sym x_is) n.2), inr (CounterSeen w.counter, (refl, sym x_is), n.3))))

  -- what was copied, where the counter hasn't passed
  copied_in : (w : SharedState) (r : ReaderView) (xs : List ℕ) → IsIn w r → r.unchecked ≡ Words xs → w.counter < r.place / key.seg + 6
      → AreCopied words key.seg w.log r.place r.number xs × (key.writers ≤ r.finished_seen → xs ≡ end_mark ∷ [] → r.number ≡ length w.log)
  copied_in w r xs h unchecked near = let before : IsUnchecked words key w.log w.counter r (Words xs) = subst (IsUnchecked words key w.log w.counter r) unchecked h.unchecked in before (omega arith)

  -- a unit that starts at a place ends at a tail of the log
  starts_low : (w : SharedState) (ws : List ℕ) (k p : ℕ) (t : UnitStarts words key.seg w.log k p) → 0 < key.seg → AreWords words key.seg w ws → (p + length (words t.0) ≡ tail words key.seg (take (k + 1) w.log)) × (p + length (words t.0) ≤ last_tail)
  starts_low w ws k p t pos a =
      let at = t.2 in
      let behind = next_place words key.seg w.log k t.0 t.1 in
      let upto = tail_of_some words key.seg pos 0 (k + 1) w.log in
      let low = a.low in (omega arith, omega arith)

  -- a log has no more units than words
  units_low : (w : SharedState) (ws : List ℕ) → 0 < key.seg → AreWords words key.seg w ws → length w.log ≤ last_tail
  units_low w ws pos a = let short = units_short words key.seg pos 0 w.log a.fit in let low = a.low in omega arith

  -- the newest run of a reader, with the unit that is due
  stands_start : (log : Log) (k p : ℕ) (items : List (HistoryItem LogUnit)) → IsNext k items → UnitStarts words key.seg log k p → CursorStands words key.seg log p items
  stands_start log k p [] next t = absurd next
  stands_start log k p (UnitRun q ∷ is) next t = inr (subst (λ (z : ℕ). UnitStarts words key.seg log z p) next t)
  stands_start log k p (Overrun a b ∷ is) next t = absurd next

  next_is : (k : ℕ) (items : List (HistoryItem LogUnit)) → IsNext k items → k ≡ next_number items
  next_is k [] next = absurd next
  next_is k (UnitRun q ∷ is) next = next
  next_is k (Overrun a b ∷ is) next = absurd next

  next_has_run : (k : ℕ) (items : List (HistoryItem LogUnit)) → IsNext k items → HasRun items
  next_has_run k [] next = absurd next
  next_has_run k (UnitRun q ∷ is) next = tt
  next_has_run k (Overrun a b ∷ is) next = absurd next

  taken_more : (most : ℕ) (log : Log) (k : ℕ) (items : List (HistoryItem LogUnit)) (u : LogUnit) → slice_get log k ≡ Some u → IsNext k items → IsReadBack words key.seg most log items → IsReadBack words key.seg most log (with_unit u items)
  taken_more most log k [] u kth next h = absurd next
  taken_more most log k (UnitRun q ∷ is) u kth next h = run_more words key.seg most log q is u (subst (λ (z : ℕ). slice_get log z ≡ Some u) next kth) h
  taken_more most log k (Overrun a b ∷ is) u kth next h = absurd next

  next_more : (log : Log) (k : ℕ) (items : List (HistoryItem LogUnit)) (u : LogUnit) → IsNext k items → IsNext (k + 1) (with_unit u items)
  next_more log k [] u next = absurd next
  next_more log k (UnitRun q ∷ is) u next = omega (arith, length-append q.units (u ∷ []))
  next_more log k (Overrun a b ∷ is) u next = absurd next

  stands_behind : (log : Log) (k p : ℕ) (items : List (HistoryItem LogUnit)) (u : LogUnit) → IsNext k items → p ≡ tail words key.seg (take (k + 1) log) → CursorStands words key.seg log p (with_unit u items)
  stands_behind log k p [] u next e = absurd next
  stands_behind log k p (UnitRun q ∷ is) u next e = let long = length-append q.units (u ∷ []) in
      inl ((λ z. absurd (omega arith)), λ _. e ∙ ap (λ (z : ℕ). tail words key.seg (take z log)) (omega arith))
  stands_behind log k p (Overrun a b ∷ is) u next e = absurd next

  again_far : (w : SharedState) (at : ℕ) (items : List (HistoryItem LogUnit)) → IsOverrunAt at items → IsReadBack words key.seg w.counter w.log items → at + 6 ≤ last_seen items
  again_far w at [] o h = absurd o
  again_far w at (UnitRun q ∷ is) o h = absurd o
  again_far w at (Overrun a b ∷ is) o h = let far = h.0 in omega arith

  again_follows : (log : Log) (at : ℕ) (items : List (HistoryItem LogUnit)) → IsOverrunAt at items → MayFollow words key.seg log at items
  again_follows log at [] o = absurd o
  again_follows log at (UnitRun q ∷ is) o = absurd o
  again_follows log at (Overrun a b ∷ is) o = inl (sym o)

  -- the end mark
  pub finds_end : (slots id : ℕ) (me : M) (r : ReaderView) → me.0.readers ≡ r ∷ [] → r.lost ≡ None → r.unchecked ≡ Words (end_mark ∷ []) → Allows (HoldsOneLog words key) slots id me 8 (λ x. x) (Reads (Checks FindsEnd) (step slots 8 0 0 none) me)
  finds_end slots id me r one free unchecked = checks FindsEnd slots id me r one free (λ s k h near.
      let w = k.shared in
      let x : ℕ = w.counter in
      let g = h.reading free in
      let c = copied_in w r (end_mark ∷ []) h unchecked near in
      let seen = h.seen in
      let loaded = h.loaded in
      let r' : ReaderView = with_end key x r in (
        r',
        record { history = h.history; reading = λ e. record { next = g.next; stands = g.stands; due = g.due }; overrun = h.overrun; unchecked = tt; seen = omega arith; loaded = le_refl x; observed = (le_refl x, h.observed); finished_seen = h.finished_seen; ended = λ e. let all = leb-true key.writers r.finished_seen e in (le_trans all h.finished_seen, subst (λ (z : ℕ). IsNext z r.items) (c.1 all refl) g.next) },
        refl,
        refl,
      ))

  -- the wrap mark
  pub finds_lap : (slots id : ℕ) (me : M) (r : ReaderView) → me.0.readers ≡ r ∷ [] → 0 < key.seg → r.lost ≡ None → r.unchecked ≡ Words (wrap_mark ∷ []) → Allows (HoldsOneLog words key) slots id me 8 (λ x. x) (Reads (Checks FindsLap) (step slots 8 0 0 none) me)
  finds_lap slots id me r one pos free unchecked = checks FindsLap slots id me r one free (λ s k h near.
      let w = k.shared in
      let x : ℕ = w.counter in
      let g = h.reading free in
      let seg : ℕ = key.seg in
      let c = copied_in w r (wrap_mark ∷ []) h unchecked near in
      let seen = h.seen in
      let loaded = h.loaded in
      let r' : ReaderView = with_lap seg x r in
      let starts : UnitStarts words seg w.log r.number r'.place = ⊎_elim (λ (t : IsEnd w r (wrap_mark ∷ [])). absurd (let e = head_is t.0 in omega arith))
      (λ rest. ⊎_elim
      (λ (t : IsLap w r (wrap_mark ∷ [])). let u = t.1 in (u.0, u.1, sym (at_wrap seg r.place (length (words u.0)) (ltb-false (r.place % (8 * seg) + length (words u.0)) (8 * seg) u.3)) ∙ ap (λ (z : ℕ). start_at seg z (length (words u.0))) u.2))
      (λ (t : IsPart w r (wrap_mark ∷ [])). absurd (let e = part_head w r (wrap_mark ∷ []) t in omega arith)) rest) c.0 in
      let low = starts_low w s.words r.number r'.place starts pos k.are_words in
      let low1 = low.1 in (
        r',
        record {
          history = h.history;
          reading = λ e. record { next = g.next; stands = stands_start w.log r.number r'.place r.items g.next starts; due = (g.due.0, inr starts) };
          overrun = h.overrun;
          unchecked = tt;
          seen = omega arith;
          loaded = le_refl x;
          observed = (le_refl x, h.observed);
          finished_seen = h.finished_seen;
          ended = h.ended;
        },
        (refl, omega arith),
        refl,
      ))

  -- a whole unit
  pub finds_unit : (slots id : ℕ) (me : M) (r : ReaderView) (xs : List ℕ) → me.0.readers ≡ r ∷ [] → 0 < key.seg → r.lost ≡ None → r.unchecked ≡ Words xs → get_or xs 0 0 ≢ end_mark → get_or xs 0 0 ≢ wrap_mark → get_or xs 0 0 ≡ header_mark + length xs
      → Allows (HoldsOneLog words key) slots id me 8 (λ x. x) (Reads (Checks (FindsUnit words)) (step slots 8 0 0 none) me)
  finds_unit slots id me r xs one pos free unchecked no_end no_wrap whole = checks (FindsUnit words) slots id me r one free (λ s k h near.
      let w = k.shared in
      let x : ℕ = w.counter in
      let g = h.reading free in
      let seg : ℕ = key.seg in
      let c = copied_in w r xs h unchecked near in
      let seen = h.seen in
      let loaded = h.loaded in
      let copied : unchecked_words r.unchecked ≡ xs = ap unchecked_words unchecked in
      let part : IsPart w r xs = ⊎_elim (λ (t : IsEnd w r xs). absurd (no_end (ap (λ (l : List ℕ). get_or l 0 0) t.0)))
      (λ rest. ⊎_elim (λ (t : IsLap w r xs). absurd (no_wrap (ap (λ (l : List ℕ). get_or l 0 0) t.0))) (λ (t : IsPart w r xs). t) rest) c.0 in
      let u : LogUnit = part.1.0 in
      let kth = part.1.1 in
      let first = part_head w r xs part in
      let long : length xs ≡ length (words u) = omega arith in
      let xs_is : xs ≡ words u = part.2 u kth ∙ take_all (length xs) (words u) (omega arith) in
      let n : ℕ = length (words u) in
      let low = starts_low w s.words r.number r.place part.1 pos k.are_words in
      let low0 = low.0 in
      let low1 = low.1 in
      let inside = get_inside w.log r.number u kth in
      let few = units_low w s.words pos k.are_words in (
        with_taken n u x r,
        record {
          history = taken_more w.counter w.log r.number r.items u kth g.next h.history;
          reading = λ e. record {
            next = next_more w.log r.number r.items u g.next;
            stands = stands_behind w.log r.number (r.place + n) r.items u g.next low.0;
            due = (omega arith, inl low.0);
          };
          overrun = λ at e. absurd (none_some (sym free ∙ e));
          unchecked = tt;
          seen = subst (λ (z : ℕ). z ≤ x) (sym (last_seen_more r.items u)) (omega arith);
          loaded = le_refl x;
          observed = (le_refl x, h.observed);
          finished_seen = h.finished_seen;
          ended = λ e. cc e;
        },
        (u, kth_of IsUnit w.log r.number u k.are_words.units kth, copied ∙ xs_is, next_has_run r.number r.items g.next, next_is r.number r.items g.next, refl, low.1, omega arith),
        refl,
      ))

  -- a word that is none of a log's
  pub finds_nothing : (slots id x : ℕ) (me : M) (r : ReaderView) → me.0.readers ≡ r ∷ [] → 0 < key.seg → r.lost ≡ None → r.unchecked ≡ Words (x ∷ []) → x ≢ end_mark → (x ≡ wrap_mark → r.place % (8 * key.seg) + key.seg < 8 * key.seg)
      → (header_mark + fewest_words ≤ x → x ≤ header_mark + key.seg → r.place % (8 * key.seg) + (x - header_mark) < 8 * key.seg → ⊥)
      → Allows (HoldsOneLog words key) slots id me 8 (λ z. z) (Reads (Checks FindsNothing) (step slots 8 0 0 none) me)
  finds_nothing slots id x me r one pos free unchecked no_end no_wrap no_unit = checks FindsNothing slots id me r one free (λ s k h near.
      let w = k.shared in
      let seg : ℕ = key.seg in
      let c = copied_in w r (x ∷ []) h unchecked near in absurd (⊎_elim (λ (t : IsEnd w r (x ∷ [])). no_end (head_is t.0))
      (λ rest. ⊎_elim (λ (t : IsLap w r (x ∷ [])).
      let u = t.1 in
      let far = ltb-false (r.place % (8 * seg) + length (words u.0)) (8 * seg) u.3 in
      let sized = has_word words seg w.log r.number u.0 k.are_words.fit u.1 in
      let most = sized.1 in
      let room = no_wrap (head_is t.0) in omega arith)
      (λ (t : IsPart w r (x ∷ [])).
      let e = part_head w r (x ∷ []) t in
      let sized = has_word words seg w.log r.number t.1.0 k.are_words.fit t.1.1 in
      let n : ℕ = length (words t.1.0) in
      let fits : r.place % (8 * seg) + n < 8 * seg = subst (λ (z : ℕ). z % (8 * seg) + n < 8 * seg) (sym t.1.2) (in_stretch seg (tail words seg (take r.number w.log)) n pos sized.1) in
      let least = length_unit_words-at_least Two t.1.0 (kth_of IsUnit w.log r.number t.1.0 k.are_words.units t.1.1) in
      let most = sized.1 in
      let n_is : x - header_mark ≡ n = omega arith in
      no_unit (omega arith) (omega arith) (subst (λ (z : ℕ). r.place % (8 * seg) + z < 8 * seg) (sym n_is) fits)) rest) c.0))

  -- a check of a cursor that was overrun
  pub checks_again : (slots id at : ℕ) (me : M) (r : ReaderView) → me.0.readers ≡ r ∷ [] → r.lost ≡ Some at → Allows (HoldsOneLog words key) slots id me 8 (λ z. z) (Reads ChecksAgain (step slots 8 0 0 none) me)
  checks_again slots id at me r one lost = reads ChecksAgain slots id 8 me r one (λ s k h.
      let x : ℕ = get_or s.words 8 0 in
      let w = k.shared in
      let x_is : x ≡ w.counter = k.are_words.counter in
      let far = again_far w at r.items (h.overrun at lost) h.history in
      let seen = h.seen in
      let loaded = h.loaded in (
        overrun_at at x r,
        overrun_in w at x r h (omega arith) x_is (again_follows w.log at r.items (h.overrun at lost)),
        λ a e. let same : at ≡ a = some_is (sym lost ∙ e) in (omega arith, ap (λ (z : ℕ). overrun_at z x r) same),
        inr (CounterSeen x, (refl, refl), refl),
      ))

  -- the counter, before a cursor seeks
  pub looks_first : (slots id : ℕ) (me : M) (r : ReaderView) → me.0.readers ≡ r ∷ [] → Allows (HoldsOneLog words key) slots id me 8 (λ z. z) (Reads Looks (step slots 8 0 0 none) me)
  looks_first slots id me r one = reads Looks slots id 8 me r one (λ s k h.
      let x : ℕ = get_or s.words 8 0 in
      let w = k.shared in
      let x_is : x ≡ w.counter = k.are_words.counter in
      let seen = h.seen in
      let loaded = h.loaded in (
        with_loaded x r,
        record { history = h.history; reading = λ e. let g = h.reading e in record { next = g.next; stands = g.stands; due = g.due }; overrun = h.overrun; unchecked = tt; seen = omega arith; loaded = omega arith; observed = (omega arith, subst (λ (z : ℕ). AreObserved words key.seg w.log z r.observed) (sym x_is) h.observed); finished_seen = h.finished_seen; ended = h.ended },
        refl,
        inr (CounterSeen x, (refl, refl), refl),
      ))

  -- a put announces at most two segments ahead
  counter_near : (log : Log) (c : ℕ) (h : Progress) (e v : ℕ → ℕ) → IsUnderWay words key.seg log c h e v → c ≤ tail words key.seg log / key.seg + 2
  counter_near log c Free e v h = omega arith
  counter_near log c (Storing p) e v h = ⊎_elim
      (λ (level : c ≡ p.tail / key.seg). let t = ap (λ (z : ℕ). z / key.seg) h.0 in omega arith)
      (λ (t : (c ≡ end_at key.seg p.tail (length (words p.unit)) / key.seg) × (c ≤ p.tail / key.seg + 2)). subst (λ (z : ℕ). c ≤ z / key.seg + 2) h.0 t.1) h.2
  counter_near log c (Stored p) e v h = let level = h.1 in omega arith

  -- the start of the segment four behind the counter that was loaded
  pub loads_start : (slots id i : ℕ) (me : M) (r : ReaderView) → me.0.readers ≡ r ∷ [] → 0 < key.seg → i ≡ 9 + (r.loaded - 4) % 8 → Allows (HoldsOneLog words key) slots id me i (λ z. z) (Reads LoadsStart (step slots i 0 0 none) me)
  loads_start slots id i me r one pos i_is = reads LoadsStart slots id i me r one (λ s k h.
      let x : ℕ = get_or s.words i 0 in
      let w = k.shared in
      let a = k.are_words in
      let n : ℕ = r.loaded - 4 in
      let near = counter_near w.log w.counter w.progress (ent s.words) (word s.words) a.under_way in
      let loaded = h.loaded in
      let low : n ≤ tail words key.seg w.log / key.seg = omega arith in
      let first = start_there words key.seg w.log n pos a.fit low in
      let x_is : x ≡ ent s.words (n % 8) = ap (λ (z : ℕ). get_or s.words z 0) i_is in
      let start_is : w.counter < n + 8 → segment_start words key.seg w.log n ≡ Some x = λ c. first.1 ∙ ap Some (sym (x_is ∙ a.holds.segment_starts n first.0 low c first.1)) in (
        with_start_of x r,
        record {
          history = h.history;
          reading = λ e. let g = h.reading e in record { next = g.next; stands = g.stands; due = g.due };
          overrun = h.overrun;
          unchecked = (omega arith, λ c. (low, start_is c));
          seen = h.seen;
          loaded = h.loaded;
          finished_seen = h.finished_seen;
          observed = (λ c. start_is c, h.observed);
          ended = h.ended;
        },
        refl,
        inr (StartSeen n x, (i_is, refl), refl),
      ))

  -- the number of its first unit
  pub loads_number : (slots id i x0 : ℕ) (me : M) (r : ReaderView) → me.0.readers ≡ r ∷ [] → 0 < key.seg → r.unchecked ≡ Start (r.loaded - 4) x0 → i ≡ 18 + (r.loaded - 4) % 8 → Allows (HoldsOneLog words key) slots id me i (λ z. z) (Reads LoadsNumber (step slots i 0 0 none) me)
  loads_number slots id i x0 me r one pos unchecked i_is = reads LoadsNumber slots id i me r one (λ s k h.
      let x : ℕ = get_or s.words i 0 in
      let w = k.shared in
      let a = k.are_words in
      let n : ℕ = r.loaded - 4 in
      let holds : IsUnchecked words key w.log w.counter r (Start n x0) = subst (IsUnchecked words key w.log w.counter r) unchecked h.unchecked in
      let start_is : unchecked_start r.unchecked ≡ x0 = ap unchecked_start unchecked in
      let x_is : x ≡ num s.words (n % 8) = ap (λ (z : ℕ). get_or s.words z 0) i_is in
      let number_is : w.counter < n + 8 → (n ≤ tail words key.seg w.log / key.seg) × (x ≡ first_number words key.seg w.log n) = λ c. let low = (holds.1 c).0 in (low, x_is ∙ a.numbers n low c) in (
        with_number_of x r,
        record {
          history = h.history;
          reading = λ e. let g = h.reading e in record { next = g.next; stands = g.stands; due = g.due };
          overrun = h.overrun;
          unchecked = (holds.0, λ c. ((holds.1 c).0, (holds.1 c).1 ∙ ap Some (sym start_is), (number_is c).1));
          seen = h.seen;
          loaded = h.loaded;
          finished_seen = h.finished_seen;
          observed = (number_is, h.observed);
          ended = h.ended;
        },
        refl,
        inr (NumberSeen n x, (i_is, refl), refl),
      ))

  -- an overrun in the segment that is sought may follow the one before
  sought_follows : (log : Log) (at n : ℕ) (items : List (HistoryItem LogUnit)) → IsOverrunAt at items → last_seen items ≤ n + 4 → MayFollow words key.seg log n items
  sought_follows log at n [] o l = absurd o
  sought_follows log at n (UnitRun q ∷ is) o l = absurd o
  sought_follows log at n (Overrun a b ∷ is) o l = inr l

  -- a run that begins there may follow it
  sought_run : 0 < key.seg → (most : ℕ) (log : Log) (at n : ℕ) (items : List (HistoryItem LogUnit)) → AreFit words key.seg log → IsOverrunAt at items → last_seen items ≤ n + 4 → n + 4 ≤ most → n ≤ tail words key.seg log / key.seg → IsReadBack words key.seg most log items
      → (next_number items ≤ first_number words key.seg log n) × IsReadBack words key.seg most log (UnitRun (record { segment = n; first = first_number words key.seg log n; missed = first_number words key.seg log n - next_number items; units = [] }) ∷ items)
  sought_run pos most log at n [] fit o l up low h = absurd o
  sought_run pos most log at n (UnitRun q ∷ is) fit o l up low h = absurd o
  sought_run pos most log at n (Overrun a b ∷ is) fit o l up low h =
      let behind = number_behind words key.seg pos most log a b n is fit h l in
      (behind, run_begins words key.seg most log a b n (first_number words key.seg log n - next_number is) is l up low (omega arith) h)

  -- a place at which a unit is due is none above the last
  due_low : (w : SharedState) (ws : List ℕ) (k p : ℕ) → 0 < key.seg → AreWords words key.seg w ws → IsDueAt words key.seg w.log k p → p ≤ last_tail
  due_low w ws k p pos a due = ⊎_elim
      (λ (at : p ≡ tail words key.seg (take k w.log)). let upto = tail_of_some words key.seg pos 0 k w.log in let low = a.low in omega arith)
      (λ (t : UnitStarts words key.seg w.log k p). let low = (starts_low w ws k p t pos a).1 in omega arith) due.1

  -- the check of a cursor that seeks
  pub seeks : (slots id at x0 n0 : ℕ) (me : M) (r : ReaderView) → me.0.readers ≡ r ∷ [] → 0 < key.seg → r.lost ≡ Some at → r.unchecked ≡ Numbered (r.loaded - 4) x0 n0 → Allows (HoldsOneLog words key) slots id me 8 (λ z. z) (Reads Seeks (step slots 8 0 0 none) me)
  seeks slots id at x0 n0 me r one pos lost unchecked = reads Seeks slots id 8 me r one (λ s k h.
      let x : ℕ = get_or s.words 8 0 in
      let w = k.shared in
      let a = k.are_words in
      let x_is : x ≡ w.counter = a.counter in
      let n : ℕ = r.loaded - 4 in
      let holds : IsUnchecked words key w.log w.counter r (Numbered n x0 n0) = subst (IsUnchecked words key w.log w.counter r) unchecked h.unchecked in
      let four_behind = holds.0 in
      let seen = h.seen in
      let loaded = h.loaded in
      let near : last_seen r.items ≤ n + 4 = omega arith in
      let o = h.overrun at lost in
      dite (dec_le (n + 6) x)
      (λ far. (overrun_at n x r, overrun_in w n x r h far x_is (sought_follows w.log at n r.items o near), inl (far, refl), inr (CounterSeen x, (refl, refl), refl)))
      (λ not.
      let there = holds.1 (omega arith) in
      let number : ℕ = first_number words key.seg w.log n in
      let few = below_few words key.seg 0 w.log (n * key.seg) in
      let due : IsDueAt words key.seg w.log number x0 = (few, start_leads words key.seg pos w.log n x0 a.fit there.1) in
      let place_is : unchecked_start r.unchecked ≡ x0 = ap unchecked_start unchecked in
      let number_is : unchecked_number r.unchecked ≡ number = ap unchecked_number unchecked ∙ there.2 in
      let low = due_low w s.words number x0 pos a due in
      let units = units_low w s.words pos a in
      let far = again_far w at r.items o h.history in
      let run = sought_run pos w.counter w.log at n r.items a.fit o near (omega arith) there.0 h.history in (
        with_run n (unchecked_start r.unchecked) (unchecked_number r.unchecked) x r,
        subst (λ (z : ℕ × ℕ). IsIn w (with_run n z.0 z.1 x r)) (λ i. (sym place_is i, sym number_is i)) record {
          history = run.1;
          reading = λ _. record { next = omega arith; stands = inl ((λ _. there.1), λ z. absurd (omega arith)); due = due };
          overrun = λ z e. absurd (none_some e);
          unchecked = tt;
          seen = omega arith;
          loaded = omega arith;
          observed = (omega arith, subst (λ (z : ℕ). AreObserved words key.seg w.log z r.observed) (sym x_is) h.observed);
          finished_seen = h.finished_seen;
          ended = λ e. cc e;
        },
        inr (omega arith, overrun_item at r.items o, subst (λ (z : ℕ). next_number r.items ≤ z) (sym number_is) run.0, refl, subst (λ (p : ℕ). p ≤ last_tail) (sym place_is) low, omega arith),
        inr (CounterSeen x, (refl, refl), refl),
      )))
