-- What is so of a reader stays so, where the counter or the number of writers that left rises, and where the log gets one unit more.
use Rattle.std.proofs.Common.{◌≡◌, ℕ, ◌+◌, ◌<◌, ◌≤◌, List, [], ◌∷◌, ◌++◌, length, take, sym, ap, ◌∙◌, ⊎_elim, inl, inr, arith, le_trans, le_refl, length-append}
use Rattle.std.proofs.lemmas.List.{take-append-le}
use Rattle.vsl_record.specs.Unit.{LogUnit, Log}
use Rattle.ring_layout.specs.declared.history.HistoryItem.{HistoryItem}
use Rattle.ring_layout.specs.declared.history.HistoryItem.TheVariants.{UnitRun, Overrun}
use Rattle.ring_layout.specs.Places.{tail}
use Rattle.ring_layout.specs.Copied.{IsDueAt}
use Rattle.ring_layout.specs.History.{RunStands, UnitStarts, MayBegin, IsReadBack}
use Rattle.ring_layout.specs.declared.history.Run.{Run}
use Rattle.ring_layout.proofs.TakenLemmas.{number_stays, entry_stays, tail_grows, stands_stays, starts_stays, back_stays}
use Rattle.ring_layout.proofs.CopiesLemmas.{reads_stays}
use Rattle.log_ring.specs.declared.rule.RingKey.{RingKey}
use Rattle.log_ring.specs.declared.rule.ReaderView.{ReaderView}
use Rattle.log_ring.specs.declared.rule.Unchecked.{Unchecked}
use Rattle.log_ring.specs.declared.rule.Unchecked.TheVariants.{Nothing, Words, Start, Numbered}
use Rattle.log_ring.specs.declared.rule.Observation.{Observation}
use Rattle.log_ring.specs.declared.rule.Observation.TheVariants.{CounterSeen, FinishedSeen, WordSeen, StartSeen, NumberSeen}
use Rattle.log_ring.specs.Closed.{AreObserved, CursorStands}
use Rattle.log_ring.specs.inside.Rule.{IsUnchecked, IsReader}

module _ (words : LogUnit → List ℕ) (key : RingKey) where
  begins_higher : (log : Log) (most more : ℕ) → most ≤ more → (r : Run LogUnit) (is : List (HistoryItem LogUnit)) → MayBegin words key.seg most log r is → MayBegin words key.seg more log r is
  begins_higher log most more up r [] h = h
  begins_higher log most more up r (UnitRun q ∷ is) h = h
  begins_higher log most more up r (Overrun a b ∷ is) h = record { near = h.near; announced = le_trans h.announced up; number = h.number; missed = h.missed }

  history_higher : (log : Log) (most more : ℕ) → most ≤ more → (items : List (HistoryItem LogUnit)) → IsReadBack words key.seg most log items → IsReadBack words key.seg more log items
  history_higher log most more up [] h = tt
  history_higher log most more up (UnitRun r ∷ is) h = (h.0, begins_higher log most more up r is h.1, history_higher log most more up is h.2)
  history_higher log most more up (Overrun a b ∷ is) h = (h.0, le_trans h.1 up, h.2, h.3, history_higher log most more up is h.4)

  unchecked_higher : (log : Log) (c c' : ℕ) → c ≤ c' → (r : ReaderView) (n : Unchecked) → IsUnchecked words key log c r n → IsUnchecked words key log c' r n
  unchecked_higher log c c' up r Nothing h = tt
  unchecked_higher log c c' up r (Words xs) h = λ near. h (omega arith)
  unchecked_higher log c c' up r (Start s x) h = (h.0, λ near. h.1 (omega arith))
  unchecked_higher log c c' up r (Numbered s x n) h = (h.0, λ near. h.1 (omega arith))

  observed_higher : (log : Log) (c c' : ℕ) → c ≤ c' → (os : List Observation) → AreObserved words key.seg log c os → AreObserved words key.seg log c' os
  observed_higher log c c' up [] h = tt
  observed_higher log c c' up (CounterSeen x ∷ os) h = (le_trans h.0 up, h.1)
  observed_higher log c c' up (FinishedSeen n ∷ os) h = observed_higher log c c' up os h
  observed_higher log c c' up (WordSeen p x ∷ os) h = (λ mark near. h.0 mark (omega arith), observed_higher log c c' up os h.1)
  observed_higher log c c' up (StartSeen s p ∷ os) h = (λ near. h.0 (omega arith), observed_higher log c c' up os h.1)
  observed_higher log c c' up (NumberSeen s n ∷ os) h = (λ near. h.0 (omega arith), observed_higher log c c' up os h.1)

  -- where the counter or the number of writers that left rises
  pub reader_higher : (log : Log) (c c' finished finished' : ℕ) → c ≤ c' → finished ≤ finished' → (r : ReaderView) → IsReader words key log c finished r → IsReader words key log c' finished' r
  reader_higher log c c' finished finished' up more r h = record {
    history = history_higher log c c' up r.items h.history;
    reading = h.reading;
    overrun = h.overrun;
    unchecked = unchecked_higher log c c' up r r.unchecked h.unchecked;
    seen = h.seen;
    loaded = le_trans h.loaded up;
    finished_seen = le_trans h.finished_seen more;
    observed = observed_higher log c c' up r.observed h.observed;
    ended = λ e. let all = h.ended e in (le_trans all.0 more, all.1);
  }

  module _ (pos : 0 < key.seg) (log : Log) (u : LogUnit) where
    stands_longer : (p c : ℕ) (items : List (HistoryItem LogUnit)) → IsReadBack words key.seg c log items → CursorStands words key.seg log p items → CursorStands words key.seg (log ++ u ∷ []) p items
    stands_longer p c [] h s = s
    stands_longer p c (UnitRun r ∷ is) h s = ⊎_elim
        (λ (t : RunStands words key.seg log r.segment r.first (length r.units) p). inl (stands_stays words key.seg pos log u r.segment r.first (length r.units) p h.0.inside t))
        (λ (t : UnitStarts words key.seg log (r.first + length r.units) p). inr (starts_stays words key.seg pos log u (r.first + length r.units) p t)) s
    stands_longer p c (Overrun a b ∷ is) h s = s

    due_longer : (k p : ℕ) → IsDueAt words key.seg log k p → IsDueAt words key.seg (log ++ u ∷ []) k p
    due_longer k p h = let below = h.0 in (
      omega (arith, length-append log (u ∷ [])),
      ⊎_elim
          (λ (at : p ≡ tail words key.seg (take k log)). inl (at ∙ sym (ap (tail words key.seg) (take-append-le k log (u ∷ []) below))))
          (λ (at : UnitStarts words key.seg log k p). inr (starts_stays words key.seg pos log u k p at))
          h.1,
    )

    unchecked_longer : (c finished : ℕ) (r : ReaderView) → finished < key.writers → r.finished_seen ≤ finished → (n : Unchecked) → IsUnchecked words key log c r n → IsUnchecked words key (log ++ u ∷ []) c r n
    unchecked_longer c finished r some finished_seen Nothing h = tt
    unchecked_longer c finished r some finished_seen (Words xs) h = λ near. (reads_stays words key.seg pos log u r.place r.number xs (h near).0, λ all mark. absurd (omega arith))
    unchecked_longer c finished r some finished_seen (Start s x) h = (h.0, λ near. let z = h.1 near in (le_trans z.0 (tail_grows words key.seg pos log u), entry_stays words key.seg pos log u s x z.1))
    unchecked_longer c finished r some finished_seen (Numbered s x n) h = (
      h.0,
      λ near. let z = h.1 near in (le_trans z.0 (tail_grows words key.seg pos log u), entry_stays words key.seg pos log u s x z.1, z.2 ∙ sym (number_stays words key.seg pos log u s z.0)),
    )

    observed_longer : (c : ℕ) (os : List Observation) → AreObserved words key.seg log c os → AreObserved words key.seg (log ++ u ∷ []) c os
    observed_longer c [] h = tt
    observed_longer c (CounterSeen x ∷ os) h = (h.0, observed_longer x os h.1)
    observed_longer c (FinishedSeen n ∷ os) h = observed_longer c os h
    observed_longer c (WordSeen p x ∷ os) h = (
      λ mark near. let z = h.0 mark near in let below = z.1 in (z.0, omega (arith, length-append log (u ∷ [])), z.2 ∙ sym (ap (tail words key.seg) (take-append-le z.0 log (u ∷ []) below))),
      observed_longer c os h.1,
    )
    observed_longer c (StartSeen s p ∷ os) h = (λ near. entry_stays words key.seg pos log u s p (h.0 near), observed_longer c os h.1)
    observed_longer c (NumberSeen s n ∷ os) h = (
      λ near. let z = h.0 near in (le_trans z.0 (tail_grows words key.seg pos log u), z.1 ∙ sym (number_stays words key.seg pos log u s z.0)),
      observed_longer c os h.1,
    )

    -- where the log gets one unit more, a writer didn't leave yet
    pub reader_longer : (c finished : ℕ) → finished < key.writers → (r : ReaderView) → IsReader words key log c finished r → IsReader words key (log ++ u ∷ []) c finished r
    reader_longer c finished some r h = record {
      history = back_stays words key.seg pos c c log u (le_refl c) r.items h.history;
      reading = λ free. let g = h.reading free in record { next = g.next; stands = stands_longer r.place c r.items h.history g.stands; due = due_longer r.number r.place g.due };
      overrun = h.overrun;
      unchecked = unchecked_longer c finished r some h.finished_seen r.unchecked h.unchecked;
      seen = h.seen;
      loaded = h.loaded;
      finished_seen = h.finished_seen;
      observed = observed_longer c r.observed h.observed;
      ended = λ e. let all = (h.ended e).0 in absurd (omega arith);
    }
