-- A writer takes the write token, and releases it.
use Rattle.std.proofs.Common.{◌≡◌, ◌≢◌, ◌⊎◌, ℕ, suc, ◌+◌, ◌-◌, ◌/◌, ◌^◌, ◌<◌, ◌≤◌, Bool, cond, max, List, [], ◌∷◌, length, get_or, set, sym, refl, ap, ◌∙◌, subst, inl, arith, le_refl, eq-eqb, ne_eqb, Some, None, length-set, get_or-set_same, get_or-set_other}
use mathlib.Core.Logic.{dite}
use mathlib.Core.Option.{none, some}
use lib.ListN.{get_elem?}
use Rattle.atomic_table.proofs.Lists.{set_else}
use Rattle.log_model.proofs.SumLemmas.{sum_set}
use native.Mathlib.Decide.{ℕ_discrete, dec_lt}
use Rattle.atomic_table.specs.Table.{State, step, keeps, stepped, Allows}
use Rattle.std.specs.List.{AllByRecursion}
use Rattle.vsl_record.specs.Unit.{LogUnit, Log}
use Rattle.vsl_record.specs.Words.{IsUnit}
use Rattle.ring_layout.specs.Places.{last_tail, end_at, tail, AreFit}
use Rattle.ring_layout.specs.Content.{HoldsLog, HoldsNumbers}
use Rattle.log_ring.specs.declared.rule.RingKey.{RingKey}
use Rattle.ring_layout.proofs.NumberLemmas.{units_short}
use Rattle.log_model.specs.Interleaving.{given_to}
use Rattle.log_ring.specs.declared.rule.WriterView.{WriterView}
use Rattle.log_ring.specs.declared.rule.Put.{Put}
use Rattle.log_ring.specs.declared.rule.Progress.{Progress}
use Rattle.log_ring.specs.declared.rule.Progress.TheVariants.{Free, Storing, Stored}
use Rattle.log_ring.specs.declared.rule.View.{View}
use Rattle.log_ring.specs.Closed.{entries_from}
use Rattle.log_ring.specs.inside.Rule.{SharedState, KnowsToken, IsToken, IsCount, IsUnderWay, IsNumbering, AreWords, HoldsOneLog, PutAll, writers_of}
use Rattle.log_ring.specs.inside.Writing.{begun, after_acquire, after_release, Makes, Acquires, first_entries, no_view}
use Rattle.log_ring.proofs.SeatLemmas.{inside_at, some_at}
use Rattle.log_ring.proofs.EntryLemmas.{entries_long}
use Rattle.log_ring.proofs.WordLemmas.{ent, num, word, beside, holds_as, numbers_as, numbering_as, under_way_as}
use Rattle.log_ring.proofs.RuleLemmas.{M, others_stay, changed, owners_stay, looks, acts}

none_some : {x : ℕ} → None ≡ Some x → ⊥
none_some e = cc e

module _ (words : LogUnit → List ℕ) (key : RingKey) where
  -- a write token that isn't 0 is free
  free_progress : (log : Log) (h : Progress) (x : ℕ) → IsToken words key.seg log h x → x ≢ 0 → h ≡ Free
  free_progress log Free x is got = refl
  free_progress log (Storing p) x is got = absurd (got is)
  free_progress log (Stored p) x is got = absurd (got is)

  -- the words after a store in a word beside the ring's, where the write token, the counter and the number of finished writers are said anew
  pub are_beside : (w w' : SharedState) (ws : List ℕ) (i x : ℕ) → (i < 9) ⊎ (i ≡ 17) → w'.log ≡ w.log → w'.counter ≡ w.counter → AreWords words key.seg w ws
      → IsToken words key.seg w'.log w'.progress (get_or (set ws i x) 0 0) → get_or (set ws i x) 8 0 ≡ w'.counter → get_or (set ws i x) 17 0 ≡ w'.finished
      → IsUnderWay words key.seg w'.log w'.counter w'.progress (ent ws) (word ws)
      → IsCount words w'.log w'.progress (get_or (set ws i x) 1 0) → IsNumbering words key.seg w'.log w'.progress (num ws)
      → AreWords words key.seg w' (set ws i x)
  are_beside w w' ws i x there logs counters a token counter finished way count numbering = let same = beside ws i x there in record {
    wide = length-set ws i x ∙ a.wide;
    token = token;
    counter = counter;
    finished = finished;
    holds = subst (λ (z : Log × ℕ). HoldsLog words key.seg z.0 z.1 (ent (set ws i x)) (word (set ws i x))) (λ j. (sym logs j, sym counters j)) (holds_as words key.seg w.log w.counter (ent ws) (ent (set ws i x)) (word ws) (word (set ws i x)) same.ents same.words a.holds);
    under_way = under_way_as words key.seg w'.log w'.counter w'.progress (ent ws) (ent (set ws i x)) (word ws) (word (set ws i x)) same.ents same.words way;
    count = count;
    numbers = subst (λ (z : Log × ℕ). HoldsNumbers words key.seg z.0 z.1 (num (set ws i x))) (λ j. (sym logs j, sym counters j)) (numbers_as words key.seg w.log w.counter (num ws) (num (set ws i x)) same.nums a.numbers);
    numbering = numbering_as words key.seg w'.log w'.progress (num ws) (num (set ws i x)) same.nums numbering;
    narrow = λ j. subst (λ (y : ℕ). y < 2 ^ 32) (sym (same.words j)) (a.narrow j);
    fit = subst (λ (l : Log). AreFit words key.seg l) (sym logs) a.fit;
    units = subst (λ (l : Log). AllByRecursion IsUnit l) (sym logs) a.units;
    low = subst (λ (l : Log). tail words key.seg l ≤ last_tail) (sym logs) a.low;
  }

  -- a put that begins has stored nothing
  nothing_stored : (log : Log) (c : ℕ) (u : LogUnit) (ws : List ℕ) → c ≡ tail words key.seg log / key.seg → IsUnderWay words key.seg log c (Storing (begun words key.seg (tail words key.seg log) u)) (ent ws) (word ws)
  nothing_stored log c u ws at = (refl, sym at, inl at, omega arith, record { segment_starts = λ s p l b. absurd (omega arith); stored = λ j l b. absurd (omega arith); marked = λ z. absurd (omega arith) })

  -- and loaded and numbered nothing
  nothing_numbered : (log : Log) (u : LogUnit) (ws : List ℕ) → IsNumbering words key.seg log (Storing (begun words key.seg (tail words key.seg log) u)) (num ws)
  nothing_numbered log u ws = (λ n e. absurd (none_some e), λ s l b m. absurd (omega arith))

  pub acquires : (slots id : ℕ) (u : LogUnit) (me : M words key) → me.0.progress ≡ Free → me.0.finished < length me.0.writers
      → Allows (HoldsOneLog words key) slots id me 0 (λ _. 0) (Makes (after_acquire words u) (step slots 0 0 0 none) me)
  acquires slots id u me free stays = acts words key slots id 0 me (λ _. 0) (after_acquire words u) (λ s r at small.
      let o = r.seats id me.0 at in
      let w = r.shared in
      let a = r.are_words in
      let x : ℕ = get_or s.words 0 0 in
      let busy : View = record me.0 { busy = me.0.busy + 1 } in
      let h : Progress = Storing (begun words me.0.ring.seg (x - 1) u) in
      let took : View = record me.0 { progress = h; found = max me.0.found (x - 1) } in
      dite (ℕ_discrete x 0)
      (λ none. subst (λ (b : Bool). HoldsOneLog words key (stepped s 0 0 id me.1 (cond b busy took) keeps)) (sym (eq-eqb x 0 none))
      (subst (λ (z : ℕ). HoldsOneLog words key (stepped s 0 z id me.1 busy keeps)) none
      (looks words key s r 0 id me.1 me.0 busy at record { ring = o.ring; put = o.put; apart = o.apart; token = o.token; found = o.found; finished = o.finished; idle = o.idle; readers = o.readers } refl refl)))
      (λ got. subst (λ (b : Bool). HoldsOneLog words key (stepped s 0 0 id me.1 (cond b busy took) keeps)) (sym (ne_eqb x 0 got))
      (let none_yet : w.progress ≡ Free = free_progress w.log w.progress x a.token got in
      let found : x ≡ tail words key.seg w.log + 1 = subst (λ (z : Progress). IsToken words key.seg w.log z x) none_yet a.token in
      let count : get_or s.words 1 0 ≡ length w.log = subst (λ (z : Progress). IsCount words w.log z (get_or s.words 1 0)) none_yet a.count in
      let level : w.counter ≡ tail words key.seg w.log / key.seg = subst (λ (z : Progress). IsUnderWay words key.seg w.log w.counter z (ent s.words) (word s.words)) none_yet a.under_way in
      let ring : me.0.ring ≡ key = o.ring (omega arith) in
      let t_is : x - 1 ≡ tail words key.seg w.log = omega arith in
      let h_is : h ≡ Storing (begun words key.seg (tail words key.seg w.log) u) = (λ i. Storing (begun words (ring i).seg (t_is i) u)) in
      let w' : SharedState = record w { progress = h; holder = id } in
      let wide = a.wide in
      let top = o.found in
      changed words key s r w' (set s.words 0 0) id me.0 took at
      (are_beside w w' s.words 0 0 (inl (omega arith)) refl refl a (get_or-set_same s.words 0 0 0 (omega arith)) (get_or-set_other s.words 0 8 0 0 (λ e. omega arith) ∙ a.counter) (get_or-set_other s.words 0 17 0 0 (λ e. omega arith) ∙ a.finished)
      (subst (λ (z : Progress). IsUnderWay words key.seg w.log w.counter z (ent s.words) (word s.words)) (sym h_is) (nothing_stored w.log w.counter u s.words level))
      (let kept = get_or-set_other s.words 0 1 0 0 (λ e. omega arith) in omega arith)
      (subst (λ (z : Progress). IsNumbering words key.seg w.log z (num s.words)) (sym h_is) (nothing_numbered w.log u s.words)))
      r.one_each
      record { ring = o.ring; put = o.put; apart = o.apart; token = (refl, refl); found = omega arith; finished = o.finished; idle = λ e. absurd (omega arith); readers = o.readers }
      (others_stay words key w w' id refl record { readers = λ _ q. q; tail = le_refl (tail words key.seg w.log); given = λ k _. refl; before = λ p. absurd (p none_yet); after = λ _. refl })
      (λ _. inside_at s.views id me.0 at)
      (owners_stay words key s r id me.0 took at (λ k q. q))
      refl refl)))

  -- the write token is given back, with the tail t
  returns : (slots id x : ℕ) (me : M words key) → ((w : SharedState) (ws : List ℕ) → AreWords words key.seg w ws → KnowsToken w.progress w.holder id me.0.progress → (w.holder ≡ id) × (x ≡ tail words key.seg w.log + 1) × (w.counter ≡ tail words key.seg w.log / key.seg) × (get_or ws 1 0 ≡ length w.log))
      → Allows (HoldsOneLog words key) slots id me 0 (λ _. x) (λ _. Makes (λ _. after_release) (step slots 0 x 0 none) me x)
  returns slots id x me told = acts words key slots id 0 me (λ _. x) (λ _. after_release) (λ s r at small.
      let o = r.seats id me.0 at in
      let w = r.shared in
      let a = r.are_words in
      let mine = told w s.words a o.token in
      let w' : SharedState = record w { progress = Free } in
      let wide = a.wide in
      changed words key s r w' (set s.words 0 x) id me.0 (after_release me.0) at
      (are_beside w w' s.words 0 x (inl (omega arith)) refl refl a (get_or-set_same s.words 0 x 0 (omega arith) ∙ mine.1) (get_or-set_other s.words 0 8 x 0 (λ e. omega arith) ∙ a.counter) (get_or-set_other s.words 0 17 x 0 (λ e. omega arith) ∙ a.finished) mine.2 (get_or-set_other s.words 0 1 x 0 (λ e. omega arith) ∙ mine.3) tt)
      r.one_each
      record { ring = o.ring; put = o.put; apart = o.apart; token = λ p e. p refl; found = o.found; finished = o.finished; idle = λ _. refl; readers = o.readers }
      (others_stay words key w w' id refl record { readers = λ _ q. q; tail = le_refl (tail words key.seg w.log); given = λ k _. refl; before = λ _. mine.0; after = λ p. absurd (p refl) })
      (λ p. absurd (p refl))
      (owners_stay words key s r id me.0 (after_release me.0) at (λ k q. q))
      refl refl)

  -- after the unit is in the log
  pub releases : (slots id x : ℕ) (p : Put) (me : M words key) → me.0.progress ≡ Stored p → x ≡ end_at key.seg p.tail (length (words p.unit)) + 1
      → Allows (HoldsOneLog words key) slots id me 0 (λ _. x) (λ _. Makes (λ _. after_release) (step slots 0 x 0 none) me x)
  releases slots id x p me is at = returns slots id x me (λ w ws a token.
      let h : KnowsToken w.progress w.holder id (Stored p) = subst (KnowsToken w.progress w.holder id) is token in
      let way = subst (λ (z : Progress). IsUnderWay words key.seg w.log w.counter z (ent ws) (word ws)) (sym h.0) a.under_way in
      (sym h.1, at ∙ ap (λ (z : ℕ). z + 1) (sym way.0), way.1, subst (λ (z : Progress). IsCount words w.log z (get_or ws 1 0)) (sym h.0) a.count))

  -- where the unit has no place
  pub withdraws : (slots id x : ℕ) (p : Put) (me : M words key) → me.0.progress ≡ Storing p → p.counter ≡ p.tail / key.seg → p.counted ≡ 0 → x ≡ p.tail + 1
      → Allows (HoldsOneLog words key) slots id me 0 (λ _. x) (λ _. Makes (λ _. after_release) (step slots 0 x 0 none) me x)
  withdraws slots id x p me is level uncounted at = returns slots id x me (λ w ws a token.
      let h : KnowsToken w.progress w.holder id (Storing p) = subst (KnowsToken w.progress w.holder id) is token in
      let way = subst (λ (z : Progress). IsUnderWay words key.seg w.log w.counter z (ent ws) (word ws)) (sym h.0) a.under_way in
      let count : get_or ws 1 0 ≡ length w.log + p.counted = subst (λ (z : Progress). IsCount words w.log z (get_or ws 1 0)) (sym h.0) a.count in
      (sym h.1, at ∙ ap (λ (z : ℕ). z + 1) way.0, sym way.1 ∙ (level ∙ ap (λ (z : ℕ). z / key.seg) way.0), omega arith))

  -- no writer has more entries than the log has units, and the tail is no smaller
  given_short : {A : Type 0} (k : ℕ) (owners : List ℕ) (xs : List A) → length (given_to k owners xs) ≤ length xs
  given_short k [] xs = omega arith
  given_short k (o ∷ os) [] = omega arith
  given_short {A} k (o ∷ os) (x ∷ xs) = let rest = given_short k os xs in dite (ℕ_discrete o k)
      (λ e. subst (λ (b : Bool). length (cond b (x ∷ given_to k os xs) (given_to k os xs)) ≤ suc (length xs)) (sym (eq-eqb o k e)) (omega arith))
      (λ n. subst (λ (b : Bool). length (cond b (x ∷ given_to k os xs) (given_to k os xs)) ≤ suc (length xs)) (sym (ne_eqb o k n)) (omega arith))

  entries_short : (log : Log) (owners : List ℕ) (seat : ℕ → ℕ) (id : ℕ) (xs : List WriterView) → 0 < key.seg → AreFit words key.seg log → PutAll words key.seg log owners seat id xs → length (first_entries xs) ≤ tail words key.seg log
  entries_short log owners seat id [] pos fit h = omega arith
  entries_short log owners seat id (x ∷ xs) pos fit h =
      let same = ap (λ (l : List (ℕ × LogUnit)). length l) h.0.1 in
      let a = given_short x.number owners (entries_from words key.seg 0 log) in
      let b = entries_long words key.seg 0 log in
      let c = units_short words key.seg pos 0 log fit in omega arith

  -- where a seat doesn't have the write token and another does, there are two writers
  more_writers : (s : State ℕ View) (r : HoldsOneLog words key s) (id : ℕ) (v : View) → get_elem? s.views id ≡ some v → v.progress ≡ Free → v.finished < length v.writers → r.shared.progress ≢ Free → 1 < key.writers
  more_writers s r id v at free stays held =
      let w = r.shared in
      let o = r.seats id v at in
      let mine : w.progress ≢ Free → id ≢ w.holder = subst (KnowsToken w.progress w.holder id) free o.token in
      let there = some_at s.views w.holder (r.holder held) in
      let h = r.seats w.holder there.0 there.1 in
      let busy : there.0.progress ≢ Free = λ e. (subst (KnowsToken w.progress w.holder w.holder) e h.token) held refl in
      let low = h.finished in
      let a = sum_set writers_of s.views id v no_view at in
      let b = sum_set writers_of (set s.views id no_view) w.holder there.0 no_view (set_else s.views id w.holder no_view (λ e. mine held (sym e)) ∙ there.1) in
      let all = r.writers in
      dite (dec_lt there.0.finished (length there.0.writers)) (λ l. omega arith) (λ g. absurd (busy (h.idle (omega arith))))

  pub acquires_told : (slots id : ℕ) (u : LogUnit) (me : M words key) → me.0.progress ≡ Free → me.0.finished < length me.0.writers
      → Allows (HoldsOneLog words key) slots id me 0 (λ _. 0) (Acquires words u (step slots 0 0 0 none) me)
  acquires_told slots id u me free stays s r homes at small =
      let t = acquires slots id u me free stays s r homes at small in
      let a = r.are_words in
      let w = r.shared in
      let o = r.seats id me.0 at in (
        t.0,
        t.1,
        t.2,
        t.3,
        (
          t.4,
          λ got.
              let none_yet : w.progress ≡ Free = free_progress w.log w.progress (get_or s.words 0 0) a.token (λ e. omega arith) in
              let found : get_or s.words 0 0 ≡ tail words key.seg w.log + 1 = subst (λ (z : Progress). IsToken words key.seg w.log z (get_or s.words 0 0)) none_yet a.token in
              let low = a.low in
              let short = entries_short w.log w.owners w.seat id me.0.writers (let l = r.segment.0 in omega arith) a.fit o.put in (omega arith, omega arith),
          λ taken.
              let held : w.progress ≢ Free = λ e. let f : get_or s.words 0 0 ≡ tail words key.seg w.log + 1 = subst (λ (z : Progress). IsToken words key.seg w.log z (get_or s.words 0 0)) e a.token in omega arith in
              let ring = ap (λ (k : RingKey). k.writers) (o.ring (omega arith)) in
              let more = more_writers s r id me.0 at free stays held in omega arith,
        ),
      )
