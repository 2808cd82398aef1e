-- What a reader answers after a check.
use Rattle.std.proofs.Common.{◌≡◌, ℕ, ◌+◌, ◌*◌, ◌/◌, ◌%◌, ◌<◌, ◌≤◌, List, [], ◌∷◌, ◌++◌, length, take, drop, sym, refl, ap, ◌∙◌, subst, ⊎_elim, inl, inr, arith, Option, Some, None, le-leb, length-append}
use Rattle.std.proofs.lemmas.Nat.{mod-mul-add}
use Rattle.std.proofs.lemmas.List.{length-take-le, take_at}
use Rattle.vsl_record.specs.Words.{unit_words, words_in}
use Rattle.vsl_record.proofs.WordLemmas.{words_in-take}
use Rattle.vsl_record.specs.Unit.{LogUnit}
use Rattle.ring_layout.specs.declared.history.HistoryItem.{HistoryItem}
use Rattle.ring_layout.specs.declared.history.HistoryItem.TheVariants.{UnitRun, Overrun}
use Rattle.ring_layout.specs.declared.steps.Step.{Step}
use Rattle.ring_layout.specs.declared.steps.Step.TheVariants.{Took, NotYet, Ended, Lost}
use Rattle.ring_layout.specs.Places.{end_mark, last_tail}
use Rattle.ring_layout.specs.History.{HasRun, next_number, with_unit}
use Rattle.log_ring.specs.declared.rule.RingKey.{RingKey}
use Rattle.log_ring.specs.declared.rule.ReaderView.{ReaderView}
use Rattle.log_ring.specs.declared.rule.Observation.{Observation}
use Rattle.log_ring.specs.declared.rule.Observation.TheVariants.{CounterSeen, FinishedSeen, WordSeen}
use Rattle.log_ring.specs.Ring.{RingSet}
use Rattle.log_ring.specs.Readers.{ReaderState, TookNothing, IsAnswer, IsReadAt, HasFound, StaysLost}
use Rattle.log_ring.specs.inside.Steps.{HasMoved, FoundWord, HasChecked, HasTried}
use Rattle.log_ring.specs.inside.Reading.{unchecked_words, overrun_at, with_end, Checks, FindsEnd, FindsLap, FindsUnit, FindsNothing}

-- a reader that was overrun
pub lost_answer : (old new : ReaderState) (at seen : ℕ) → new.reader ≡ overrun_at at seen old.reader → at + 6 ≤ seen → IsAnswer old (Lost at seen) new
lost_answer old new at seen is far = record { far = far; loaded = ap (λ (r : ReaderView). r.loaded) is; lost = ap (λ (r : ReaderView). r.lost) is; items = ap (λ (r : ReaderView). r.items) is }

module _ (T : RingKey → ℕ → ReaderView → ReaderView → Type 0) (key : RingKey) (x at : ℕ) (old new : ReaderState) where
  pub far_answer : Checks T key x old.reader new.reader → at ≡ old.reader.place / key.seg → at + 6 ≤ x → IsAnswer old (Lost at x) new
  far_answer told is far = ⊎_elim
      (λ (t : (old.reader.place / key.seg + 6 ≤ x) × (new.reader ≡ overrun_at (old.reader.place / key.seg) x old.reader)). lost_answer old new at x (t.1 ∙ ap (λ (z : ℕ). overrun_at z x old.reader) (sym is)) far)
      (λ (t : (x < old.reader.place / key.seg + 6) × T key x old.reader new.reader). let near = t.0 in absurd (omega arith)) told

  pub near_told : Checks T key x old.reader new.reader → at ≡ old.reader.place / key.seg → x < at + 6 → T key x old.reader new.reader
  near_told told is near = ⊎_elim
      (λ (t : (old.reader.place / key.seg + 6 ≤ x) × (new.reader ≡ overrun_at (old.reader.place / key.seg) x old.reader)). let far = t.0 in absurd (omega arith))
      (λ (t : (x < old.reader.place / key.seg + 6) × T key x old.reader new.reader). t.1) told

-- where no log's word was found, it was overrun
pub nothing_answer : (key : RingKey) (x at : ℕ) (old new : ReaderState) → Checks FindsNothing key x old.reader new.reader → at ≡ old.reader.place / key.seg → IsAnswer old (Lost at x) new
nothing_answer key x at old new told is = ⊎_elim
    (λ (t : (old.reader.place / key.seg + 6 ≤ x) × (new.reader ≡ overrun_at (old.reader.place / key.seg) x old.reader)). let far = t.0 in lost_answer old new at x (t.1 ∙ ap (λ (z : ℕ). overrun_at z x old.reader) (sym is)) (omega arith))
    (λ (t : (x < old.reader.place / key.seg + 6) × FindsNothing key x old.reader new.reader). absurd t.1) told

module _ (key : RingKey) (x at : ℕ) (old new : ReaderState) (told : Checks FindsEnd key x old.reader new.reader) (is : at ≡ old.reader.place / key.seg) (near : x < at + 6) (seg : old.ring.seg ≡ key.seg) (writers : old.ring.writers ≡ key.writers) (free : old.reader.lost ≡ None) where
  end_is : new.reader ≡ with_end key x old.reader
  end_is = near_told FindsEnd key x at old new told is near

  loaded_near : new.reader.loaded < old.reader.place / old.ring.seg + 6
  loaded_near = let loaded = ap (λ (r : ReaderView). r.loaded) end_is in let same : old.reader.place / key.seg ≡ old.reader.place / old.ring.seg = ap (λ (z : ℕ). old.reader.place / z) (sym seg) in omega arith

  nothing_taken : (p : ℕ) → p ≡ old.reader.place → TookNothing p old new
  nothing_taken p p_is = record {
    place_is = ap (λ (r : ReaderView). r.place) end_is ∙ sym p_is;
    items = ap (λ (r : ReaderView). r.items) end_is;
    not_lost = ap (λ (r : ReaderView). r.lost) end_is ∙ free;
    near = subst (λ (z : ℕ). new.reader.loaded < z / old.ring.seg + 6) (sym p_is) loaded_near;
  }

  pub ended_answer : key.writers ≤ old.reader.finished_seen → IsAnswer old Ended new
  ended_answer all =
      let finished_seen : new.reader.finished_seen ≡ old.reader.finished_seen = ap (λ (r : ReaderView). r.finished_seen) end_is in
      (nothing_taken new.reader.place (ap (λ (r : ReaderView). r.place) end_is), omega arith, ap (λ (r : ReaderView). r.ended) end_is ∙ le-leb key.writers old.reader.finished_seen all)

  pub not_yet_answer : old.reader.finished_seen < key.writers → (p : ℕ) → p ≡ old.reader.place → IsAnswer old (NotYet p) new
  not_yet_answer some_left p p_is = let finished_seen : new.reader.finished_seen ≡ old.reader.finished_seen = ap (λ (r : ReaderView). r.finished_seen) end_is in (nothing_taken p p_is, omega arith)

-- the cursor went on at the next lap
pub lap_moved : (key : RingKey) (x at seg : ℕ) (old new : ReaderState) → Checks FindsLap key x old.reader new.reader → at ≡ old.reader.place / key.seg → x < at + 6 → key.seg ≡ seg → old.reader.lost ≡ None
    → (new.reader.lost ≡ None) × (new.reader.items ≡ old.reader.items) × (new.reader.place ≡ (old.reader.place / (8 * seg) + 1) * (8 * seg))
lap_moved key x at seg old new told is near same free =
    let t = near_told FindsLap key x at old new told is near in (
      ap (λ (r : ReaderView). r.lost) t.0 ∙ free,
      ap (λ (r : ReaderView). r.items) t.0,
      ap (λ (r : ReaderView). r.place) t.0 ∙ ap (λ (z : ℕ). (old.reader.place / (8 * z) + 1) * (8 * z)) same,
    )

-- the words of a unit in a buffer
pub front_words : (buffer items : List ℕ) (len count : ℕ) → length buffer ≡ len → 4 * count ≤ len → words_in (take (4 * count) (take len (buffer ++ drop (length buffer) items))) ≡ take count (words_in buffer)
front_words buffer items len count same room = ap (λ (z : List ℕ). words_in (take (4 * count) z)) (take_at buffer (drop (length buffer) items) len same) ∙ words_in-take count buffer

-- the cursor took the unit that it copied
pub took_answer : (key : RingKey) (x at : ℕ) (mid : ReaderView) (old new : ReaderState) → Checks (FindsUnit unit_words) key x mid new.reader → at ≡ mid.place / key.seg → x < at + 6 → old.ring.seg ≡ key.seg → mid.items ≡ old.reader.items → mid.lost ≡ None → new.words ≡ unchecked_words mid.unchecked → new.taken ≡ mid.number
    → IsAnswer old Took new
took_answer key x at mid old new told is near seg items free words_are number =
    let before : ReaderState = record { ring = old.ring; reader = mid; words = old.words; taken = old.taken } in
    let t = near_told (FindsUnit unit_words) key x at before new told is near in
    let loaded : new.reader.loaded ≡ x = ap (λ (r : ReaderView). r.loaded) t.5 in
    let same : mid.place / key.seg ≡ mid.place / old.ring.seg = ap (λ (z : ℕ). mid.place / z) (sym seg) in record {
      reads_on = subst (λ (l : List (HistoryItem LogUnit)). HasRun l) items t.3;
      unit = t.0;
      spells = record { unit = t.1; spelled = words_are ∙ t.2 };
      items = ap (λ (r : ReaderView). r.items) t.5 ∙ ap (with_unit t.0) items;
      number = number ∙ (t.4 ∙ ap next_number items);
      not_lost = ap (λ (r : ReaderView). r.lost) t.5 ∙ free;
      start = mid.place;
      behind = ap (λ (r : ReaderView). r.place) t.5;
      near = omega arith;
    }

-- the next number is one more with a unit more
unit_number : (u : LogUnit) (items : List (HistoryItem LogUnit)) → HasRun items → next_number (with_unit u items) ≡ next_number items + 1
unit_number u [] h = absurd h
unit_number u (UnitRun r ∷ is) h = omega (arith, length-append r.units (u ∷ []))
unit_number u (Overrun a b ∷ is) h = absurd h

-- so the cursor's place and number are those of its reader, once it took a unit of so many words, and are none above the last tail
pub took_kept : (key : RingKey) (x at place n count : ℕ) (buffer : List ℕ) (mid after : ReaderView) → Checks (FindsUnit unit_words) key x mid after → at ≡ mid.place / key.seg → x < at + 6 → place ≡ mid.place → n ≡ mid.number → unchecked_words mid.unchecked ≡ take count buffer → count ≤ length buffer
    → (place + count ≡ after.place) × (place + count ≤ last_tail) × (n + 1 ≡ after.number) × (n + 1 ≤ last_tail) × (n + 1 ≡ next_number after.items)
took_kept key x at place n count buffer mid after told is near place_is number copied room = ⊎_elim
    (λ (t : (mid.place / key.seg + 6 ≤ x) × (after ≡ overrun_at (mid.place / key.seg) x mid)). let far = t.0 in absurd (omega arith))
    (λ (t : (x < mid.place / key.seg + 6) × FindsUnit unit_words key x mid after).
    let found = t.1 in
    let size : length (unit_words found.0) ≡ count = ap (λ (l : List ℕ). length l) (sym found.2 ∙ copied) ∙ length-take-le count buffer room in
    let due = found.4 in
    let more = unit_number found.0 mid.items found.3 in
    let behind : after.place ≡ mid.place + length (unit_words found.0) = ap (λ (r : ReaderView). r.place) found.5 in
    let next : after.number ≡ mid.number + 1 = ap (λ (r : ReaderView). r.number) found.5 in
    let low = found.6 in
    let few = found.7 in
    let at_next : n + 1 ≡ next_number (with_unit found.0 mid.items) = omega arith in
    (omega arith, omega arith, omega arith, omega arith, at_next ∙ ap next_number (sym (ap (λ (r : ReaderView). r.items) found.5)))) told

-- the cursor stands behind the unit that it took
pub took_place : (key : RingKey) (x at p : ℕ) (mid : ReaderView) (old new : ReaderState) → Checks (FindsUnit unit_words) key x mid new.reader → at ≡ mid.place / key.seg → x < at + 6 → mid.place ≡ p → new.words ≡ unchecked_words mid.unchecked
    → new.reader.place ≡ p + length new.words
took_place key x at p mid old new told is near place words_are =
    let t = near_told (FindsUnit unit_words) key x at (record { ring = old.ring; reader = mid; words = old.words; taken = old.taken }) new told is near in
    let long : length new.words ≡ length (unit_words t.0) = ap (λ (l : List ℕ). length l) (words_are ∙ t.2) in
    let end : new.reader.place ≡ mid.place + length (unit_words t.0) = ap (λ (r : ReaderView). r.place) t.5 in omega arith

nothing_as : (old mid new : ReaderState) (p : ℕ) → TookNothing p mid new → mid.reader.items ≡ old.reader.items → mid.ring ≡ old.ring → TookNothing p old new
nothing_as old mid new p a items ring = record { place_is = a.place_is; items = a.items ∙ items; not_lost = a.not_lost; near = subst (λ (r : RingSet). new.reader.loaded < p / r.seg + 6) ring a.near }

-- an answer is one of the reader before, which took the same
pub answer_as : (old mid new : ReaderState) (step : Step) → IsAnswer mid step new → mid.reader.items ≡ old.reader.items → mid.ring ≡ old.ring → IsAnswer old step new
answer_as old mid new Took a items ring = record {
  reads_on = subst (λ (l : List (HistoryItem LogUnit)). HasRun l) items a.reads_on;
  unit = a.unit;
  spells = a.spells;
  items = a.items ∙ ap (with_unit a.unit) items;
  number = a.number ∙ ap next_number items;
  not_lost = a.not_lost;
  start = a.start;
  behind = a.behind;
  near = subst (λ (r : RingSet). new.reader.loaded < a.start / r.seg + 6) ring a.near;
}
answer_as old mid new (NotYet p) a items ring = (nothing_as old mid new p a.0 items ring, subst (λ (r : RingSet). new.reader.finished_seen < r.writers) ring a.1)
answer_as old mid new Ended a items ring = (nothing_as old mid new new.reader.place a.0 items ring, subst (λ (r : RingSet). r.writers ≤ new.reader.finished_seen) ring a.1, a.2)
answer_as old mid new (Lost at seen) a items ring = record { far = a.far; loaded = a.loaded; lost = a.lost; items = a.items ∙ ap (λ l. Overrun at seen ∷ l) items }

-- a cursor goes on at the next lap once
pub one_lap : (old mid new : ReaderState) → mid.ring ≡ old.ring → HasMoved old mid → HasMoved mid new → 0 < old.ring.seg → ⊥
one_lap old mid new same first second pos =
    let zero_mod : (n : ℕ) → 0 < n → (k : ℕ) → k * n % n ≡ 0 = λ n p k. ap (λ (z : ℕ). z % n) (omega arith) ∙ mod-mul-add k n 0 p in
    let lap : mid.reader.place % (8 * old.ring.seg) ≡ 0 = ap (λ (z : ℕ). z % (8 * old.ring.seg)) first.lap ∙ zero_mod (8 * old.ring.seg) (omega arith) (old.reader.place / (8 * old.ring.seg) + 1) in
    let at : mid.reader.place % (8 * mid.ring.seg) ≡ 0 = ap (λ (r : RingSet). mid.reader.place % (8 * r.seg)) same ∙ lap in
    let wraps = second.wraps in
    let seg : mid.ring.seg ≡ old.ring.seg = ap (λ (r : RingSet). r.seg) same in omega arith

-- what was loaded by a check
checked_so : (T : RingKey → ℕ → ReaderView → ReaderView → Type 0) (key : RingKey) (x : ℕ) (mid : ReaderView) (old new : ReaderState) → Checks T key x mid new.reader → mid.observed ≡ old.reader.observed → mid.finished_seen ≡ old.reader.finished_seen
    → (T key x mid new.reader → (new.reader.observed ≡ CounterSeen x ∷ mid.observed) × (new.reader.loaded ≡ x) × (new.reader.finished_seen ≡ mid.finished_seen)) → HasChecked old new
checked_so T key x mid old new told observed finished_seen so =
    let done : (new.reader.observed ≡ CounterSeen x ∷ mid.observed) × (new.reader.loaded ≡ x) × (new.reader.finished_seen ≡ mid.finished_seen) → HasChecked old new = λ h. (h.0 ∙ (λ i. CounterSeen (sym h.1 i) ∷ observed i), h.2 ∙ finished_seen) in
    ⊎_elim
    (λ (t : (mid.place / key.seg + 6 ≤ x) × (new.reader ≡ overrun_at (mid.place / key.seg) x mid)). done (ap (λ (r : ReaderView). r.observed) t.1, ap (λ (r : ReaderView). r.loaded) t.1, ap (λ (r : ReaderView). r.finished_seen) t.1))
    (λ (t : (x < mid.place / key.seg + 6) × T key x mid new.reader). done (so t.1)) told

module _ (key : RingKey) (x : ℕ) (old new : ReaderState) where
  pub end_checked : Checks FindsEnd key x old.reader new.reader → HasChecked old new
  end_checked told = checked_so FindsEnd key x old.reader old new told refl refl (λ e. (ap (λ (r : ReaderView). r.observed) e, ap (λ (r : ReaderView). r.loaded) e, ap (λ (r : ReaderView). r.finished_seen) e))

  pub lap_checked : Checks FindsLap key x old.reader new.reader → HasChecked old new
  lap_checked told = checked_so FindsLap key x old.reader old new told refl refl (λ e. (ap (λ (r : ReaderView). r.observed) e.0, ap (λ (r : ReaderView). r.loaded) e.0, ap (λ (r : ReaderView). r.finished_seen) e.0))

  pub nothing_checked : Checks FindsNothing key x old.reader new.reader → HasChecked old new
  nothing_checked told = checked_so FindsNothing key x old.reader old new told refl refl (λ e. absurd e)

  pub unit_checked : (mid : ReaderView) → Checks (FindsUnit unit_words) key x mid new.reader → mid.observed ≡ old.reader.observed → mid.finished_seen ≡ old.reader.finished_seen → HasChecked old new
  unit_checked mid told observed finished_seen = checked_so (FindsUnit unit_words) key x mid old new told observed finished_seen (λ e. (ap (λ (r : ReaderView). r.observed) e.5, ap (λ (r : ReaderView). r.loaded) e.5, ap (λ (r : ReaderView). r.finished_seen) e.5))

-- a cursor that was overrun loads the counter once
pub lost_observed : (old new : ReaderState) (at seen : ℕ) → new.reader ≡ overrun_at at seen old.reader → HasFound old (Lost at seen) new
lost_observed old new at seen is = record { before = []; observed = ap (λ (r : ReaderView). r.observed) is }

same_some : {x y : ℕ} → Some x ≡ Some y → x ≡ y
same_some e = cc e

-- and stays overrun there
pub lost_stays : (old new : ReaderState) (at seen : ℕ) → old.reader.lost ≡ Some at → new.reader ≡ overrun_at at seen old.reader → StaysLost old (Lost at seen) new
lost_stays old new at seen lost is =
    let loaded : seen ≡ new.reader.loaded = sym (ap (λ (r : ReaderView). r.loaded) is) in record {
      again = λ a e. let same : at ≡ a = same_some (sym lost ∙ e) in (λ i. Lost (same i) (loaded i));
      observed = λ a e. ap (λ (r : ReaderView). r.observed) is ∙ ap (λ (z : ℕ). CounterSeen z ∷ old.reader.observed) loaded;
    }

-- a cursor that wasn't overrun needn't stay so
pub free_stays : (old new : ReaderState) (step : Step) → old.reader.lost ≡ None → StaysLost old step new
free_stays old new step free = record { again = λ a e. cc (sym free ∙ e); observed = λ a e. cc (sym free ∙ e) }

-- a word that is the end mark is what was found
pub found_as : (p x : ℕ) (new : ReaderState) (step : Option Step) → x ≡ end_mark → FoundWord p end_mark new step → FoundWord p x new step
found_as p x new (Some (NotYet q)) is f = (f.0, is)
found_as p x new (Some Ended) is f = (f.0, is)
found_as p x new (Some Took) is f = f
found_as p x new (Some (Lost at seen)) is f = tt
found_as p x new None is f = tt

-- a check after a load of the number of writers that left and of the word at the place
pub tried_as : (old mid new : ReaderState) (n x : ℕ) (step : Option Step) → HasChecked mid new → FoundWord old.reader.place x new step → mid.reader.observed ≡ WordSeen old.reader.place x ∷ FinishedSeen n ∷ old.reader.observed → mid.reader.finished_seen ≡ n
    → HasTried step old new
tried_as old mid new n x step checked word found finished_seen =
    (x, checked.0 ∙ ap (λ l. CounterSeen new.reader.loaded ∷ l) (found ∙ ap (λ (z : ℕ). WordSeen old.reader.place x ∷ FinishedSeen z ∷ old.reader.observed) (sym finished_seen ∙ sym checked.1)), word)

found_so : (old new : ReaderState) (step : Step) (more : List Observation) (a : ReaderState) (p x : ℕ) → IsReadAt old p → IsAnswer a step new → FoundWord p x new (Some step)
    → new.reader.observed ≡ CounterSeen new.reader.loaded ∷ WordSeen p x ∷ FinishedSeen new.reader.finished_seen ∷ (more ++ old.reader.observed) → HasFound old step new
found_so old new Took more a p x here told word is = (p, (x, record { here = here; before = more; observed = is }, word))
found_so old new (NotYet q) more a p x here told word is = record {
  here = subst (IsReadAt old) (sym word.0) here;
  before = more;
  observed = is ∙ (λ i. CounterSeen new.reader.loaded ∷ WordSeen (sym word.0 i) (word.1 i) ∷ FinishedSeen new.reader.finished_seen ∷ (more ++ old.reader.observed));
}
found_so old new Ended more a p x here told word is = record {
  here = subst (IsReadAt old) (sym word.0) here;
  before = more;
  observed = is ∙ (λ i. CounterSeen new.reader.loaded ∷ WordSeen (sym word.0 i) (word.1 i) ∷ FinishedSeen new.reader.finished_seen ∷ (more ++ old.reader.observed));
}
found_so old new (Lost at seen) more a p x here told word is = record {
  before = WordSeen p x ∷ FinishedSeen new.reader.finished_seen ∷ more;
  observed = is ∙ ap (λ (z : ℕ). CounterSeen z ∷ WordSeen p x ∷ FinishedSeen new.reader.finished_seen ∷ (more ++ old.reader.observed)) told.loaded;
}

-- an answer at the first try, and at the second
pub found_once : (old new : ReaderState) (step : Step) → IsAnswer old step new → HasTried (Some step) old new → HasFound old step new
found_once old new step told t = found_so old new step [] old old.reader.place t.0 (inl refl) told t.2 t.1

pub found_twice : (old mid new : ReaderState) (step : Step) → IsAnswer mid step new → HasMoved old mid → HasTried None old mid → HasTried (Some step) mid new → HasFound old step new
found_twice old mid new step told moved first t =
    found_so old new step (CounterSeen mid.reader.loaded ∷ WordSeen old.reader.place first.0 ∷ FinishedSeen mid.reader.finished_seen ∷ []) mid mid.reader.place t.0 (inr moved.lap) told t.2
    (t.1 ∙ ap (λ l. CounterSeen new.reader.loaded ∷ WordSeen mid.reader.place t.0 ∷ FinishedSeen new.reader.finished_seen ∷ l) first.1)
