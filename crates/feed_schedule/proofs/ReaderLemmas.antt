-- Where the reader stands, and that each kind of turn keeps it.
use Rattle.std.proofs.Common.{◌≡◌, ℕ, zero, suc, ◌+◌, ◌-◌, ◌*◌, ◌/◌, ◌%◌, ◌<◌, ◌≤◌, Bool, cond, List, [], ◌∷◌, ◌++◌, length, take, slice_get, sym, refl, ap, ◌∙◌, subst, ⊎_elim, inl, inr, arith, Option, Some, None, lt-ltb, eq-eqb, length-append, take_all, le_refl, mul-le-mul_right, div-add-mod', mod-lt}
use Rattle.std.proofs.lemmas.List.{take-append-le}
use Rattle.std.proofs.lemmas.Nat.{div_below}
use Rattle.std.proofs.lemmas.Option.{same_Some, slice_get_within, none-some}
use mathlib.Core.Logic.{dite}
use native.Mathlib.Decide.{dec_lt}
use Rattle.std.specs.Option.{option_or, unwrap_or}
use Rattle.vsl_record.specs.Unit.{LogUnit, Log}
use Rattle.vsl_record.specs.Words.{unit_words}
use Rattle.ring_layout.specs.declared.history.HistoryItem.{HistoryItem}
use Rattle.ring_layout.specs.declared.history.HistoryItem.TheVariants.{UnitRun, Overrun}
use Rattle.ring_layout.specs.Places.{start_at, end_at, if_some, first_in, tail_from, tail, segment_start, AreFit}
use Rattle.ring_layout.specs.History.{last_seen, next_number, with_unit, starts_below, first_number, UnitStarts, MayFollow, IsReadBack}
use Rattle.ring_layout.specs.Copied.{IsDueAt}
use Rattle.ring_layout.proofs.PushLemmas.{start_push, tail_push}
use Rattle.ring_layout.proofs.EntriesLemmas.{at_stay, at_wrap, wrap_last, start_there}
use Rattle.ring_layout.proofs.TakenLemmas.{start_above, starts_stays, back_stays}
use Rattle.ring_layout.proofs.AgreedLemmas.{div_up, tail_above}
use Rattle.ring_layout.proofs.ReadingLemmas.{start_leads}
use Rattle.ring_layout.proofs.ItemsLemmas.{run_more, run_begins}
use Rattle.ring_layout.proofs.NumberLemmas.{number_behind}

-- the newest item is a run that ends before this unit; where it has none yet, the place is its segment's start
abbrev pub EndsBefore : ℕ → Log → ℕ → ℕ → List (HistoryItem LogUnit) → Type 0
EndsBefore seg log number place [] = ⊥
EndsBefore seg log number place (UnitRun r ∷ items) = (number ≡ r.first + length r.units) × (length r.units ≡ 0 → segment_start unit_words seg log r.segment ≡ Some place)
EndsBefore seg log number place (Overrun at seen ∷ items) = ⊥

-- the number behind it is that unit's
next_is : (seg : ℕ) (log : Log) (number place : ℕ) (history : List (HistoryItem LogUnit)) → EndsBefore seg log number place history → next_number history ≡ number
next_is seg log number place [] h = absurd h
next_is seg log number place (UnitRun r ∷ items) h = sym h.0
next_is seg log number place (Overrun at seen ∷ items) h = absurd h

-- where a reader stands: this unit is due at this place, and the items, the newest first, may have been taken, the newest a run that ends before it
pub record StandsAt (seg : ℕ) (log : Log) (number place : ℕ) (history : List (HistoryItem LogUnit)) : Type 0 where
  pub due : IsDueAt unit_words seg log number place
  pub back : IsReadBack unit_words seg (tail unit_words seg log / seg) log history
  pub newest : EndsBefore seg log number place history

-- no overrun saw a higher counter than the highest
last_seen_most : (seg most : ℕ) (log : Log) (items : List (HistoryItem LogUnit)) → IsReadBack unit_words seg most log items → last_seen items ≤ most
last_seen_most seg most log [] h = omega arith
last_seen_most seg most log (UnitRun r ∷ items) h = last_seen_most seg most log items h.2
last_seen_most seg most log (Overrun at seen ∷ items) h = h.1

-- the k-th unit of a log
there : (log : Log) (k : ℕ) → k < length log → (u : LogUnit) × (slice_get log k ≡ Some u)
there [] k l = absurd (omega arith)
there (u ∷ log) zero l = (u, refl)
there (u ∷ log) (suc k) l = there log k (omega arith)

-- where a log has no k-th unit it has at most k
pub none_there : (log : Log) (k : ℕ) → slice_get log k ≡ None → length log ≤ k
none_there log k e = dite (dec_lt k (length log)) (λ l. let u = there log k l in absurd (none-some u.0 (sym e ∙ u.1))) (λ n. omega arith)

module _ (seg : ℕ) (pos : 0 < seg) where
  -- a put lowers no segment of the tail
  tail_up : (log : Log) (u : LogUnit) → tail unit_words seg log / seg ≤ tail unit_words seg (log ++ u ∷ []) / seg
  tail_up log u = let a = start_above seg (tail unit_words seg log) (length (unit_words u)) pos in let b = tail_push unit_words seg log u in div_up seg (tail unit_words seg log) (tail unit_words seg (log ++ u ∷ [])) pos (omega arith)

  -- a put leaves where the newest run ends
  ends_before_stays : (log : Log) (u : LogUnit) (number place : ℕ) (history : List (HistoryItem LogUnit)) → EndsBefore seg log number place history → EndsBefore seg (log ++ u ∷ []) number place history
  ends_before_stays log u number place [] h = h
  ends_before_stays log u number place (UnitRun r ∷ items) h = (h.0, λ e. start_push unit_words seg log u r.segment ∙ ap (λ x. option_or x (first_in seg r.segment (start_at seg (tail unit_words seg log) (length (unit_words u)) ∷ end_at seg (tail unit_words seg log) (length (unit_words u)) ∷ []))) (h.1 e))
  ends_before_stays log u number place (Overrun at seen ∷ items) h = h

  -- a unit that is put leaves where a reader stands
  pub stands_stays : (log : Log) (u : LogUnit) (number place : ℕ) (history : List (HistoryItem LogUnit)) → StandsAt seg log number place history → StandsAt seg (log ++ u ∷ []) number place history
  stands_stays log u number place history h = record {
    due = (
      (let l = length-append log (u ∷ []) in let d = h.due.0 in omega arith),
      ⊎_elim (λ (t : place ≡ tail unit_words seg (take number log)). inl (t ∙ sym (ap (tail unit_words seg) (take-append-le number log (u ∷ []) h.due.0))))
          (λ (t : UnitStarts unit_words seg log number place). inr (starts_stays unit_words seg pos log u number place t)) h.due.1,
    );
    back = back_stays unit_words seg pos (tail unit_words seg log / seg) (tail unit_words seg (log ++ u ∷ []) / seg) log u (tail_up log u) history h.back;
    newest = ends_before_stays log u number place history h.newest;
  }

  -- at first
  pub stands_first : StandsAt seg [] 0 0 (UnitRun (record { segment = 0; first = 0; missed = 0; units = [] }) ∷ [])
  stands_first = let below : 0 / seg < 1 = div_below 0 seg 1 pos (omega arith) in record {
    due = (omega arith, inl refl);
    back = (record { units = refl; inside = omega arith; segment = omega arith }, (refl, refl, refl), tt);
    newest = (omega arith, λ e. ap (λ (b : Bool). option_or (if_some b 0) None) (eq-eqb (0 / seg) 0 (omega arith)));
  }

  -- a unit is taken
  pub stands_taken : (log : Log) (u : LogUnit) (number place : ℕ) (history : List (HistoryItem LogUnit)) → slice_get log number ≡ Some u → StandsAt seg log number place history
      → StandsAt seg log (number + 1) (tail unit_words seg (take (number + 1) log)) (with_unit u history)
  stands_taken log u number place history e h = record {
    due = (let i = slice_get_within log number u e in omega arith, inl refl);
    back = back_taken history h.newest h.back;
    newest = newest_taken history h.newest;
  }
    where
      back_taken : (items : List (HistoryItem LogUnit)) → EndsBefore seg log number place items → IsReadBack unit_words seg (tail unit_words seg log / seg) log items → IsReadBack unit_words seg (tail unit_words seg log / seg) log (with_unit u items)
      back_taken [] n b = b
      back_taken (UnitRun r ∷ items) n b = run_more unit_words seg (tail unit_words seg log / seg) log r items u (ap (slice_get log) (sym n.0) ∙ e) b
      back_taken (Overrun at seen ∷ items) n b = b

      newest_taken : (items : List (HistoryItem LogUnit)) → EndsBefore seg log number place items → EndsBefore seg log (number + 1) (tail unit_words seg (take (number + 1) log)) (with_unit u items)
      newest_taken [] n = n
      newest_taken (UnitRun r ∷ items) n = let l = length-append r.units (u ∷ []) in let m = n.0 in (omega arith, λ none. absurd (omega arith))
      newest_taken (Overrun at seen ∷ items) n = n

  -- an overrun may follow where a reader stands
  may_overrun : (log : Log) (number place : ℕ) (history : List (HistoryItem LogUnit)) → IsDueAt unit_words seg log number place → EndsBefore seg log number place history → MayFollow unit_words seg log (place / seg) history
  may_overrun log number place [] due newest = newest
  may_overrun log number place (UnitRun r ∷ items) due newest = (
    place,
    refl,
    ⊎_elim (λ (t : place ≡ tail unit_words seg (take number log)). inl (newest.1, λ some. t ∙ ap (λ (k : ℕ). tail unit_words seg (take k log)) newest.0))
        (λ (t : UnitStarts unit_words seg log number place). inr (subst (λ (k : ℕ). UnitStarts unit_words seg log k place) newest.0 t)) due.1,
  )
  may_overrun log number place (Overrun at seen ∷ items) due newest = absurd newest

  -- an overrun is met, and the reader goes on
  pub stands_overrun : (log : Log) (number place : ℕ) (history : List (HistoryItem LogUnit)) → AreFit unit_words seg log → place / seg + 6 ≤ tail unit_words seg log / seg → StandsAt seg log number place history
      → StandsAt seg log (first_number unit_words seg log (tail unit_words seg log / seg - 4)) (unwrap_or (segment_start unit_words seg log (tail unit_words seg log / seg - 4)) 0)
      (UnitRun (record { segment = tail unit_words seg log / seg - 4; first = first_number unit_words seg log (tail unit_words seg log / seg - 4); missed = first_number unit_words seg log (tail unit_words seg log / seg - 4) - number; units = [] }) ∷ Overrun (place / seg) (tail unit_words seg log / seg) ∷ history)
  stands_overrun log number place history fit far h = let last : ℕ = tail unit_words seg log / seg in let first : ℕ = first_number unit_words seg log (last - 4) in
      let start = start_there unit_words seg log (last - 4) pos fit (omega arith) in
      let met : IsReadBack unit_words seg last log (Overrun (place / seg) last ∷ history) = (far, le_refl last, last_seen_most seg last log history h.back, may_overrun log number place history h.due h.newest, h.back) in
      let behind = number_behind unit_words seg pos last log (place / seg) last (last - 4) history fit met (omega arith) in
      let ends = next_is seg log number place history h.newest in
      let begun = run_begins unit_words seg last log (place / seg) last (last - 4) (first - number) history (omega arith) (omega arith) (omega arith) (omega arith) met in record {
        due = subst (λ (p : ℕ). IsDueAt unit_words seg log first p) (sym (ap (λ (o : Option ℕ). unwrap_or o 0) start.1)) (let i = begun.0.inside in omega arith, start_leads unit_words seg pos log (last - 4) start.0 fit start.1);
        back = begun;
        newest = (omega arith, λ none. start.1 ∙ ap (λ (o : Option ℕ). Some (unwrap_or o 0)) (sym start.1));
      }

  -- where the k-th unit starts below a place, more than k units do
  started_below : (t : ℕ) (us : Log) (k : ℕ) (u : LogUnit) (p : ℕ) → slice_get us k ≡ Some u → start_at seg (tail_from unit_words seg t (take k us)) (length (unit_words u)) < p → k < starts_below unit_words seg t us p
  started_below t [] k u p e l = cc e
  started_below t (x ∷ xs) zero u p e l = let n : ℕ = end_at seg t (length (unit_words x)) in
      let below : start_at seg t (length (unit_words x)) < p = subst (λ (y : LogUnit). start_at seg t (length (unit_words y)) < p) (sym (same_Some x u e)) l in
      subst (λ (b : Bool). 0 < cond b 1 0 + starts_below unit_words seg n xs p) (sym (lt-ltb (start_at seg t (length (unit_words x))) p below)) (omega arith)
  started_below t (x ∷ xs) (suc k) u p e l = let n : ℕ = end_at seg t (length (unit_words x)) in let up = tail_above unit_words seg pos n (take k xs) in
      let above = start_above seg (tail_from unit_words seg n (take k xs)) (length (unit_words u)) pos in let r = started_below n xs k u p e l in
      subst (λ (b : Bool). suc k < cond b 1 0 + starts_below unit_words seg n xs p) (sym (lt-ltb (start_at seg t (length (unit_words x))) p (omega arith))) (omega arith)

  -- a unit starts at most a segment after the tail before it
  start_next : (t w : ℕ) → w ≤ seg → start_at seg t w / seg ≤ t / seg + 1
  start_next t w fits = dite (dec_lt (t % (8 * seg) + w) (8 * seg))
      (λ l. subst (λ (z : ℕ). z / seg ≤ t / seg + 1) (sym (at_stay seg t w l)) (omega arith))
      (λ n. let wraps : 8 * seg ≤ t % (8 * seg) + w = omega arith in let b = wrap_last seg t w pos fits wraps in let b0 = b.0 in let b1 = b.1 in
      subst (λ (z : ℕ). z / seg ≤ t / seg + 1) (sym (at_wrap seg t w wraps)) (omega arith))

  -- each unit of a fit log fits a segment
  fits_at : (log : Log) (k : ℕ) (u : LogUnit) → AreFit unit_words seg log → slice_get log k ≡ Some u → length (unit_words u) ≤ seg
  fits_at [] k u fit e = cc e
  fits_at (x ∷ log) zero u fit e = subst (λ (y : LogUnit). length (unit_words y) ≤ seg) (same_Some x u e) fit.0.1
  fits_at (x ∷ log) (suc k) u fit e = fits_at log k u fit.1 e

  -- the unit that is due starts at most a segment after the reader's place
  due_starts : (log : Log) (number place : ℕ) (u : LogUnit) → AreFit unit_words seg log → slice_get log number ≡ Some u → IsDueAt unit_words seg log number place → start_at seg (tail unit_words seg (take number log)) (length (unit_words u)) / seg ≤ place / seg + 1
  due_starts log number place u fit e due = ⊎_elim
      (λ (t : place ≡ tail unit_words seg (take number log)). subst (λ (z : ℕ). start_at seg (tail unit_words seg (take number log)) (length (unit_words u)) / seg ≤ z / seg + 1) (sym t) (start_next (tail unit_words seg (take number log)) (length (unit_words u)) (fits_at log number u fit e)))
      (λ (t : UnitStarts unit_words seg log number place). let same : t.0 ≡ u = same_Some t.0 u (sym t.1 ∙ e) in
      let at : place ≡ start_at seg (tail unit_words seg (take number log)) (length (unit_words u)) = t.2 ∙ ap (λ (y : LogUnit). start_at seg (tail unit_words seg (take number log)) (length (unit_words y))) same in
      subst (λ (z : ℕ). start_at seg (tail unit_words seg (take number log)) (length (unit_words u)) / seg ≤ z / seg + 1) (sym at) (omega arith)) due.1

  -- a reader that took all stands at the tail
  due_last : (log : Log) (number place : ℕ) → length log ≤ number → IsDueAt unit_words seg log number place → place ≡ tail unit_words seg log
  due_last log number place l due = ⊎_elim (λ (t : place ≡ tail unit_words seg (take number log)). t ∙ ap (tail unit_words seg) (take_all number log l))
      (λ (t : UnitStarts unit_words seg log number place). let i = slice_get_within log number t.0 t.1 in absurd (omega arith)) due.1

  -- a reader that is overrun goes on with a later unit
  pub overrun_rises : (log : Log) (number place : ℕ) → AreFit unit_words seg log → IsDueAt unit_words seg log number place → place / seg + 6 ≤ tail unit_words seg log / seg → number < first_number unit_words seg log (tail unit_words seg log / seg - 4)
  overrun_rises log number place fit due far = dite (dec_lt number (length log))
      (λ l. let u = there log number l in go u.0 u.1)
      (λ n. let at : place ≡ tail unit_words seg log = due_last log number place (omega arith) due in let same : place / seg ≡ tail unit_words seg log / seg = ap (λ (z : ℕ). z / seg) at in absurd (omega arith))
    where
      go : (u : LogUnit) → slice_get log number ≡ Some u → number < first_number unit_words seg log (tail unit_words seg log / seg - 4)
      go u e = let start : ℕ = start_at seg (tail unit_words seg (take number log)) (length (unit_words u)) in let near = due_starts log number place u fit e due in
          let p = div-add-mod' start seg in let r : start % seg < seg = mod-lt start pos in
          let m : (start / seg + 1) * seg ≤ (tail unit_words seg log / seg - 4) * seg = mul-le-mul_right seg (let up : start / seg + 1 ≤ tail unit_words seg log / seg - 4 = omega arith in up) in
          started_below 0 log number u ((tail unit_words seg log / seg - 4) * seg) e (omega arith)
