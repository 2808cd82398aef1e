-- What readers took of one log: what two took at one number is the same unit, and what one took and missed adds up.
use Rattle.std.proofs.Common.{◌≡◌, ℕ, ◌+◌, ◌/◌, ◌<◌, ◌≤◌, List, [], ◌∷◌, length, take, drop, get_or, slice_get, map, sym, ap, ◌∙◌, subst, ⊎_elim, arith, Some}
use Rattle.std.specs.List.{AllByRecursion}
use Rattle.std.proofs.lemmas.List.{get_or-take, get_or-drop, reverse-reverse}
use Rattle.std.proofs.lemmas.Option.{slice_get_within, get_or_from_slice_get, slice_get-get_or}
use Rattle.vsl_record.specs.Unit.{LogUnit, Log}
use Rattle.vsl_record.specs.Words.{unit_words}
use Rattle.ring_layout.specs.declared.history.Run.{Run}
use Rattle.ring_layout.specs.declared.history.HistoryItem.{HistoryItem}
use Rattle.ring_layout.specs.declared.history.HistoryItem.TheVariants.{UnitRun, Overrun}
use Rattle.ring_layout.specs.Places.{tail}
use Rattle.ring_layout.specs.History.{IsReadBack, AddUp}
use Rattle.ring_layout.proofs.CopiesLemmas.{some_is}
use Rattle.ring_layout.proofs.NumberLemmas.{adds_up}
use Rattle.log_ring.specs.Readers.{ReaderState, history_taken}
use Rattle.log_ring.specs.Closed.{IsDoneWith, HasTaken, AgreesWith}

run_has : (log : Log) (r : Run LogUnit) (i : ℕ) (u : LogUnit) → r.units ≡ take (length r.units) (drop r.first log) → r.first + length r.units ≤ length log → slice_get r.units i ≡ Some u → slice_get log (r.first + i) ≡ Some u
run_has log r i u is inside got =
    let below = slice_get_within r.units i u got in
    let here : get_or r.units i u ≡ u = get_or_from_slice_get r.units i u u got in
    let there : get_or r.units i u ≡ get_or log (r.first + i) u = ap (λ (l : Log). get_or l i u) is ∙ (get_or-take (length r.units) (drop r.first log) i u below ∙ get_or-drop r.first log i u) in
    slice_get-get_or log (r.first + i) u (omega arith) ∙ ap Some (sym there ∙ here)

-- what a reader took at a number is the unit of the log that has it
log_has : (seg most : ℕ) (log : Log) (items : List (HistoryItem LogUnit)) (k : ℕ) (u : LogUnit) → IsReadBack unit_words seg most log items → HasTaken k u items → slice_get log k ≡ Some u
log_has seg most log [] k u h t = absurd t
log_has seg most log (UnitRun r ∷ is) k u h t = ⊎_elim
    (λ (p : (i : ℕ) × (k ≡ r.first + i) × (slice_get r.units i ≡ Some u)). subst (λ (n : ℕ). slice_get log n ≡ Some u) (sym p.1) (run_has log r p.0 u h.0.units h.0.inside p.2))
    (λ (p : HasTaken k u is). log_has seg most log is k u h.2 p) t
log_has seg most log (Overrun a b ∷ is) k u h t = log_has seg most log is k u h.4 t

done_has : (seg : ℕ) (log : Log) (r : ReaderState) (k : ℕ) (u : LogUnit) → IsDoneWith seg log r → HasTaken k u r.reader.items → slice_get log k ≡ Some u
done_has seg log r k u d t = log_has seg (tail unit_words seg log / seg) log r.reader.items k u (subst (IsReadBack unit_words seg (tail unit_words seg log / seg) log) (reverse-reverse r.reader.items) d.history.1) t

module _ (seg : ℕ) (log : Log) where
  agree_one : (r : ReaderState) (qs : List ReaderState) → IsDoneWith seg log r → AllByRecursion (IsDoneWith seg log) qs → AllByRecursion (AgreesWith r) qs
  agree_one r [] d all = tt
  agree_one r (q ∷ qs) d all = (λ k u v a b. some_is (sym (done_has seg log r k u d a) ∙ done_has seg log q k v all.0 b), agree_one r qs d all.1)

  pub all_agree : (rs qs : List ReaderState) → AllByRecursion (IsDoneWith seg log) rs → AllByRecursion (IsDoneWith seg log) qs → AllByRecursion (λ (r : ReaderState). AllByRecursion (AgreesWith r) qs) rs
  all_agree [] qs done all = tt
  all_agree (r ∷ rs) qs done all = (agree_one r qs done.0 all, all_agree rs qs done.1 all)

  pub all_add_up : 0 < seg → (rs : List ReaderState) → AllByRecursion (IsDoneWith seg log) rs → AllByRecursion (AddUp log) (map history_taken rs)
  all_add_up pos [] done = tt
  all_add_up pos (r ∷ rs) done = (adds_up unit_words seg pos log (history_taken r) done.0.history, all_add_up pos rs done.1)
