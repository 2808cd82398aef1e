-- One item more.
use Rattle.std.proofs.Common.{◌≡◌, ℕ, zero, suc, ◌+◌, ◌*◌, ◌/◌, ◌≤◌, Bool, cond, List, [], ◌∷◌, ◌++◌, length, take, drop, get_or, slice_get, sym, refl, ap, ◌∙◌, subst, arith, Some, lt-ltb, le-ltb, length-append, length-drop}
use Rattle.std.proofs.lemmas.List.{take_more, get_or-drop}
use native.Mathlib.Decide.{dec_lt}
use mathlib.Core.Logic.{dite}
use Rattle.ring_layout.specs.Places.{start_at, end_at, tail}
use Rattle.ring_layout.specs.History.{next_number, starts_below, first_number, MayBegin, IsReadBack}
use Rattle.ring_layout.specs.declared.history.Run.{Run}
use Rattle.ring_layout.specs.declared.history.HistoryItem.{HistoryItem}
use Rattle.ring_layout.specs.declared.history.HistoryItem.TheVariants.{UnitRun, Overrun}
use Rattle.ring_layout.proofs.PushLemmas.{tail_push}
use Rattle.ring_layout.proofs.TakenLemmas.{get_inside}

pub got : {U : Type 0} (xs : List U) (k : ℕ) (u d : U) → slice_get xs k ≡ Some u → get_or xs k d ≡ u
got [] k u d e = cc e
got (x ∷ xs) zero u d e = cc e
got (x ∷ xs) (suc k) u d e = got xs k u d e

-- the front of a list, with the next one
pub take_next : {U : Type 0} (xs : List U) (k : ℕ) (u : U) → slice_get xs k ≡ Some u → take (k + 1) xs ≡ take k xs ++ u ∷ []
take_next xs k u e = take_more xs k u (get_inside xs k u e) ∙ ap (λ y. take k xs ++ y ∷ []) (got xs k u u e)

module _ {U : Type 0} (words : U → List ℕ) (seg : ℕ) where
  begins_same : (most : ℕ) (log : List U) (r q : Run U) (is : List (HistoryItem U)) → r.segment ≡ q.segment → r.first ≡ q.first → r.missed ≡ q.missed → MayBegin words seg most log r is → MayBegin words seg most log q is
  begins_same most log r q [] s f m h = (sym s ∙ h.0, sym f ∙ h.1, sym m ∙ h.2)
  begins_same most log r q (UnitRun p ∷ is) s f m h = absurd h
  begins_same most log r q (Overrun a b ∷ is) s f m h = record {
    near = subst (λ (z : ℕ). b ≤ z + 4) s h.near;
    announced = subst (λ (z : ℕ). z + 4 ≤ most) s h.announced;
    number = sym f ∙ (h.number ∙ ap (first_number words seg log) s);
    missed = ap (λ (z : ℕ). z + next_number is) (sym m) ∙ (h.missed ∙ f);
  }

  -- the run of a reader gets the next unit
  pub run_more : (most : ℕ) (log : List U) (r : Run U) (is : List (HistoryItem U)) (u : U) → slice_get log (r.first + length r.units) ≡ Some u → IsReadBack words seg most log (UnitRun r ∷ is)
      → IsReadBack words seg most log (UnitRun (record r { units = r.units ++ u ∷ [] }) ∷ is)
  run_more most log r is u e h = let n : ℕ = length r.units in let i = get_inside log (r.first + n) u e in let l : length (r.units ++ u ∷ []) ≡ n + 1 = length-append r.units (u ∷ []) ∙ omega arith in
      let d = length-drop r.first log in (
        record {
          units = sym (ap (λ (k : ℕ). take k (drop r.first log)) l ∙ (take_more (drop r.first log) n u (omega arith) ∙ (λ j. sym h.0.units j ++ (get_or-drop r.first log n u ∙ got log (r.first + n) u u e) j ∷ [])));
          inside = omega arith;
          segment = h.0.segment;
        },
        begins_same most log r (record r { units = r.units ++ u ∷ [] }) is refl refl refl h.1,
        h.2,
      )

  pub below_few : (t : ℕ) (us : List U) (p : ℕ) → starts_below words seg t us p ≤ length us
  below_few t [] p = omega arith
  below_few t (u ∷ us) p = let n : ℕ = end_at seg t (length (words u)) in let r = below_few n us p in dite (dec_lt (start_at seg t (length (words u))) p)
      (λ l. subst (λ (b : Bool). cond b 1 0 + starts_below words seg n us p ≤ suc (length us)) (sym (lt-ltb (start_at seg t (length (words u))) p l)) (omega arith))
      (λ g. subst (λ (b : Bool). cond b 1 0 + starts_below words seg n us p ≤ suc (length us)) (sym (le-ltb (start_at seg t (length (words u))) p (omega arith))) (omega arith))

  -- a run begins after a loss
  pub run_begins : (most : ℕ) (log : List U) (a b s missed : ℕ) (is : List (HistoryItem U)) → b ≤ s + 4 → s + 4 ≤ most → s ≤ tail words seg log / seg → missed + next_number is ≡ first_number words seg log s → IsReadBack words seg most log (Overrun a b ∷ is)
      → IsReadBack words seg most log (UnitRun (record { segment = s; first = first_number words seg log s; missed = missed; units = [] }) ∷ Overrun a b ∷ is)
  run_begins most log a b s missed is near announced low m h = (record { units = refl; inside = let f = below_few 0 log (s * seg) in omega arith; segment = low }, record { near = near; announced = announced; number = refl; missed = m }, h)

  -- the place after the unit that was taken
  pub next_place : (log : List U) (k : ℕ) (u : U) → slice_get log k ≡ Some u → tail words seg (take (k + 1) log) ≡ end_at seg (tail words seg (take k log)) (length (words u))
  next_place log k u e = ap (tail words seg) (take_next log k u e) ∙ tail_push words seg (take k log) u
