-- What was taken stays so where the log gets one unit more.
use Rattle.std.proofs.Common.{◌≡◌, ℕ, zero, suc, ◌+◌, ◌*◌, ◌/◌, ◌%◌, ◌<◌, ◌≤◌, cond, ltb, List, [], ◌∷◌, ◌++◌, length, take, drop, sym, ap, ◌∙◌, subst, ⊎_elim, inl, inr, arith, Some, slice_get, le-ltb, length-append, mul-le-mul_right, div-add-mod', le_trans, div-mul-le_self}
use Rattle.std.proofs.lemmas.List.{take-append-le, drop-append-le, length-drop}
use Rattle.std.proofs.lemmas.Nat.{le-div}
use native.Mathlib.Decide.{dec_lt}
use mathlib.Core.Logic.{dite}
use Rattle.std.specs.Option.{option_or}
use Rattle.ring_layout.specs.Places.{start_at, end_at, first_in, tail_from, tail, segment_start}
use Rattle.ring_layout.specs.History.{starts_below, first_number, RunStands, UnitStarts, IsRun, IsReadBack}
use Rattle.ring_layout.specs.declared.history.Run.{Run}
use Rattle.ring_layout.specs.declared.history.HistoryItem.{HistoryItem}
use Rattle.ring_layout.specs.declared.history.HistoryItem.TheVariants.{UnitRun, Overrun}
use Rattle.ring_layout.proofs.PushLemmas.{tail_push, start_push}
use Rattle.ring_layout.proofs.EntriesLemmas.{at_stay, at_wrap}

-- a unit never starts below the tail
pub start_above : (seg t w : ℕ) → 0 < seg → t ≤ start_at seg t w
start_above seg t w pos = dite (dec_lt (t % (8 * seg) + w) (8 * seg))
    (λ l. subst (λ (z : ℕ). t ≤ z) (sym (at_stay seg t w l)) (omega arith))
    (λ n. subst (λ (z : ℕ). t ≤ z) (sym (at_wrap seg t w (omega arith))) (let p = div-add-mod' t (8 * seg) in omega arith))

pub get_longer : {U : Type 0} (xs ys : List U) (k : ℕ) (u : U) → slice_get xs k ≡ Some u → slice_get (xs ++ ys) k ≡ Some u
get_longer [] ys k u e = cc e
get_longer (x ∷ xs) ys zero u e = e
get_longer (x ∷ xs) ys (suc k) u e = get_longer xs ys k u e

pub get_inside : {U : Type 0} (xs : List U) (k : ℕ) (u : U) → slice_get xs k ≡ Some u → k < length xs
get_inside [] k u e = cc e
get_inside (x ∷ xs) zero u e = omega arith
get_inside (x ∷ xs) (suc k) u e = let h = get_inside xs k u e in omega arith

module _ {U : Type 0} (words : U → List ℕ) (seg : ℕ) (pos : 0 < seg) where
  below_more : (t : ℕ) (us : List U) (u : U) (p : ℕ) → p ≤ tail_from words seg t us → starts_below words seg t (us ++ u ∷ []) p ≡ starts_below words seg t us p
  below_more t [] u p l = let s = start_above seg t (length (words u)) pos in rw (le-ltb (start_at seg t (length (words u))) p (omega arith)) (omega arith)
  below_more t (x ∷ xs) u p l = ap (λ (z : ℕ). cond (ltb (start_at seg t (length (words x))) p) 1 0 + z) (below_more (end_at seg t (length (words x))) xs u p l)

  pub number_stays : (log : List U) (u : U) (s : ℕ) → s ≤ tail words seg log / seg → first_number words seg (log ++ u ∷ []) s ≡ first_number words seg log s
  number_stays log u s l = below_more 0 log u (s * seg) (let a : s * seg ≤ tail words seg log / seg * seg = mul-le-mul_right seg l in let b = div-mul-le_self (tail words seg log) seg in omega arith)

  pub entry_stays : (log : List U) (u : U) (s p : ℕ) → segment_start words seg log s ≡ Some p → segment_start words seg (log ++ u ∷ []) s ≡ Some p
  entry_stays log u s p e = start_push words seg log u s ∙ ap (λ x. option_or x (first_in seg s (start_at seg (tail words seg log) (length (words u)) ∷ end_at seg (tail words seg log) (length (words u)) ∷ []))) e

  pub tail_grows : (log : List U) (u : U) → tail words seg log / seg ≤ tail words seg (log ++ u ∷ []) / seg
  tail_grows log u = let a = start_above seg (tail words seg log) (length (words u)) pos in let b = tail_push words seg log u in let c = div-mul-le_self (tail words seg log) seg in le-div (tail words seg log / seg) (tail words seg (log ++ u ∷ [])) seg pos (omega arith)

  pub run_stays : (log : List U) (u : U) (r : Run U) → IsRun words seg log r → IsRun words seg (log ++ u ∷ []) r
  run_stays log u r h = let i = h.inside in let d = length-drop r.first log in record {
    units = h.units ∙ sym (ap (take (length r.units)) (drop-append-le r.first log (u ∷ []) (omega arith)) ∙ take-append-le (length r.units) (drop r.first log) (u ∷ []) (omega arith));
    inside = let l = length-append log (u ∷ []) in omega arith;
    segment = let g = tail_grows log u in let s = h.segment in omega arith;
  }

  pub stands_stays : (log : List U) (u : U) (s f c p : ℕ) → f + c ≤ length log → RunStands words seg log s f c p → RunStands words seg (log ++ u ∷ []) s f c p
  stands_stays log u s f c p i h = (λ z. entry_stays log u s p (h.0 z), λ z. h.1 z ∙ sym (ap (tail words seg) (take-append-le (f + c) log (u ∷ []) i)))

  pub starts_stays : (log : List U) (u : U) (k p : ℕ) → UnitStarts words seg log k p → UnitStarts words seg (log ++ u ∷ []) k p
  starts_stays log u k p h = let i = get_inside log k h.0 h.1 in (h.0, get_longer log (u ∷ []) k h.0 h.1, h.2 ∙ sym (ap (λ (l : List U). start_at seg (tail words seg l) (length (words h.0))) (take-append-le k log (u ∷ []) (omega arith))))

  -- the takings of any reader stay takings of the longer log, and under a higher counter
  pub back_stays : (most more : ℕ) (log : List U) (u : U) → most ≤ more → (items : List (HistoryItem U)) → IsReadBack words seg most log items → IsReadBack words seg more (log ++ u ∷ []) items
  back_stays most more log u up [] h = tt
  back_stays most more log u up (UnitRun r ∷ []) h = (run_stays log u r h.0, h.1, tt)
  back_stays most more log u up (UnitRun r ∷ UnitRun q ∷ is) h = absurd h.1
  back_stays most more log u up (UnitRun r ∷ Overrun a b ∷ is) h = (run_stays log u r h.0, record { near = h.1.near; announced = le_trans h.1.announced up; number = h.1.number ∙ sym (number_stays log u r.segment h.0.segment); missed = h.1.missed }, back_stays most more log u up (Overrun a b ∷ is) h.2)
  back_stays most more log u up (Overrun a b ∷ []) h = absurd h.3
  back_stays most more log u up (Overrun a b ∷ Overrun c d ∷ is) h = (h.0, le_trans h.1 up, h.2, h.3, back_stays most more log u up (Overrun c d ∷ is) h.4)
  back_stays most more log u up (Overrun a b ∷ UnitRun r ∷ is) h = (
    h.0,
    le_trans h.1 up,
    h.2,
    (h.3.0, h.3.1, ⊎_elim (λ t. inl (stands_stays log u r.segment r.first (length r.units) h.3.0 h.4.0.inside t)) (λ t. inr (starts_stays log u (r.first + length r.units) h.3.0 t)) h.3.2),
    back_stays most more log u up (UnitRun r ∷ is) h.4,
  )
