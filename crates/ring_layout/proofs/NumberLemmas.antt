-- How many units start below a place: where one is due, in a segment that is entered, and behind what was taken.
use Rattle.std.proofs.Common.{◌≡◌, ◌≢◌, ◌⊎◌, ℕ, zero, suc, ◌+◌, ◌*◌, ◌/◌, ◌%◌, ◌<◌, ◌≤◌, cond, ltb, List, [], ◌∷◌, ◌++◌, length, take, slice_get, reverse, sym, refl, ap, ◌∙◌, subst, ⊎_elim, inl, inr, arith, Some, eq-eqb, ne_eqb, lt-ltb, le-ltb, mul-le-mul_right, div-add-mod', mod-lt, div-mul-le_self}
use Rattle.std.proofs.lemmas.List.{reverse-append, reverse-reverse}
use mathlib.Core.Logic.{dite}
use native.Mathlib.Decide.{ℕ_discrete, dec_lt}
use Rattle.ring_layout.specs.Places.{start_at, end_at, tail_from, tail, segment_start, AreFit}
use Rattle.ring_layout.specs.History.{next_number, count_taken, count_missed, starts_below, first_number, RunStands, UnitStarts, MayBegin, IsReadBack, IsReadHistory, ReachesTail, AddUp}
use Rattle.ring_layout.specs.inside.Numbers.{entered_number}
use Rattle.ring_layout.specs.Copied.{IsDueAt}
use Rattle.ring_layout.specs.declared.history.Run.{Run}
use Rattle.ring_layout.specs.declared.history.HistoryItem.{HistoryItem}
use Rattle.ring_layout.specs.declared.history.HistoryItem.TheVariants.{UnitRun, Overrun}
use Rattle.ring_layout.proofs.EntriesLemmas.{entered}
use Rattle.ring_layout.proofs.TakenLemmas.{start_above, get_inside}
use Rattle.ring_layout.proofs.AgreedLemmas.{div_up, tail_above}
use Rattle.ring_layout.proofs.ReadingLemmas.{start_leads}
use Rattle.ring_layout.proofs.ItemsLemmas.{below_few}

-- one, where a number is below another
abbrev below : ℕ → ℕ → ℕ
below a b = cond (ltb a b) 1 0

is_below : (a b : ℕ) → a < b → below a b ≡ 1
is_below a b l = rw (lt-ltb a b l) refl

not_below : (a b : ℕ) → b ≤ a → below a b ≡ 0
not_below a b l = rw (le-ltb a b l) refl

below_up : (a p q : ℕ) → p ≤ q → below a p ≤ below a q
below_up a p q up = dite (dec_lt a p)
    (λ l. let x = is_below a p l in let y = is_below a q (omega arith) in omega arith)
    (λ n. let x = not_below a p (omega arith) in omega arith)

-- a place in a segment lies below a later one
pub under : (seg p s : ℕ) → 0 < seg → p / seg < s → p < s * seg
under seg p s pos l =
    let a = div-add-mod' p seg in
    let r : p % seg < seg = mod-lt p pos in
    let m : (p / seg + 1) * seg ≤ s * seg = mul-le-mul_right seg (omega arith) in
    omega arith

module _ {U : Type 0} (words : U → List ℕ) (seg : ℕ) (pos : 0 < seg) where
  below_none : (t : ℕ) (us : List U) (p : ℕ) → p ≤ t → starts_below words seg t us p ≡ 0
  below_none t [] p l = refl
  below_none t (u ∷ us) p l =
      let s = start_above seg t (length (words u)) pos in
      let here = not_below (start_at seg t (length (words u))) p (omega arith) in
      let rest = below_none (end_at seg t (length (words u))) us p (omega arith) in
      omega arith

  pub below_all : (t : ℕ) (us : List U) (p : ℕ) → AreFit words seg us → tail_from words seg t us ≤ p → starts_below words seg t us p ≡ length us
  below_all t [] p fit l = refl
  below_all t (u ∷ us) p fit l =
      let some_word = fit.0.0 in
      let up = tail_above words seg pos (end_at seg t (length (words u))) us in
      let here = is_below (start_at seg t (length (words u))) p (omega arith) in
      let rest = below_all (end_at seg t (length (words u))) us p fit.1 l in
      omega arith

  -- a log has no more units than words, behind a tail
  pub units_short : (t : ℕ) (us : List U) → AreFit words seg us → t + length us ≤ tail_from words seg t us
  units_short t [] fit = omega arith
  units_short t (u ∷ us) fit =
      let above = start_above seg t (length (words u)) pos in
      let some_word = fit.0.0 in
      let rest = units_short (end_at seg t (length (words u))) us fit.1 in
      omega arith

  below_rise : (t : ℕ) (us : List U) (p q : ℕ) → p ≤ q → starts_below words seg t us p ≤ starts_below words seg t us q
  below_rise t [] p q up = omega arith
  below_rise t (u ∷ us) p q up =
      let here = below_up (start_at seg t (length (words u))) p q up in
      let rest = below_rise (end_at seg t (length (words u))) us p q up in
      omega arith

  below_push : (t : ℕ) (us : List U) (u : U) (p : ℕ) → starts_below words seg t (us ++ u ∷ []) p ≡ starts_below words seg t us p + below (start_at seg (tail_from words seg t us) (length (words u))) p
  below_push t [] u p = omega arith
  below_push t (x ∷ us) u p = let rest = below_push (end_at seg t (length (words x))) us u p in omega arith

  -- as many units start below a place as there are before the one that is due there
  abbrev Leads : ℕ → List U → ℕ → ℕ → Type 0
  Leads t us k p = (p ≡ tail_from words seg t (take k us)) ⊎ ((u : U) × (slice_get us k ≡ Some u) × (p ≡ start_at seg (tail_from words seg t (take k us)) (length (words u))))

  leads_number : (t k : ℕ) (us : List U) (p : ℕ) → AreFit words seg us → k ≤ length us → Leads t us k p → starts_below words seg t us p ≡ k
  leads_number t zero [] p fit l h = refl
  leads_number t (suc k) [] p fit l h = absurd (omega arith)
  leads_number t zero (u ∷ us) p fit l h =
      let n : ℕ = end_at seg t (length (words u)) in
      let above = start_above seg t (length (words u)) pos in
      let upto : p ≤ start_at seg t (length (words u)) = ⊎_elim
      (λ (at : p ≡ t). omega arith)
      (λ (at : (v : U) × (Some u ≡ Some v) × (p ≡ start_at seg t (length (words v)))). let same : u ≡ at.0 = cc at.1 in subst (λ (v : U). p ≤ start_at seg t (length (words v))) (sym same) (let e = at.2 in omega arith)) h in
      let here = not_below (start_at seg t (length (words u))) p upto in
      let rest = below_none n us p (omega arith) in
      omega arith
  leads_number t (suc k) (u ∷ us) p fit l h =
      let n : ℕ = end_at seg t (length (words u)) in
      let some_word = fit.0.0 in
      let more : Leads n us k p = h in
      let up = tail_above words seg pos n (take k us) in
      let behind : n ≤ p = ⊎_elim
      (λ (at : p ≡ tail_from words seg n (take k us)). omega arith)
      (λ (at : (v : U) × (slice_get us k ≡ Some v) × (p ≡ start_at seg (tail_from words seg n (take k us)) (length (words v)))). let a = start_above seg (tail_from words seg n (take k us)) (length (words at.0)) pos in let e = at.2 in omega arith) more in
      let here = is_below (start_at seg t (length (words u))) p (omega arith) in
      let rest = leads_number n k us p fit.1 (omega arith) more in
      omega arith

  pub due_number : (log : List U) (k p : ℕ) → AreFit words seg log → IsDueAt words seg log k p → starts_below words seg 0 log p ≡ k
  due_number log k p fit due = leads_number 0 k log p fit due.0 due.1

  -- so the number of a segment's first unit is how many units start below the segment's start
  pub start_number : (log : List U) (s p : ℕ) → AreFit words seg log → segment_start words seg log s ≡ Some p → starts_below words seg 0 log p ≡ first_number words seg log s
  start_number log s p fit e = due_number log (first_number words seg log s) p fit (below_few words seg 0 log (s * seg), start_leads words seg pos log s p fit e)

  -- the number of the first unit of a segment that a put enters
  pub number_entered : (log : List U) (u : U) (s : ℕ) → AreFit words seg log → length (words u) ≤ seg → tail words seg log / seg < s → s ≤ end_at seg (tail words seg log) (length (words u)) / seg
      → first_number words seg (log ++ u ∷ []) s ≡ entered_number seg (length log) (start_at seg (tail words seg log) (length (words u))) s
  number_entered log u s fit fits above upto =
      let t : ℕ = tail words seg log in
      let w : ℕ = length (words u) in
      let st : ℕ = start_at seg t w in
      let push = below_push 0 log u (s * seg) in
      let low = under seg t s pos above in
      let all = below_all 0 log (s * seg) fit (omega arith) in
      dite (ℕ_discrete (st / seg) s)
      (λ (e : st / seg ≡ s).
      let at : s * seg ≤ st = (let a = div-mul-le_self st seg in subst (λ (z : ℕ). z * seg ≤ st) e a) in
      let here = not_below st (s * seg) at in
      rw (eq-eqb (st / seg) s e) (omega arith))
      (λ (ne : st / seg ≢ s).
      let there : end_at seg t w / seg ≡ s = ⊎_elim (λ (z : st / seg ≡ s). absurd (ne z)) (λ (z : end_at seg t w / seg ≡ s). z) (entered seg t w s pos fits above upto) in
      let up = div_up seg st (end_at seg t w) pos (omega arith) in
      let here = is_below st (s * seg) (under seg st s pos (omega arith)) in
      rw (ne_eqb (st / seg) s ne) (omega arith))

  -- a run begins with the first unit of its segment
  begins_number : (most : ℕ) (log : List U) (r : Run U) (is : List (HistoryItem U)) → MayBegin words seg most log r is → r.first ≡ first_number words seg log r.segment
  begins_number most log r [] h = let none = below_none 0 log (r.segment * seg) (subst (λ (z : ℕ). z * seg ≤ 0) (sym h.0) (omega arith)) in let first = h.1 in omega arith
  begins_number most log r (UnitRun q ∷ is) h = absurd h
  begins_number most log r (Overrun a b ∷ is) h = h.number

  -- as many units start below the place where a run stands as come before the next one
  run_number : (most : ℕ) (log : List U) (r : Run U) (is : List (HistoryItem U)) (p : ℕ) → AreFit words seg log → IsReadBack words seg most log (UnitRun r ∷ is)
      → RunStands words seg log r.segment r.first (length r.units) p ⊎ UnitStarts words seg log (r.first + length r.units) p → starts_below words seg 0 log p ≡ r.first + length r.units
  run_number most log r is p fit h stands = ⊎_elim
      (λ (t : RunStands words seg log r.segment r.first (length r.units) p). dite (ℕ_discrete (length r.units) 0)
      (λ (none : length r.units ≡ 0). let a = start_number log r.segment p fit (t.0 none) in let b = begins_number most log r is h.1 in omega arith)
      (λ (some_unit : length r.units ≢ 0). due_number log (r.first + length r.units) p fit (h.0.inside, inl (t.1 (omega arith)))))
      (λ (t : UnitStarts words seg log (r.first + length r.units) p). due_number log (r.first + length r.units) p fit (let i = get_inside log (r.first + length r.units) t.0 t.1 in omega arith, inr t))
      stands

  -- no unit that was taken starts in a segment four behind a counter that is no smaller than the last that was seen, nor behind it
  pub number_behind : (most : ℕ) (log : List U) (a b s : ℕ) (is : List (HistoryItem U)) → AreFit words seg log → IsReadBack words seg most log (Overrun a b ∷ is) → b ≤ s + 4 → next_number is ≤ first_number words seg log s
  number_behind most log a b s [] fit h near = absurd h.3
  number_behind most log a b s (Overrun c d ∷ is) fit h near = let seen = h.2 in number_behind most log c d s is fit h.4 (omega arith)
  number_behind most log a b s (UnitRun r ∷ is) fit h near =
      let far = h.0 in
      let p : ℕ = h.3.0 in
      let at : a ≡ p / seg = h.3.1 in
      let number = run_number most log r is p fit h.4 h.3.2 in
      let low = under seg p s pos (omega arith) in
      let rise = below_rise 0 log p (s * seg) (omega arith) in
      omega arith

  -- the units that were taken and those that were missed are all that come before the next one
  counts_add_up : (most : ℕ) (log : List U) (items : List (HistoryItem U)) → IsReadBack words seg most log items → count_taken items + count_missed items ≡ next_number items
  counts_add_up most log [] h = refl
  counts_add_up most log (Overrun a b ∷ is) h = counts_add_up most log is h.4
  counts_add_up most log (UnitRun r ∷ []) h = let m = h.1 in let first = m.1 in let missed = m.2 in omega arith
  counts_add_up most log (UnitRun r ∷ UnitRun q ∷ is) h = absurd h.1
  counts_add_up most log (UnitRun r ∷ Overrun a b ∷ is) h =
      let rest = counts_add_up most log (Overrun a b ∷ is) h.2 in
      let missed = h.1.missed in
      omega arith

-- where items reach the tail, the next number is the log's length
reaches_number : {U : Type 0} (log : List U) (items : List (HistoryItem U)) → ReachesTail log (reverse items) → next_number items ≡ length log
reaches_number log items h =
    let newest : items ≡ UnitRun h.run ∷ reverse h.before = sym (reverse-reverse items) ∙ (ap reverse h.last ∙ reverse-append h.before (UnitRun h.run ∷ [])) in
    ap next_number newest ∙ h.ends

-- what is counted doesn't depend on the order
counts_append : {U : Type 0} (xs ys : List (HistoryItem U)) → count_taken (xs ++ ys) + count_missed (xs ++ ys) ≡ (count_taken xs + count_missed xs) + (count_taken ys + count_missed ys)
counts_append [] ys = omega arith
counts_append (UnitRun r ∷ xs) ys = let rest = counts_append xs ys in omega arith
counts_append (Overrun a b ∷ xs) ys = counts_append xs ys

counts_back : {U : Type 0} (xs : List (HistoryItem U)) → count_taken (reverse xs) + count_missed (reverse xs) ≡ count_taken xs + count_missed xs
counts_back [] = refl
counts_back (UnitRun r ∷ xs) =
    let turned = ap (λ l. count_taken l + count_missed l) (reverse-append (UnitRun r ∷ []) xs) in
    let both = counts_append (reverse xs) (UnitRun r ∷ []) in
    let rest = counts_back xs in
    turned ∙ (both ∙ omega arith)
counts_back (Overrun a b ∷ xs) =
    let turned = ap (λ l. count_taken l + count_missed l) (reverse-append (Overrun a b ∷ []) xs) in
    let both = counts_append (reverse xs) (Overrun a b ∷ []) in
    let rest = counts_back xs in
    turned ∙ (both ∙ omega arith)

-- so the units that were taken and those that were missed are the whole log
pub adds_up : {U : Type 0} (words : U → List ℕ) (seg : ℕ) → 0 < seg → (log : List U) (items : List (HistoryItem U)) → IsReadHistory words seg log items → AddUp log items
adds_up {U = U} words seg pos log items h reaches =
    let back : List (HistoryItem U) = reverse items in
    let ends = reaches_number log back (subst (λ l. ReachesTail log l) (sym (reverse-reverse items)) reaches) in
    let counts = counts_add_up words seg pos (tail words seg log / seg) log back h.1 in
    sym (counts_back items) ∙ (counts ∙ ends)
