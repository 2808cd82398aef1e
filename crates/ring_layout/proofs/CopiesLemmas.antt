-- The words that a cursor copies, one after another.
use Rattle.std.proofs.Common.{◌≡◌, ℕ, zero, suc, ◌+◌, ◌*◌, ◌/◌, ◌%◌, ◌<◌, ◌≤◌, true, false, List, [], ◌∷◌, ◌++◌, length, take, drop, get_or, slice_get, sym, refl, ap, ◌∙◌, subst, ⊎_elim, inl, inr, arith, Some, lt-ltb, le-ltb, take-append-drop, take_all, length-append}
use Rattle.std.proofs.lemmas.List.{take_more, drop_more, take-append-le}
use mathlib.Core.Logic.{dite}
use native.Mathlib.Decide.{dec_lt}
use Rattle.ring_layout.specs.Places.{stays, start_at, tail, word_at, AreFit, end_mark, wrap_mark}
use Rattle.ring_layout.specs.History.{UnitStarts}
use Rattle.ring_layout.specs.Content.{HoldsLog}
use Rattle.ring_layout.specs.Copied.{IsDueAt, AreCopied}
use Rattle.ring_layout.proofs.TakenLemmas.{get_inside, get_longer, starts_stays}
use Rattle.ring_layout.proofs.AgreedLemmas.{div_up, start_near}
use Rattle.ring_layout.proofs.ReadingLemmas.{word_of_unit, wrap_word, end_word}
use Rattle.ring_layout.proofs.ItemsLemmas.{got}

pub some_is : {U : Type 0} {x y : U} → Some x ≡ Some y → x ≡ y
some_is e = cc e

-- the log around its unit number k
pub around : {U : Type 0} (log : List U) (k : ℕ) (u : U) → slice_get log k ≡ Some u → log ≡ take k log ++ u ∷ drop (k + 1) log
around log k u e = sym (take-append-drop k log) ∙ (ap (λ l. take k log ++ l) (drop_more log k u (get_inside log k u e)) ∙ ap (λ x. take k log ++ x ∷ drop (k + 1) log) (got log k u u e))

pub there : {U : Type 0} (log : List U) (k : ℕ) → k < length log → (u : U) × (slice_get log k ≡ Some u)
there [] k l = absurd (omega arith)
there (x ∷ xs) zero l = (x, refl)
there (x ∷ xs) (suc k) l = there xs k (omega arith)

pub has_word : {U : Type 0} (words : U → List ℕ) (seg : ℕ) (log : List U) (k : ℕ) (u : U) → AreFit words seg log → slice_get log k ≡ Some u → (0 < length (words u)) × (length (words u) ≤ seg)
has_word words seg [] k u f e = cc e
has_word words seg (x ∷ xs) zero u f e = subst (λ y. (0 < length (words y)) × (length (words y) ≤ seg)) (some_is e) f.0
has_word words seg (x ∷ xs) (suc k) u f e = has_word words seg xs k u f.1 e

module _ {U : Type 0} (words : U → List ℕ) (seg : ℕ) (pos : 0 < seg) where
  -- the word j of the unit number k stands in the ring, unless the counter has passed
  pub unit_word : (log : List U) (c k p j : ℕ) (u : U) (ent word : ℕ → ℕ) → HoldsLog words seg log c ent word → slice_get log k ≡ Some u → p ≡ start_at seg (tail words seg (take k log)) (length (words u)) → j < length (words u)
      → c < p / seg + 8 → word ((p + j) % (8 * seg)) ≡ get_or (words u) j 0
  unit_word log c k p j u ent word a e at l near = let up = div_up seg p (p + j) pos (omega arith) in
      a.word_at (p + j) (get_or (words u) j 0) (ap (λ z. word_at words seg z (p + j)) (around log k u e) ∙ (ap (λ z. word_at words seg (take k log ++ u ∷ drop (k + 1) log) (z + j)) at ∙ word_of_unit words seg pos (take k log) (drop (k + 1) log) u j l)) (omega arith)

  one_word : (u : U) → 0 < length (words u) → get_or (words u) 0 0 ∷ [] ≡ take 1 (words u)
  one_word u l = sym (take_more (words u) 0 0 l)

  starts_first : (log : List U) (c k p : ℕ) (ent word : ℕ → ℕ) → HoldsLog words seg log c ent word → AreFit words seg log → c < p / seg + 8 → UnitStarts words seg log k p → AreCopied words seg log p k (word (p % (8 * seg)) ∷ [])
  starts_first log c k p ent word a fit near s = let u = s.0 in let h = has_word words seg log k u fit s.1 in
      let x : word (p % (8 * seg)) ≡ get_or (words u) 0 0 = ap (λ (z : ℕ). word (z % (8 * seg))) (omega arith) ∙ unit_word log c k p 0 u ent word a s.1 s.2 h.0 near in
      inr (inr (omega arith, s, λ y e. ap (λ z. z ∷ []) x ∙ (one_word u h.0 ∙ ap (λ z. take 1 (words z)) (some_is (sym s.1 ∙ e)))))

  -- the first word that a cursor loads
  pub reads_first : (log : List U) (c k p : ℕ) (ent word : ℕ → ℕ) → HoldsLog words seg log c ent word → AreFit words seg log → IsDueAt words seg log k p → c < p / seg + 8 → AreCopied words seg log p k (word (p % (8 * seg)) ∷ [])
  reads_first log c k p ent word a fit cur near = ⊎_elim
      (λ (at : p ≡ tail words seg (take k log)). dite (dec_lt k (length log))
      (λ l. let u = there log k l in let w : ℕ = length (words u.0) in dite (dec_lt (p % (8 * seg) + w) (8 * seg))
      (λ stay. let s : stays seg p w ≡ true = lt-ltb (p % (8 * seg) + w) (8 * seg) stay in
      starts_first log c k p ent word a fit near (u.0, u.1, sym (ap (λ z. start_at seg z w) (sym at) ∙ start_near words seg pos p w s)))
      (λ far. let s : stays seg p w ≡ false = le-ltb (p % (8 * seg) + w) (8 * seg) (omega arith) in
      inr (inl (ap (λ z. z ∷ []) (a.word_at p wrap_mark (ap (λ z. word_at words seg z p) (around log k u.0 u.1) ∙ (ap (word_at words seg (take k log ++ u.0 ∷ drop (k + 1) log)) at ∙ wrap_word words seg pos (take k log) (drop (k + 1) log) u.0 (ap (λ z. stays seg z w) (sym at) ∙ s))) near), (u.0, u.1, at, s)))))
      (λ g. let all : take k log ≡ log = take_all k log (omega arith) in
      inl (ap (λ z. z ∷ []) (a.word_at p end_mark (ap (word_at words seg log) (at ∙ ap (tail words seg) all) ∙ end_word words seg pos log) near), cur.0, at)))
      (λ (s : UnitStarts words seg log k p). starts_first log c k p ent word a fit near s) cur.1

  -- one word more of a unit. `more` says that the words so far are no mark, and fewer than the unit's
  pub reads_next : (log : List U) (c k p : ℕ) (xs : List ℕ) (ent word : ℕ → ℕ) → HoldsLog words seg log c ent word → UnitStarts words seg log k p → ((u : U) → slice_get log k ≡ Some u → (xs ≡ take (length xs) (words u)) × (length xs < length (words u))) → c < p / seg + 8
      → AreCopied words seg log p k (xs ++ word ((p + length xs) % (8 * seg)) ∷ [])
  reads_next log c k p xs ent word a s more near = let u = s.0 in let h = more u s.1 in let n : ℕ = length xs in let x : ℕ = word ((p + n) % (8 * seg)) in
      let long : length (xs ++ x ∷ []) ≡ n + 1 = length-append xs (x ∷ []) ∙ omega arith in
      inr (inr (omega arith, s, λ y e. ap (λ z. xs ++ z ∷ []) (unit_word log c k p n u ent word a s.1 s.2 h.1 near) ∙ (ap (λ l. l ++ get_or (words u) n 0 ∷ []) h.0 ∙ (sym (take_more (words u) n 0 h.1) ∙ (ap (λ (z : ℕ). take z (words u)) (sym long) ∙ ap (λ z. take (length (xs ++ x ∷ [])) (words z)) (some_is (sym s.1 ∙ e)))))))

  -- what was copied stays so where the log gets one unit more
  pub reads_stays : (log : List U) (u : U) (p k : ℕ) (xs : List ℕ) → AreCopied words seg log p k xs → AreCopied words seg (log ++ u ∷ []) p k xs
  reads_stays log u p k xs h = let l = length-append log (u ∷ []) in ⊎_elim
      (λ (t : (xs ≡ end_mark ∷ []) × (k ≤ length log) × (p ≡ tail words seg (take k log))). inl (t.0, (let i = t.1 in omega arith), t.2 ∙ sym (ap (tail words seg) (take-append-le k log (u ∷ []) t.1))))
      (λ r. ⊎_elim
      (λ (t : (xs ≡ wrap_mark ∷ []) × ((v : U) × (slice_get log k ≡ Some v) × (p ≡ tail words seg (take k log)) × (stays seg p (length (words v)) ≡ false))). let i = get_inside log k t.1.0 t.1.1 in
      inr (inl (t.0, (t.1.0, get_longer log (u ∷ []) k t.1.0 t.1.1, t.1.2 ∙ sym (ap (tail words seg) (take-append-le k log (u ∷ []) (omega arith))), t.1.3))))
      (λ (t : (0 < length xs) × UnitStarts words seg log k p × ((v : U) → slice_get log k ≡ Some v → xs ≡ take (length xs) (words v))). let v = t.1 in
      inr (inr (t.0, starts_stays words seg pos log u k p t.1, λ y e. t.2 y (v.1 ∙ ap Some (some_is (sym (get_longer log (u ∷ []) k v.0 v.1) ∙ e)))))) r) h
