-- What a cursor finds at its place, and where a segment's segment_start leads.
use Rattle.std.proofs.Common.{◌≡◌, ◌≢◌, ◌⊎◌, ℕ, suc, ◌+◌, ◌-◌, ◌*◌, ◌/◌, ◌%◌, ◌<◌, ◌≤◌, Bool, true, false, cond, eqb, ltb, leb, not, ◌&&◌, List, [], ◌∷◌, ◌++◌, length, take, get_or, slice_get, sym, refl, ap, ◌∙◌, subst, ⊎_elim, inl, inr, arith, Option, Some, None, eq-eqb, ne_eqb, lt-ltb, le-ltb, le-leb, mul-le-mul_right, div-add-mod', mod-lt, div-mul-le_self, le_refl}
use Rattle.std.proofs.lemmas.Nat.{div_below}
use mathlib.Core.Logic.{dite}
use native.Mathlib.Decide.{ℕ_discrete, dec_le}
use Rattle.std.specs.Option.{option_or}
use Rattle.ring_layout.specs.Places.{stays, start_at, end_at, if_some, first_in, tail_from, placed_word, words_from, ends_from, tail, word_at, segment_start, AreFit, end_mark, wrap_mark}
use Rattle.ring_layout.specs.History.{starts_below, first_number, UnitStarts}
use Rattle.ring_layout.proofs.PushLemmas.{or_assoc}
use Rattle.ring_layout.proofs.EntriesLemmas.{entered}
use Rattle.ring_layout.proofs.TakenLemmas.{start_above}
use Rattle.ring_layout.proofs.AgreedLemmas.{some_same, placed_is, start_wraps, stays_true, tail_above, div_up}

none_or : (x : Option ℕ) → (x ≡ None) ⊎ ((y : ℕ) × (x ≡ Some y))
none_or None = inl refl
none_or (Some y) = inr (y, refl)

and_false : (b : Bool) → (b && false) ≡ false
and_false true = refl
and_false false = refl

none_and : (b : Bool) (x : ℕ) → if_some (b && false) x ≡ None
none_and true x = refl
none_and false x = refl

module _ {U : Type 0} (words : U → List ℕ) (seg : ℕ) (pos : 0 < seg) where
  zero_div : 0 / seg ≡ 0
  zero_div = let b : 0 / seg < 1 = div_below 0 seg 1 pos (omega arith) in omega arith

  body_append : (t : ℕ) (us vs : List U) (q : ℕ) → words_from words seg t (us ++ vs) q ≡ option_or (words_from words seg t us q) (words_from words seg (tail_from words seg t us) vs q)
  body_append t [] vs q = refl
  body_append t (x ∷ xs) vs q = ap (option_or (placed_word words seg t x q)) (body_append (end_at seg t (length (words x))) xs vs q)
      ∙ sym (or_assoc (placed_word words seg t x q) (words_from words seg (end_at seg t (length (words x))) xs q) (words_from words seg (tail_from words seg (end_at seg t (length (words x))) xs) vs q))

  piece_none : (t : ℕ) (u : U) (q : ℕ) → end_at seg t (length (words u)) ≤ q → placed_word words seg t u q ≡ None
  piece_none t u q l = let above = start_above seg t (length (words u)) pos in ⊎_elim (λ n. n)
      (λ (s : (x : ℕ) × (placed_word words seg t u q ≡ Some x)). ⊎_elim
      (λ (k : (q ≡ t) × (stays seg t (length (words u)) ≡ false) × (s.0 ≡ wrap_mark)). let w = start_wraps words seg pos t (length (words u)) k.1 in let z = k.0 in absurd (omega arith))
      (λ (k : (start_at seg t (length (words u)) ≤ q) × (q < end_at seg t (length (words u))) × (s.0 ≡ get_or (words u) (q - start_at seg t (length (words u))) 0)). let z = k.1 in absurd (omega arith))
      (placed_is words seg pos t u q s.0 s.1)) (none_or (placed_word words seg t u q))

  -- the words of a unit that was put at t
  piece_has : (t : ℕ) (u : U) (j : ℕ) → j < length (words u) → placed_word words seg t u (start_at seg t (length (words u)) + j) ≡ Some (get_or (words u) j 0)
  piece_has t u j l = let w : ℕ = length (words u) in let s : ℕ = start_at seg t w in let above = start_above seg t w pos in
      let no_wrap : ((eqb (s + j) t) && not (stays seg t w)) ≡ false = dite (ℕ_discrete (s + j) t)
      (λ e. let near = stays_true words seg pos t w (omega arith) in (λ i. eqb (s + j) t && not (near i)) ∙ and_false (eqb (s + j) t))
      (λ ne. (λ i. ne_eqb (s + j) t ne i && not (stays seg t w))) in
      let within : (leb s (s + j) && ltb (s + j) (s + w)) ≡ true = (λ i. le-leb s (s + j) (omega arith) i && ltb (s + j) (s + w)) ∙ lt-ltb (s + j) (s + w) (omega arith) in
      (λ i. option_or (if_some (no_wrap i) wrap_mark) (if_some (within i) (get_or (words u) ((s + j) - s) 0))) ∙ ap (λ (z : ℕ). Some (get_or (words u) z 0)) (omega arith)

  -- the wrap mark where a unit left its lap
  piece_wraps : (t : ℕ) (u : U) → stays seg t (length (words u)) ≡ false → placed_word words seg t u t ≡ Some wrap_mark
  piece_wraps t u e = let w : ℕ = length (words u) in let b : ((eqb t t) && not (stays seg t w)) ≡ true = (λ i. eq-eqb t t refl i && not (e i)) in
      (λ i. option_or (if_some (b i) wrap_mark) (if_some (leb (start_at seg t w) t && ltb t (end_at seg t w)) (get_or (words u) (t - start_at seg t w) 0)))

  body_none : (t : ℕ) (us : List U) (q : ℕ) → tail_from words seg t us ≤ q → words_from words seg t us q ≡ None
  body_none t [] q l = refl
  body_none t (u ∷ us) q l = let n : ℕ = end_at seg t (length (words u)) in let up = tail_above words seg pos n us in
      (λ i. option_or (piece_none t u q (omega arith) i) (words_from words seg n us q)) ∙ body_none n us q l

  -- the word_at of the log at a place of the unit that stands between us and vs
  text_of : (us vs : List U) (u : U) (q x : ℕ) → tail words seg us ≤ q → placed_word words seg (tail words seg us) u q ≡ Some x → word_at words seg (us ++ u ∷ vs) q ≡ Some x
  text_of us vs u q x l e = ap (λ z. option_or z (if_some (eqb q (tail words seg (us ++ u ∷ vs))) end_mark)) (body_append 0 us (u ∷ vs) q ∙ ((λ i. option_or (body_none 0 us q l i) (option_or (e i) (words_from words seg (end_at seg (tail words seg us) (length (words u))) vs q)))))

  pub word_of_unit : (us vs : List U) (u : U) (j : ℕ) → j < length (words u) → word_at words seg (us ++ u ∷ vs) (start_at seg (tail words seg us) (length (words u)) + j) ≡ Some (get_or (words u) j 0)
  word_of_unit us vs u j l = let above = start_above seg (tail words seg us) (length (words u)) pos in text_of us vs u (start_at seg (tail words seg us) (length (words u)) + j) (get_or (words u) j 0) (omega arith) (piece_has (tail words seg us) u j l)

  pub wrap_word : (us vs : List U) (u : U) → stays seg (tail words seg us) (length (words u)) ≡ false → word_at words seg (us ++ u ∷ vs) (tail words seg us) ≡ Some wrap_mark
  wrap_word us vs u e = text_of us vs u (tail words seg us) wrap_mark (le_refl (tail words seg us)) (piece_wraps (tail words seg us) u e)

  pub end_word : (log : List U) → word_at words seg log (tail words seg log) ≡ Some end_mark
  end_word log = (λ i. option_or (body_none 0 log (tail words seg log) (le_refl (tail words seg log)) i) (if_some (eq-eqb (tail words seg log) (tail words seg log) refl i) end_mark))

  below_zero : (t : ℕ) (us : List U) (p : ℕ) → p ≤ t → starts_below words seg t us p ≡ 0
  below_zero t [] p l = refl
  below_zero t (u ∷ us) p l = let s = start_above seg t (length (words u)) pos in
      (λ i. cond (le-ltb (start_at seg t (length (words u))) p (omega arith) i) 1 0 + starts_below words seg (end_at seg t (length (words u))) us p) ∙ (let r = below_zero (end_at seg t (length (words u))) us p (omega arith) in omega arith)

  -- Where the first stop of the segment s leads: to the end of the units that start below it, or to the start of the next
  abbrev Leads : ℕ → List U → ℕ → ℕ → Type 0
  Leads t us m p = (p ≡ tail_from words seg t (take m us)) ⊎ ((u : U) × (slice_get us m ≡ Some u) × (p ≡ start_at seg (tail_from words seg t (take m us)) (length (words u))))

  here_or : (s p : ℕ) (ps : List ℕ) (x : ℕ) → first_in seg s (p ∷ ps) ≡ Some x → ((p / seg ≡ s) × (x ≡ p)) ⊎ ((p / seg ≢ s) × (first_in seg s ps ≡ Some x))
  here_or s p ps x e = dite (ℕ_discrete (p / seg) s)
      (λ h. inl (h, some_same (sym e ∙ ap (λ (b : Bool). option_or (if_some b p) (first_in seg s ps)) (eq-eqb (p / seg) s h))))
      (λ n. inr (n, sym (ap (λ (b : Bool). option_or (if_some b p) (first_in seg s ps)) (ne_eqb (p / seg) s n)) ∙ e))

  leads : (t : ℕ) (us : List U) (s p : ℕ) → AreFit words seg us → t / seg < s → first_in seg s (ends_from words seg t us) ≡ Some p → Leads t us (starts_below words seg t us (s * seg)) p
  leads t [] s p fit low e = cc e
  leads t (u ∷ us) s p fit low e = let w : ℕ = length (words u) in let st : ℕ = start_at seg t w in let n : ℕ = end_at seg t w in
      let into : (m : ℕ) → starts_below words seg t (u ∷ us) (s * seg) ≡ m → Leads t (u ∷ us) m p → Leads t (u ∷ us) (starts_below words seg t (u ∷ us) (s * seg)) p = λ m q h. subst (λ (z : ℕ). Leads t (u ∷ us) z p) (sym q) h in
      ⊎_elim
      (λ (h : (st / seg ≡ s) × (p ≡ st)). let h0 = h.0 in let at : s * seg ≤ st = (let a = div-mul-le_self st seg in subst (λ (z : ℕ). z * seg ≤ st) h0 a) in
      into 0 ((λ i. cond (le-ltb st (s * seg) at i) 1 0 + starts_below words seg n us (s * seg)) ∙ (let r = below_zero n us (s * seg) (omega arith) in omega arith)) (inr (u, refl, h.1)))
      (λ (h : (st / seg ≢ s) × (first_in seg s (n ∷ ends_from words seg n us) ≡ Some p)).
      let below : st / seg < s = dite (dec_le s (n / seg)) (λ l. ⊎_elim (λ (z : st / seg ≡ s). absurd (h.0 z)) (λ (z : n / seg ≡ s). let up = div_up seg st n pos (omega arith) in let ne = h.0 in omega arith) (entered seg t w s pos fit.0.1 low l))
      (λ g. let up = div_up seg st n pos (omega arith) in omega arith) in
      let under : st < s * seg = (let a = div-add-mod' st seg in let r : st % seg < seg = mod-lt st pos in let l1 : st / seg + 1 ≤ s = omega arith in let m : (st / seg + 1) * seg ≤ s * seg = mul-le-mul_right seg l1 in omega arith) in
      let one : (m : ℕ) → starts_below words seg n us (s * seg) ≡ m → starts_below words seg t (u ∷ us) (s * seg) ≡ suc m = λ m q. (λ i. cond (lt-ltb st (s * seg) under i) 1 0 + starts_below words seg n us (s * seg)) ∙ (omega arith) in
      ⊎_elim
      (λ (k : (n / seg ≡ s) × (p ≡ n)). let k0 = k.0 in let at : s * seg ≤ n = (let a = div-mul-le_self n seg in subst (λ (z : ℕ). z * seg ≤ n) k0 a) in
      into 1 (one 0 (below_zero n us (s * seg) at)) (inl k.1))
      (λ (k : (n / seg ≢ s) × (first_in seg s (ends_from words seg n us) ≡ Some p)).
      let nlow : n / seg < s = dite (dec_le s (n / seg)) (λ l. ⊎_elim (λ (z : st / seg ≡ s). absurd (h.0 z)) (λ (z : n / seg ≡ s). absurd (k.0 z)) (entered seg t w s pos fit.0.1 low l)) (λ g. omega arith) in
      into (suc (starts_below words seg n us (s * seg))) (one (starts_below words seg n us (s * seg)) refl) (leads n us s p fit.1 nlow k.1))
      (here_or s n (ends_from words seg n us) p h.1))
      (here_or s st (n ∷ ends_from words seg n us) p e)

  -- an segment_start is where the units that start below its segment end, or where the next one starts
  pub start_leads : (log : List U) (s p : ℕ) → AreFit words seg log → segment_start words seg log s ≡ Some p → (p ≡ tail words seg (take (first_number words seg log s) log)) ⊎ UnitStarts words seg log (first_number words seg log s) p
  start_leads log s p fit e = ⊎_elim
      (λ (h : (0 / seg ≡ s) × (p ≡ 0)). let z : 0 / seg ≡ 0 = zero_div in let zero_s : s ≡ 0 = sym h.0 ∙ z in inl (h.1 ∙ ap (λ (k : ℕ). tail words seg (take k log)) (sym (below_zero 0 log (s * seg) (subst (λ (y : ℕ). y * seg ≤ 0) (sym zero_s) (omega arith))))))
      (λ (h : (0 / seg ≢ s) × (first_in seg s (ends_from words seg 0 log) ≡ Some p)). leads 0 log s p fit (let z : 0 / seg ≡ 0 = zero_div in let ne = h.0 in omega arith) h.1)
      (here_or s 0 (ends_from words seg 0 log) p e)
