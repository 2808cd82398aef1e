-- The stores of a put.
use Rattle.std.proofs.Common.{suc-mul, lt_of_not-le, ◌≡◌, ◌≢◌, ◌⊎◌, ℕ, suc, ◌+◌, ◌-◌, ◌*◌, ◌/◌, ◌%◌, ◌<◌, ◌≤◌, Bool, true, false, cond, eqb, not, ◌&&◌, List, [], ◌∷◌, ◌++◌, length, get_or, sym, refl, ap, ◌∙◌, subst, ⊎_elim, inl, inr, arith, Option, Some, None, lt-ltb, le-ltb, leb-true, ltb-true, ltb-false, eqb-true, mul-le-mul_right, div-add-mod', mod-lt, div-mul-le_self, le_refl}
use Rattle.std.proofs.lemmas.Nat.{le-div}
use mathlib.Core.Logic.{dite}
use native.Mathlib.Decide.{ℕ_discrete, dec_lt, dec_le}
use Rattle.std.specs.Option.{option_or}
use Rattle.ring_layout.specs.Places.{stays, start_at, end_at, if_some, first_in, tail_from, placed_word, words_from, tail, word_at, segment_start, AreFit, end_mark, wrap_mark}
use Rattle.ring_layout.specs.Content.{HoldsLog, first_word, HasStored, last_word}
use Rattle.ring_layout.proofs.PushLemmas.{tail_push, words_push, start_push}
use Rattle.ring_layout.proofs.EntriesLemmas.{at_stay, at_wrap, two_ahead, start_there}
use Rattle.ring_layout.proofs.TakenLemmas.{start_above}

further : (x y n : ℕ) → x < y → x * n + n ≤ y * n
further x y n h = let a : suc x * n ≤ y * n = mul-le-mul_right n h in omega (arith, suc-mul x n)

turns : (a b n : ℕ) → a ≤ b → b < a + n → a % n ≡ b % n → Dec (b / n ≤ a / n) → a ≡ b
turns a b n le lt e (yes d) = let m : b / n * n ≤ a / n * n = mul-le-mul_right n d in let p = div-add-mod' a n in let q = div-add-mod' b n in
    let x : ℕ = a / n * n in let y : ℕ = b / n * n in let r : ℕ = b % n in let p' : x + r ≡ a = ap (λ (k : ℕ). x + k) (sym e) ∙ p in let q' : y + r ≡ b = q in let m' : y ≤ x = m in omega arith
turns a b n le lt e (no d) = let m = further (a / n) (b / n) n (lt_of_not-le d) in let p = div-add-mod' a n in let q = div-add-mod' b n in
    let x : ℕ = a / n * n in let y : ℕ = b / n * n in let r : ℕ = b % n in let p' : x + r ≡ a = ap (λ (k : ℕ). x + k) (sym e) ∙ p in let q' : y + r ≡ b = q in let m' : x + n ≤ y = m in absurd (omega arith)

-- two numbers less than n apart, with one remainder, are one number
pub one_turn : (a b n : ℕ) → a ≤ b → b < a + n → a % n ≡ b % n → a ≡ b
one_turn a b n le lt e = turns a b n le lt e (dec_le (b / n) (a / n))

-- one word changed
pub record Set (f f' : ℕ → ℕ) (i x : ℕ) : Type 0 where
  pub here : f' i ≡ x
  pub else : (j : ℕ) → j ≢ i → f' j ≡ f j

-- two places within eight segments have words of their own
pub free_place : (seg q p : ℕ) → 0 < seg → q < p → p / seg < q / seg + 8 → q % (8 * seg) ≢ p % (8 * seg)
free_place seg q p pos less near e = let a = div-add-mod' q seg in let b = div-add-mod' p seg in let r : p % seg < seg = mod-lt p pos in
    let m : p / seg * seg + seg ≤ (q / seg + 8) * seg = (let z : (p / seg + 1) * seg ≤ (q / seg + 8) * seg = mul-le-mul_right seg (omega arith) in omega arith) in
    let same : q ≡ p = one_turn q p (8 * seg) (omega arith) (omega arith) e in omega arith

pub free_segment : (s t : ℕ) → s < t → t < s + 8 → s % 8 ≢ t % 8
free_segment s t less near e = let same : s ≡ t = one_turn s t 8 (omega arith) near e in omega arith

pub div_up : (seg a b : ℕ) → 0 < seg → a ≤ b → a / seg ≤ b / seg
div_up seg a b pos l = let c = div-mul-le_self a seg in le-div (a / seg) b seg pos (omega arith)

pub some_same : {x y : ℕ} → Some x ≡ Some y → x ≡ y
some_same e = cc e

pub or_some : {a b : Option ℕ} {x : ℕ} → option_or a b ≡ Some x → (a ≡ Some x) ⊎ (b ≡ Some x)
or_some {a = Some y} e = inl e
or_some {a = None} e = inr e

pub if_true : {b : Bool} {x y : ℕ} → if_some b x ≡ Some y → (b ≡ true) × (x ≡ y)
if_true {b = true} e = (refl, some_same e)
if_true {b = false} e = cc e

pub both_true : {a b : Bool} → (a && b) ≡ true → (a ≡ true) × (b ≡ true)
both_true {a = true} e = (refl, e)
both_true {a = false} e = cc e

pub not_true : {a : Bool} → not a ≡ true → a ≡ false
not_true {a = true} e = cc e
not_true {a = false} e = refl

module _ {U : Type 0} (words : U → List ℕ) (seg : ℕ) (pos : 0 < seg) where
  -- a higher counter says less
  pub announced : (log : List U) (c c' : ℕ) (ent word : ℕ → ℕ) → c ≤ c' → HoldsLog words seg log c ent word → HoldsLog words seg log c' ent word
  announced log c c' ent word up a = record { segment_starts = λ s p l m e. a.segment_starts s p l (omega arith) e; word_at = λ q x e m. a.word_at q x e (omega arith) }

  -- what a word_at of a coming placed_word is
  pub placed_is : (t : ℕ) (u : U) (q x : ℕ) → placed_word words seg t u q ≡ Some x
      → ((q ≡ t) × (stays seg t (length (words u)) ≡ false) × (x ≡ wrap_mark)) ⊎ ((start_at seg t (length (words u)) ≤ q) × (q < end_at seg t (length (words u))) × (x ≡ get_or (words u) (q - start_at seg t (length (words u))) 0))
  placed_is t u q x e = ⊎_elim
      (λ h. let i = if_true h in let b = both_true i.0 in inl (eqb-true q t b.0, not_true b.1, sym i.1))
      (λ h. let i = if_true h in let b = both_true i.0 in inr (leb-true (start_at seg t (length (words u))) q b.0, ltb-true q (end_at seg t (length (words u))) b.1, sym i.1))
      (or_some e)

  pub start_wraps : (t w : ℕ) → stays seg t w ≡ false → t < start_at seg t w
  start_wraps t w e = let far : 8 * seg ≤ t % (8 * seg) + w = ltb-false (t % (8 * seg) + w) (8 * seg) e in
      subst (λ (z : ℕ). t < z) (sym (at_wrap seg t w far)) (let a = div-add-mod' t (8 * seg) in let r : t % (8 * seg) < 8 * seg = mod-lt t (omega arith) in omega arith)

  -- the first word that is stored before the last lies above the old tail
  pub first_above : (t w m : ℕ) → first_word words seg t w ≤ m → t < start_at seg t w + m
  first_above t w m l = dite (dec_lt (t % (8 * seg) + w) (8 * seg))
      (λ near. let s = at_stay seg t w near in let one : 1 ≤ m = rw (lt-ltb (t % (8 * seg) + w) (8 * seg) near) at l in omega arith)
      (λ far. let s = start_wraps t w (le-ltb (t % (8 * seg) + w) (8 * seg) (omega arith)) in omega arith)

  pub start_near : (t w : ℕ) → stays seg t w ≡ true → start_at seg t w ≡ t
  start_near t w e = at_stay seg t w (ltb-true (t % (8 * seg) + w) (8 * seg) e)

  -- a unit that starts at the old tail stays in its lap
  pub stays_true : (t w : ℕ) → start_at seg t w ≤ t → stays seg t w ≡ true
  stays_true t w l = dite (dec_lt (t % (8 * seg) + w) (8 * seg)) (λ near. lt-ltb (t % (8 * seg) + w) (8 * seg) near)
      (λ far. let s = start_wraps t w (le-ltb (t % (8 * seg) + w) (8 * seg) (omega arith)) in absurd (omega arith))

  first_below : (t w q : ℕ) → t < q → start_at seg t w ≤ q → first_word words seg t w ≤ q - start_at seg t w
  first_below t w q above l = dite (dec_lt (t % (8 * seg) + w) (8 * seg))
      (λ near. let s = at_stay seg t w near in rw (lt-ltb (t % (8 * seg) + w) (8 * seg) near) (omega arith))
      (λ far. rw (le-ltb (t % (8 * seg) + w) (8 * seg) (omega arith)) (omega arith))

  pub tail_above : (t : ℕ) (us : List U) → t ≤ tail_from words seg t us
  tail_above t [] = le_refl t
  tail_above t (u ∷ us) = let a = start_above seg t (length (words u)) pos in let b = tail_above (end_at seg t (length (words u))) us in omega arith

  pub body_below : (t : ℕ) (us : List U) (q x : ℕ) → words_from words seg t us q ≡ Some x → q < tail_from words seg t us
  body_below t [] q x e = cc e
  body_below t (u ∷ us) q x e = let n : ℕ = end_at seg t (length (words u)) in let up = tail_above n us in ⊎_elim
      (λ (h : placed_word words seg t u q ≡ Some x). ⊎_elim
      (λ (k : (q ≡ t) × (stays seg t (length (words u)) ≡ false) × (x ≡ wrap_mark)). let s = start_wraps t (length (words u)) k.1 in let z = k.0 in omega arith)
      (λ (k : (start_at seg t (length (words u)) ≤ q) × (q < n) × (x ≡ get_or (words u) (q - start_at seg t (length (words u))) 0)). let z = k.1 in omega arith) (placed_is t u q x h))
      (λ (h : words_from words seg n us q ≡ Some x). body_below n us q x h) (or_some e)

  -- a place with a word_at is at most the tail
  pub word_below : (log : List U) (q x : ℕ) → word_at words seg log q ≡ Some x → q ≤ tail words seg log
  word_below log q x e = ⊎_elim (λ (h : words_from words seg 0 log q ≡ Some x). let z = body_below 0 log q x h in omega arith)
      (λ (h : if_some (eqb q (tail words seg log)) end_mark ≡ Some x). let z = eqb-true q (tail words seg log) (if_true h).0 in omega arith) (or_some e)

  -- an segment_start of the coming log
  pub offset : (log : List U) (u : U) (c s p e m k : ℕ) (ent ent' word : ℕ → ℕ) → Set ent ent' (s % 8) p → tail words seg log / seg < s → s ≤ c → c < tail words seg log / seg + 9 → e ≡ s
      → segment_start words seg (log ++ u ∷ []) s ≡ Some p → HoldsLog words seg log c ent word → HasStored words seg log u e m k ent word
      → HoldsLog words seg log c ent' word × HasStored words seg log u (s + 1) m k ent' word
  offset log u c s p e m k ent ent' word st above upto near at is a g = (
    record { segment_starts = λ r y l n w. st.else (r % 8) (free_segment r s (omega arith) (omega arith)) ∙ a.segment_starts r y l n w; word_at = a.word_at },
    record {
      segment_starts = λ r y l n w. dite (ℕ_discrete r s)
          (λ i. ap (λ (z : ℕ). ent' (z % 8)) i ∙ (st.here ∙ some_same (sym is ∙ (ap (segment_start words seg (log ++ u ∷ [])) (sym i) ∙ w))))
          (λ ne. st.else (r % 8) (free_segment r s (omega arith) (omega arith)) ∙ g.segment_starts r y l (omega arith) w);
      stored = g.stored;
      marked = g.marked;
    },
  )

  -- a word of the coming unit
  pub written : (log : List U) (u : U) (c e m k : ℕ) (ent word word' : ℕ → ℕ) → m < length (words u) → length (words u) ≤ seg → first_word words seg (tail words seg log) (length (words u)) ≤ m
      → Set word word' ((start_at seg (tail words seg log) (length (words u)) + m) % (8 * seg)) (get_or (words u) m 0) → (end_at seg (tail words seg log) (length (words u))) / seg ≤ c
      → HoldsLog words seg log c ent word → HasStored words seg log u e m 0 ent word → HoldsLog words seg log c ent word' × HasStored words seg log u e (m + 1) 0 ent word'
  written log u c e m k ent word word' inside fits from st high a g = let t : ℕ = tail words seg log in let w : ℕ = length (words u) in let p : ℕ = start_at seg t w + m in
      let up : p / seg ≤ c = (let z = div_up seg p (end_at seg t w) pos (omega arith) in omega arith) in (
        record { segment_starts = a.segment_starts; word_at = λ q x i n. let below = word_below log q x i in st.else (q % (8 * seg)) (free_place seg q p pos (let f = first_above t w m from in omega arith) (omega arith)) ∙ a.word_at q x i n },
        record {
          segment_starts = g.segment_starts;
          stored = λ j l n. dite (ℕ_discrete j m) (λ i. ap (λ (z : ℕ). word' ((start_at seg t w + z) % (8 * seg))) i ∙ (st.here ∙ ap (λ (z : ℕ). get_or (words u) z 0) (sym i)))
              (λ ne. st.else ((start_at seg t w + j) % (8 * seg)) (λ i. let same : start_at seg t w + j ≡ p = one_turn (start_at seg t w + j) p (8 * seg) (omega arith) (omega arith) i in omega arith) ∙ g.stored j l (omega arith));
          marked = λ z. absurd (omega arith);
        },
      )

  -- the end mark
  pub marks : (log : List U) (u : U) (c e m k : ℕ) (ent word word' : ℕ → ℕ) → 0 < length (words u) → length (words u) ≤ seg → m ≤ length (words u)
      → Set word word' (end_at seg (tail words seg log) (length (words u)) % (8 * seg)) end_mark → end_at seg (tail words seg log) (length (words u)) / seg ≤ c
      → HoldsLog words seg log c ent word → HasStored words seg log u e m k ent word → HoldsLog words seg log c ent word' × HasStored words seg log u e m 1 ent word'
  marks log u c e m k ent word word' some_word fits within st high a g = let t : ℕ = tail words seg log in let w : ℕ = length (words u) in let n : ℕ = end_at seg t w in let above = start_above seg t w pos in (
    record { segment_starts = a.segment_starts; word_at = λ q x i l. let below = word_below log q x i in st.else (q % (8 * seg)) (free_place seg q n pos (omega arith) (omega arith)) ∙ a.word_at q x i l },
    record {
      segment_starts = g.segment_starts;
      stored = λ j l i. st.else ((start_at seg t w + j) % (8 * seg)) (λ e. let same : start_at seg t w + j ≡ n = one_turn (start_at seg t w + j) n (8 * seg) (omega arith) (omega arith) e in omega arith) ∙ g.stored j l i;
      marked = λ _. st.here;
    },
  )

  -- the last store: the unit enters the log
  pub published : (log : List U) (u : U) (c e : ℕ) (ent word word' : ℕ → ℕ) → AreFit words seg log → 0 < length (words u) → length (words u) ≤ seg
      → Set word word' (tail words seg log % (8 * seg)) (last_word words seg (tail words seg log) u) → c ≡ end_at seg (tail words seg log) (length (words u)) / seg → c < e
      → HoldsLog words seg log c ent word → HasStored words seg log u e (length (words u)) 1 ent word → HoldsLog words seg (log ++ u ∷ []) c ent word'
  published log u c e ent word word' fit some_word fits st level all a g = let t : ℕ = tail words seg log in let w : ℕ = length (words u) in let n : ℕ = end_at seg t w in let above = start_above seg t w pos in
      let two = two_ahead seg t w pos fits in let t_up : t / seg ≤ c = (let z = div_up seg t n pos (omega arith) in omega arith) in
      let q_up : (q : ℕ) → q ≤ n → q / seg ≤ c = λ q l. (let z = div_up seg q n pos l in omega arith) in record {
        segment_starts = λ s p l m i. dite (dec_le s (t / seg))
            (λ old. let there = start_there words seg log s pos fit old in
            let same : Some p ≡ Some there.0 = sym i ∙ (start_push words seg log u s ∙ ap (λ x. option_or x (first_in seg s (start_at seg t w ∷ n ∷ []))) there.1) in
            a.segment_starts s p old m (there.1 ∙ sym same))
            (λ new. let b = tail_push words seg log u in let l' : s ≤ c = subst (λ (z : ℕ). s ≤ z) (ap (λ (z : ℕ). z / seg) b ∙ sym level) l in g.segment_starts s p (omega arith) (omega arith) i);
        word_at = λ q x i m. ⊎_elim
            (λ (h : words_from words seg 0 (log ++ u ∷ []) q ≡ Some x). ⊎_elim
            (λ (k : words_from words seg 0 log q ≡ Some x). let below = body_below 0 log q x k in
            st.else (q % (8 * seg)) (free_place seg q t pos below (omega arith)) ∙ a.word_at q x (ap (λ z. option_or z (if_some (eqb q t) end_mark)) k) m)
            (λ (k : placed_word words seg t u q ≡ Some x). ⊎_elim
            (λ (z : (q ≡ t) × (stays seg t w ≡ false) × (x ≡ wrap_mark)). ap (λ (y : ℕ). word' (y % (8 * seg))) z.0 ∙ (st.here ∙ ((λ b. cond (z.1 b) (get_or (words u) 0 0) wrap_mark) ∙ sym z.2)))
            (λ (z : (start_at seg t w ≤ q) × (q < n) × (x ≡ get_or (words u) (q - start_at seg t w) 0)). let z0 = z.0 in let z1 = z.1 in dite (ℕ_discrete q t)
            (λ e. let near : stays seg t w ≡ true = stays_true t w (omega arith) in let s = start_near t w near in
            ap (λ (y : ℕ). word' (y % (8 * seg))) e ∙ (st.here ∙ ((λ b. cond (near b) (get_or (words u) 0 0) wrap_mark) ∙ sym (z.2 ∙ ap (λ (y : ℕ). get_or (words u) y 0) (omega arith)))))
            (λ ne. let up = q_up q (omega arith) in
            st.else (q % (8 * seg)) (λ e. free_place seg t q pos (omega arith) (omega arith) (sym e))
            ∙ (ap (λ (y : ℕ). word (y % (8 * seg))) (omega arith) ∙ (g.stored (q - start_at seg t w) (first_below t w q (omega arith) z0) (omega arith) ∙ sym z.2))))
            (placed_is t u q x k))
            (or_some (sym (words_push words seg log u q) ∙ h)))
            (λ (h : if_some (eqb q (tail words seg (log ++ u ∷ []))) end_mark ≡ Some x). let f = if_true h in let e : q ≡ n = eqb-true q (tail words seg (log ++ u ∷ [])) f.0 ∙ tail_push words seg log u in
            ap (λ (y : ℕ). word' (y % (8 * seg))) e ∙ (st.else (n % (8 * seg)) (λ e. free_place seg t n pos (omega arith) (omega arith) (sym e)) ∙ (g.marked (omega arith) ∙ f.1)))
            (or_some i);
      }
