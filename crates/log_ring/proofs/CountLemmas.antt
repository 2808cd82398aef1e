-- A writer loads the number of units, stores the numbers of segments, and counts its unit.
use Rattle.std.proofs.Common.{◌≡◌, ℕ, ◌+◌, ◌/◌, ◌%◌, ◌^◌, ◌<◌, ◌≤◌, List, length, get_or, set, sym, refl, ap, ◌∙◌, subst, inl, arith, le_refl, mod-lt, get_or-set_same, get_or-set_other, Some}
use mathlib.Core.Option.{none}
use Rattle.atomic_table.specs.Table.{step, Allows}
use Rattle.vsl_record.specs.Unit.{LogUnit}
use Rattle.ring_layout.specs.Places.{start_at, end_at, tail}
use Rattle.ring_layout.specs.inside.Numbers.{HasNumbered, entered_number}
use Rattle.ring_layout.proofs.AgreedLemmas.{Set}
use Rattle.ring_layout.proofs.NumberLemmas.{units_short}
use Rattle.ring_layout.proofs.NumberedLemmas.{numbered}
use Rattle.log_ring.specs.declared.rule.RingKey.{RingKey}
use Rattle.log_ring.specs.declared.rule.Put.{Put}
use Rattle.log_ring.specs.declared.rule.Progress.TheVariants.{Storing}
use Rattle.log_ring.specs.declared.rule.View.{View}
use Rattle.log_ring.specs.inside.Rule.{SharedState, KnowsToken, HoldsOneLog}
use Rattle.log_ring.specs.inside.Writing.{going_on, after_count, after_number, after_counting, Makes, LoadsCount}
use Rattle.log_ring.proofs.WordLemmas.{ent, num, word, number_set, holds_as, stored_as}
use Rattle.log_ring.proofs.RuleLemmas.{M, storing_free, others_stay, changed, owners_stay, acts}
use Rattle.log_ring.proofs.TokenLemmas.{are_beside}
use Rattle.log_ring.proofs.StoreLemmas.{holds_token, stores, stored_words}

some_is : {x y : ℕ} → Some x ≡ Some y → x ≡ y
some_is e = cc e

module _ (words : LogUnit → List ℕ) (key : RingKey) where
  -- the number of units
  loads_count : (slots id : ℕ) (p : Put) (me : M words key) → me.0.progress ≡ Storing p → p.counted ≡ 0 → Allows (HoldsOneLog words key) slots id me 1 (λ x. x) (Makes after_count (step slots 1 0 0 none) me)
  loads_count slots id p me is uncounted = acts words key slots id 1 me (λ x. x) after_count (λ s r at small.
      let o = r.seats id me.0 at in
      let w = r.shared in
      let a = r.are_words in
      let h = holds_token words key w id me.0 p s.words is a o.token in
      let x : ℕ = get_or s.words 1 0 in
      let count : x ≡ length w.log + p.counted = h.count in
      let p' : Put = record p { units = Some x } in
      let w' : SharedState = record w { progress = Storing p' } in
      let v' : View = after_count x me.0 in
      let now : v'.progress ≡ Storing p' = ap (going_on (λ (q : Put). record q { units = Some x })) is in
      let wide = a.wide in
      changed words key s r w' (set s.words 1 x) id me.0 v' at
      (are_beside words key w w' s.words 1 x (inl (omega arith)) refl refl a (get_or-set_other s.words 1 0 x 0 (λ e. omega arith) ∙ h.token) (get_or-set_other s.words 1 8 x 0 (λ e. omega arith) ∙ a.counter)
      (get_or-set_other s.words 1 17 x 0 (λ e. omega arith) ∙ a.finished) (h.tail, h.counter, h.level, h.start, h.stored) (get_or-set_same s.words 1 x 0 (omega arith) ∙ count)
      (λ n e. let same = some_is e in omega arith, h.numbered))
      r.one_each
      record {
        ring = o.ring;
        put = o.put;
        apart = o.apart;
        token = subst (KnowsToken w'.progress w'.holder id) (sym now) (refl, h.holder);
        found = o.found;
        finished = o.finished;
        idle = λ e. absurd (storing_free (sym is ∙ o.idle e));
        readers = o.readers;
      }
      (others_stay words key w w' id refl record { readers = λ _ q. q; tail = le_refl (tail words key.seg w.log); given = λ k _. refl; before = λ _. sym h.holder; after = λ _. sym h.holder })
      (λ _. r.holder (λ e. storing_free (h.progress ∙ e)))
      (owners_stay words key s r id me.0 v' at (λ k q. q))
      refl refl)

  -- which is at most the last tail
  pub loads_count_told : (slots id : ℕ) (p : Put) (me : M words key) → me.0.progress ≡ Storing p → p.counted ≡ 0 → Allows (HoldsOneLog words key) slots id me 1 (λ x. x) (LoadsCount (step slots 1 0 0 none) me)
  loads_count_told slots id p me is uncounted s r homes at small =
      let t = loads_count slots id p me is uncounted s r homes at small in
      let a = r.are_words in
      let h = holds_token words key r.shared id me.0 p s.words is a (r.seats id me.0 at).token in
      let short = units_short words key.seg (let l = r.segment.0 in omega arith) 0 r.shared.log a.fit in
      let low = a.low in
      let count = h.count in (t.0, t.1, t.2, t.3, (t.4, omega arith))

  -- the number of a segment's first unit
  pub numbers : (slots id i s x n : ℕ) (p : Put) (me : M words key) → 0 < key.seg → me.0.progress ≡ Storing p → p.units ≡ Some n → s ≡ p.numbered → s ≤ p.counter → p.counter ≡ end_at key.seg p.tail (length (words p.unit)) / key.seg → p.tail / key.seg < s
      → length (words p.unit) ≤ key.seg → i ≡ 18 + s % 8 → x ≡ entered_number key.seg n (start_at key.seg p.tail (length (words p.unit))) s
      → Allows (HoldsOneLog words key) slots id me i (λ _. x) (λ _. Makes (λ _. after_number) (step slots i x 0 none) me x)
  numbers slots id i s x n p me pos is known next upto new above fits at x_is = stores words key slots id i x p (record p { numbered = p.numbered + 1 }) (λ q. record q { numbered = q.numbered + 1 }) me is refl refl refl (λ w ws h a.
      let seg : ℕ = key.seg in
      let low : s % 8 < 8 = mod-lt s (omega arith) in
      let wide = a.wide in
      let t_is = h.tail in
      let c_is = h.counter in
      let count = h.units n known in
      let put_in : Set (num ws) (num (set ws i x)) (s % 8) x = subst (λ (z : ℕ). Set (num ws) (num (set ws z x)) (s % 8) x) (sym at) (number_set ws (s % 8) x low (omega arith)) in
      let ents : (j : ℕ) → j < 8 → ent (set ws i x) j ≡ ent ws j = λ j l. get_or-set_other ws i (9 + j) x 0 (λ e. omega arith) in
      let same : (j : ℕ) → word (set ws i x) j ≡ word ws j = λ j. get_or-set_other ws i (32 + j) x 0 (λ e. omega arith) in
      let above' : tail words seg w.log / seg < s = subst (λ (z : ℕ). z / seg < s) t_is above in
      let level : w.counter ≡ end_at seg (tail words seg w.log) (length (words p.unit)) / seg = sym c_is ∙ (new ∙ ap (λ (z : ℕ). end_at seg z (length (words p.unit)) / seg) t_is) in
      let x_is' : x ≡ entered_number seg (length w.log) (start_at seg (tail words seg w.log) (length (words p.unit))) s = x_is ∙ (λ k. entered_number seg (count k) (start_at seg (t_is k) (length (words p.unit))) s) in
      let both = numbered words seg pos w.log p.unit w.counter s x p.numbered (num ws) (num (set ws i x)) a.fit fits put_in above' (omega arith) level (sym next) x_is' a.numbers h.numbered in
      stored_words words key w id i x p (record p { numbered = p.numbered + 1 }) ws (omega arith) (λ e. omega arith) h a
      (holds_as words seg w.log w.counter (ent ws) (ent (set ws i x)) (word ws) (word (set ws i x)) ents same a.holds)
      (h.tail, h.counter, h.level, h.start, stored_as words seg w.log p.unit p.start p.word p.mark (ent ws) (ent (set ws i x)) (word ws) (word (set ws i x)) ents same h.stored)
      (λ j. subst (λ (y : ℕ). y < 2 ^ 32) (sym (same j)) (a.narrow j))
      refl both.0 (h.units, subst (λ (z : ℕ). HasNumbered words seg w.log p.unit (z + 1) (num (set ws i x))) next both.1))

  -- the unit is counted
  pub counts : (slots id x n : ℕ) (p : Put) (me : M words key) → me.0.progress ≡ Storing p → p.units ≡ Some n → x ≡ n + 1
      → Allows (HoldsOneLog words key) slots id me 1 (λ _. x) (λ _. Makes (λ _. after_counting) (step slots 1 x 0 none) me x)
  counts slots id x n p me is known x_is = stores words key slots id 1 x p (record p { counted = 1 }) (λ q. record q { counted = 1 }) me is refl refl refl (λ w ws h a.
      let wide = a.wide in
      let count = h.units n known in
      are_beside words key w (record w { progress = Storing (record p { counted = 1 }) }) ws 1 x (inl (omega arith)) refl refl a (get_or-set_other ws 1 0 x 0 (λ e. omega arith) ∙ h.token)
      (get_or-set_other ws 1 8 x 0 (λ e. omega arith) ∙ a.counter) (get_or-set_other ws 1 17 x 0 (λ e. omega arith) ∙ a.finished) (h.tail, h.counter, h.level, h.start, h.stored)
      (get_or-set_same ws 1 x 0 (omega arith) ∙ omega arith) (h.units, h.numbered))
