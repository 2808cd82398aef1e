-- The steps of a put of a unit, as the code takes them.
use Rattle.std.proofs.Common.{◌≡◌, ◌⊎◌, ℕ, ◌+◌, ◌*◌, ◌/◌, ◌%◌, ◌^◌, ◌<◌, ◌≤◌, [], ◌∷◌, length, get_or, sym, refl, ap, ◌∙◌, subst, ⊎_elim, arith, Some, eq-eqb, ne_eqb}
use mathlib.Core.Logic.{dite}
use mathlib.Core.Option.{none}
use native.Mathlib.Decide.{ℕ_discrete}
use Rattle.atomic_table.specs.Table.{Me, step, Allows}
use Rattle.vsl_record.specs.Unit.{LogUnit}
use Rattle.vsl_record.specs.Words.{IsUnit, unit_words}
use Rattle.ring_layout.specs.declared.shape.Placed.{Placed}
use Rattle.ring_layout.specs.Places.{start_at, end_at, first_in, end_mark}
use Rattle.ring_layout.specs.Content.{first_word, last_word}
use Rattle.ring_layout.specs.inside.Numbers.{entered_number}
use Rattle.ring_layout.proofs.EntriesLemmas.{entered}
use Rattle.ring_layout.proofs.TakenLemmas.{start_above}
use Rattle.ring_layout.proofs.AgreedLemmas.{div_up}
use Rattle.log_ring.specs.declared.rule.RingKey.{RingKey}
use Rattle.log_ring.specs.declared.rule.WriterView.{WriterView}
use Rattle.log_ring.specs.declared.rule.Progress.TheVariants.{Storing, Stored}
use Rattle.log_ring.specs.declared.rule.View.{View}
use Rattle.log_ring.specs.inside.Rule.{HoldsOneLog}
use Rattle.log_ring.specs.inside.Writing.{begun, after_announce, after_start, after_number, after_word, after_mark, after_counting, after_publish, after_release, Makes, LoadsCount}
use Rattle.log_ring.specs.inside.Steps.{IsPlaced, known, starting, started, written, marked, counted, first_of}
use Rattle.log_ring.proofs.TokenLemmas.{releases, withdraws}
use Rattle.log_ring.proofs.StoreLemmas.{starts, writes, ends}
use Rattle.log_ring.proofs.CountLemmas.{loads_count_told, numbers, counts}
use Rattle.log_ring.proofs.PublishLemmas.{announces, publishes}

abbrev size : LogUnit → ℕ
size u = length (unit_words u)

first_is : (seg s start end : ℕ) → (start / seg ≡ s) ⊎ (end / seg ≡ s) → first_in seg s (start ∷ end ∷ []) ≡ Some (first_of s seg start end)
first_is seg s start end there = dite (ℕ_discrete (start / seg) s)
    (λ e. rw (eq-eqb (start / seg) s e) refl)
    (λ ne. ⊎_elim (λ (a : start / seg ≡ s). absurd (ne a)) (λ (b : end / seg ≡ s). rw (ne_eqb (start / seg) s ne, eq-eqb (end / seg) s b) refl) there)

-- where the unit ends in the tail's segment, that is announced as it is
pub same_segment : (seg t : ℕ) (u : LogUnit) (placed : Placed) → 0 < seg → IsPlaced seg t (size u) placed → placed.tail / seg ≤ t / seg → t / seg ≡ end_at seg t (size u) / seg
same_segment seg t u placed pos at low =
    let above = start_above seg t (size u) pos in
    let up = div_up seg t (end_at seg t (size u)) pos (omega arith) in
    let same : placed.tail / seg ≡ end_at seg t (size u) / seg = ap (λ (z : ℕ). z / seg) at.tail in omega arith

module _ (key : RingKey) (seg : ℕ) (is : key.seg ≡ seg) (slots id : ℕ) (t n : ℕ) (u : LogUnit) (placed : Placed) (me : Me ℕ View) where
  pub load_count_allowed : me.0.progress ≡ Storing (begun unit_words seg t u) → Allows (HoldsOneLog unit_words key) slots id me 1 (λ x. x) (LoadsCount (step slots 1 0 0 none) me)
  load_count_allowed progress =
      let q = subst (λ (z : ℕ). me.0.progress ≡ Storing (begun unit_words z t u)) (sym is) progress in
      loads_count_told unit_words key slots id (begun unit_words key.seg t u) me q refl

  pub announce_allowed : (x : ℕ) → me.0.progress ≡ Storing (known seg t n u) → IsPlaced seg t (size u) placed → x ≡ placed.tail / seg → t / seg < x → size u ≤ seg
      → Allows (HoldsOneLog unit_words key) slots id me 8 (λ _. x) (λ _. Makes after_announce (step slots 8 x 0 none) me x)
  announce_allowed x progress at x_is up fits =
      let P : ℕ → Type 0 = λ z. (me.0.progress ≡ Storing (known z t n u)) × IsPlaced z t (size u) placed × (x ≡ placed.tail / z) × (t / z < x) × (size u ≤ z) in
      let q : P key.seg = subst P (sym is) (progress, at, x_is, up, fits) in
      let q3 = q.3 in
      announces unit_words key slots id x (known key.seg t n u) me q.0 (q.2 ∙ ap (λ (z : ℕ). z / key.seg) q.1.tail) (omega arith) q.4

  pub start_allowed : (i s x : ℕ) → 0 < seg → me.0.progress ≡ Storing (starting seg t n u s) → IsPlaced seg t (size u) placed → size u ≤ seg → t / seg < s → s ≤ placed.tail / seg → x ≡ first_of s seg placed.start placed.tail → i ≡ 9 + s % 8
      → Allows (HoldsOneLog unit_words key) slots id me i (λ _. x) (λ _. Makes (λ _. after_start) (step slots i x 0 none) me x)
  start_allowed i s x pos progress at fits above upto x_is i_is =
      let P : ℕ → Type 0 = λ z. (0 < z) × (me.0.progress ≡ Storing (starting z t n u s)) × IsPlaced z t (size u) placed × (size u ≤ z) × (t / z < s) × (s ≤ placed.tail / z) × (x ≡ first_of s z placed.start placed.tail) in
      let q : P key.seg = subst P (sym is) (pos, progress, at, fits, above, upto, x_is) in
      let end_is : placed.tail / key.seg ≡ end_at key.seg t (size u) / key.seg = ap (λ (z : ℕ). z / key.seg) q.2.tail in
      let q5 = q.5 in
      let s_is : first_of s key.seg placed.start placed.tail ≡ first_of s key.seg (start_at key.seg t (size u)) (end_at key.seg t (size u)) = (λ k. first_of s key.seg (q.2.start k) (q.2.tail k)) in
      starts unit_words key slots id i s x (starting key.seg t n u s) me q.0 q.1 refl (omega arith) refl q.4 q.3 i_is
      (first_is key.seg s (start_at key.seg t (size u)) (end_at key.seg t (size u)) (entered key.seg t (size u) s q.0 q.3 q.4 (omega arith)) ∙ ap Some (sym s_is ∙ sym q.6))

  pub number_allowed : (i s x : ℕ) → 0 < seg → me.0.progress ≡ Storing (record (starting seg t n u s) { start = s + 1 }) → IsPlaced seg t (size u) placed → size u ≤ seg → t / seg < s → s ≤ placed.tail / seg → x ≡ entered_number seg n placed.start s → i ≡ 18 + s % 8
      → Allows (HoldsOneLog unit_words key) slots id me i (λ _. x) (λ _. Makes (λ _. after_number) (step slots i x 0 none) me x)
  number_allowed i s x pos progress at fits above upto x_is i_is =
      let P : ℕ → Type 0 = λ z. (0 < z) × (me.0.progress ≡ Storing (record (starting z t n u s) { start = s + 1 })) × IsPlaced z t (size u) placed × (size u ≤ z) × (t / z < s) × (s ≤ placed.tail / z) × (x ≡ entered_number z n placed.start s) in
      let q : P key.seg = subst P (sym is) (pos, progress, at, fits, above, upto, x_is) in
      let end_is : placed.tail / key.seg ≡ end_at key.seg t (size u) / key.seg = ap (λ (z : ℕ). z / key.seg) q.2.tail in
      let q5 = q.5 in
      numbers unit_words key slots id i s x n (record (starting key.seg t n u s) { start = s + 1 }) me q.0 q.1 refl refl (omega arith) refl q.4 q.3 i_is (q.6 ∙ ap (λ (z : ℕ). entered_number key.seg n z s) q.2.start)

  pub word_allowed : (i j x : ℕ) → 0 < seg → me.0.progress ≡ Storing (record (started seg t n u) { word = j }) → IsPlaced seg t (size u) placed → size u ≤ seg → j < size u → first_word unit_words seg t (size u) ≤ j → i ≡ 32 + (placed.start + j) % (8 * seg) → x ≡ get_or (unit_words u) j 0 → x < 2 ^ 32
      → Allows (HoldsOneLog unit_words key) slots id me i (λ _. x) (λ _. Makes (λ _. after_word) (step slots i x 0 none) me x)
  word_allowed i j x pos progress at fits inside behind i_is x_is small =
      let P : ℕ → Type 0 = λ z. (0 < z) × (me.0.progress ≡ Storing (record (started z t n u) { word = j })) × IsPlaced z t (size u) placed × (size u ≤ z) × (first_word unit_words z t (size u) ≤ j) × (i ≡ 32 + (placed.start + j) % (8 * z)) in
      let q : P key.seg = subst P (sym is) (pos, progress, at, fits, behind, i_is) in
      writes unit_words key slots id i j x (record (started key.seg t n u) { word = j }) me q.0 q.1 refl refl refl inside q.3 q.4 (q.5 ∙ ap (λ (z : ℕ). 32 + (z + j) % (8 * key.seg)) q.2.start) x_is small

  pub mark_allowed : (i x : ℕ) → 0 < seg → me.0.progress ≡ Storing (written seg t n u) → IsPlaced seg t (size u) placed → 0 < size u → size u ≤ seg → i ≡ 32 + placed.tail % (8 * seg) → x ≡ end_mark
      → Allows (HoldsOneLog unit_words key) slots id me i (λ _. x) (λ _. Makes (λ _. after_mark) (step slots i x 0 none) me x)
  mark_allowed i x pos progress at some_word fits i_is x_is =
      let P : ℕ → Type 0 = λ z. (0 < z) × (me.0.progress ≡ Storing (written z t n u)) × IsPlaced z t (size u) placed × (size u ≤ z) × (i ≡ 32 + placed.tail % (8 * z)) in
      let q : P key.seg = subst P (sym is) (pos, progress, at, fits, i_is) in
      ends unit_words key slots id i x (written key.seg t n u) me q.0 q.1 refl (omega arith) some_word q.3 (q.4 ∙ ap (λ (z : ℕ). 32 + z % (8 * key.seg)) q.2.tail) x_is

  pub count_allowed : (x : ℕ) → me.0.progress ≡ Storing (marked seg t n u) → x ≡ n + 1
      → Allows (HoldsOneLog unit_words key) slots id me 1 (λ _. x) (λ _. Makes (λ _. after_counting) (step slots 1 x 0 none) me x)
  count_allowed x progress x_is =
      let q = subst (λ (z : ℕ). me.0.progress ≡ Storing (marked z t n u)) (sym is) progress in
      counts unit_words key slots id x n (marked key.seg t n u) me q refl x_is

  pub publish_allowed : (i x : ℕ) (y : WriterView) → 0 < seg → IsUnit u → me.0.progress ≡ Storing (counted seg t n u) → IsPlaced seg t (size u) placed → 0 < size u → size u ≤ seg → me.0.writers ≡ y ∷ [] → me.0.finished ≡ 0 → i ≡ 32 + t % (8 * seg) → x ≡ last_word unit_words seg t u → x < 2 ^ 32
      → Allows (HoldsOneLog unit_words key) slots id me i (λ _. x) (λ _. Makes (λ _. after_publish) (step slots i x 0 none) me x)
  publish_allowed i x y pos unit progress at some_word fits one here i_is x_is small =
      let P : ℕ → Type 0 = λ z. (0 < z) × (me.0.progress ≡ Storing (counted z t n u)) × IsPlaced z t (size u) placed × (size u ≤ z) × (i ≡ 32 + t % (8 * z)) × (x ≡ last_word unit_words z t u) in
      let q : P key.seg = subst P (sym is) (pos, progress, at, fits, i_is, x_is) in
      publishes unit_words key slots id i x (counted key.seg t n u) y me q.0 unit q.1 one here refl (omega arith) (omega arith) refl refl refl some_word q.3 q.2.low q.4 q.5 small

  pub release_allowed : (x : ℕ) → me.0.progress ≡ Stored (counted seg t n u) → IsPlaced seg t (size u) placed → x ≡ placed.tail + 1
      → Allows (HoldsOneLog unit_words key) slots id me 0 (λ _. x) (λ _. Makes (λ _. after_release) (step slots 0 x 0 none) me x)
  release_allowed x progress at x_is =
      let P : ℕ → Type 0 = λ z. (me.0.progress ≡ Stored (counted z t n u)) × IsPlaced z t (size u) placed in
      let q : P key.seg = subst P (sym is) (progress, at) in
      releases unit_words key slots id x (counted key.seg t n u) me q.0 (x_is ∙ ap (λ (z : ℕ). z + 1) q.1.tail)

  pub withdraw_allowed : (x : ℕ) → me.0.progress ≡ Storing (begun unit_words seg t u) → x ≡ t + 1
      → Allows (HoldsOneLog unit_words key) slots id me 0 (λ _. x) (λ _. Makes (λ _. after_release) (step slots 0 x 0 none) me x)
  withdraw_allowed x progress x_is =
      let q = subst (λ (z : ℕ). me.0.progress ≡ Storing (begun unit_words z t u)) (sym is) progress in
      withdraws unit_words key slots id x (begun unit_words key.seg t u) me q refl refl x_is
