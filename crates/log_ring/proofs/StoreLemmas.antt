-- The stores of a writer that has the write token.
use Rattle.std.proofs.Common.{◌≡◌, ◌≢◌, ◌⊎◌, ℕ, ◌+◌, ◌*◌, ◌/◌, ◌%◌, ◌^◌, ◌<◌, ◌≤◌, List, [], ◌∷◌, length, get_or, set, sym, refl, ap, ◌∙◌, subst, arith, le_refl, mod-lt, length-set, get_or-set_same, get_or-set_other, Some}
use mathlib.Core.Logic.{dite}
use mathlib.Core.Option.{none}
use native.Mathlib.Decide.{ℕ_discrete}
use Rattle.atomic_table.specs.Table.{step, Allows}
use Rattle.vsl_record.specs.Unit.{LogUnit}
use Rattle.ring_layout.specs.Places.{start_at, end_at, first_in, tail, end_mark}
use Rattle.ring_layout.specs.Content.{HoldsLog, HoldsNumbers, HasStored, first_word}
use Rattle.ring_layout.specs.inside.Numbers.{HasNumbered}
use Rattle.ring_layout.proofs.EntriesLemmas.{two_ahead}
use Rattle.ring_layout.proofs.AgreedLemmas.{Set, offset, written, marks}
use Rattle.ring_layout.proofs.StartLemmas.{start_entered}
use Rattle.log_ring.specs.declared.rule.RingKey.{RingKey}
use Rattle.log_ring.specs.declared.rule.Put.{Put}
use Rattle.log_ring.specs.declared.rule.Progress.{Progress}
use Rattle.log_ring.specs.declared.rule.Progress.TheVariants.{Storing}
use Rattle.log_ring.specs.declared.rule.View.{View}
use Rattle.log_ring.specs.inside.Rule.{SharedState, KnowsToken, IsToken, IsCount, IsUnderWay, IsNumbering, AreWords, HoldsOneLog}
use Rattle.log_ring.specs.inside.Writing.{going_on, after_start, after_word, after_mark, Makes}
use Rattle.log_ring.proofs.WordLemmas.{ent, num, word, start_set, word_set, holds_as, numbers_as, numbering_as, stored_as}
use Rattle.log_ring.proofs.RuleLemmas.{M, storing_free, others_stay, changed, owners_stay, acts}

module _ (words : LogUnit → List ℕ) (key : RingKey) where
  -- what the rule says of a put whose writer the seat is
  pub record IsHolder (w : SharedState) (id : ℕ) (p : Put) (ws : List ℕ) : Type 0 where
    pub progress : Storing p ≡ w.progress
    pub holder : id ≡ w.holder
    pub token : get_or ws 0 0 ≡ 0
    pub tail : p.tail ≡ tail words key.seg w.log
    pub counter : p.counter ≡ w.counter
    pub level : (w.counter ≡ p.tail / key.seg) ⊎ ((w.counter ≡ end_at key.seg p.tail (length (words p.unit)) / key.seg) × (w.counter ≤ p.tail / key.seg + 2))
    pub start : p.start ≤ w.counter + 1
    pub stored : HasStored words key.seg w.log p.unit p.start p.word p.mark (ent ws) (word ws)
    pub count : get_or ws 1 0 ≡ length w.log + p.counted
    pub units : (n : ℕ) → p.units ≡ Some n → n ≡ length w.log
    pub numbered : HasNumbered words key.seg w.log p.unit p.numbered (num ws)

  pub holds_token : (w : SharedState) (id : ℕ) (v : View) (p : Put) (ws : List ℕ) → v.progress ≡ Storing p → AreWords words key.seg w ws → KnowsToken w.progress w.holder id v.progress → IsHolder w id p ws
  holds_token w id v p ws is a token =
      let h : KnowsToken w.progress w.holder id (Storing p) = subst (KnowsToken w.progress w.holder id) is token in
      let way = subst (λ (z : Progress). IsUnderWay words key.seg w.log w.counter z (ent ws) (word ws)) (sym h.0) a.under_way in
      let numbering = subst (λ (z : Progress). IsNumbering words key.seg w.log z (num ws)) (sym h.0) a.numbering in
      record {
        progress = h.0;
        holder = h.1;
        token = subst (λ (z : Progress). IsToken words key.seg w.log z (get_or ws 0 0)) (sym h.0) a.token;
        tail = way.0;
        counter = way.1;
        level = way.2;
        start = way.3;
        stored = way.4;
        count = subst (λ (z : Progress). IsCount words w.log z (get_or ws 1 0)) (sym h.0) a.count;
        units = numbering.0;
        numbered = numbering.1;
      }

  -- a store of the holder that leaves the log, the counter and the number of finished writers, and takes the put to p'
  pub stores : (slots id i x : ℕ) (p p' : Put) (f : Put → Put) (me : M words key) → me.0.progress ≡ Storing p → f p ≡ p' → p'.tail ≡ p.tail → p'.unit ≡ p.unit
      → ((w : SharedState) (ws : List ℕ) → IsHolder w id p ws → AreWords words key.seg w ws → AreWords words key.seg (record w { progress = Storing p' }) (set ws i x))
      → Allows (HoldsOneLog words key) slots id me i (λ _. x) (λ _. Makes (λ _ (v : View). record v { progress = going_on f v.progress }) (step slots i x 0 none) me x)
  stores slots id i x p p' f me is to tails units keep = acts words key slots id i me (λ _. x) (λ _ (v : View). record v { progress = going_on f v.progress }) (λ s r at small.
      let o = r.seats id me.0 at in
      let w = r.shared in
      let h = holds_token w id me.0 p s.words is r.are_words o.token in
      let w' : SharedState = record w { progress = Storing p' } in
      let v' : View = record me.0 { progress = going_on f me.0.progress } in
      let now : v'.progress ≡ Storing p' = ap (going_on f) is ∙ ap Storing to in
      changed words key s r w' (set s.words i x) id me.0 v' at (keep w s.words h r.are_words) r.one_each
      record {
        ring = o.ring;
        put = o.put;
        apart = o.apart;
        token = subst (KnowsToken w'.progress w'.holder id) (sym now) (refl, h.holder);
        found = o.found;
        finished = o.finished;
        idle = λ e. absurd (storing_free (sym is ∙ o.idle e));
        readers = o.readers;
      }
      (others_stay words key w w' id refl record { readers = λ _ q. q; tail = le_refl (tail words key.seg w.log); given = λ k _. refl; before = λ _. sym h.holder; after = λ _. sym h.holder })
      (λ _. r.holder (λ e. storing_free (h.progress ∙ e)))
      (owners_stay words key s r id me.0 v' at (λ k q. q))
      refl refl)

  -- the words of the table where a start or a ring's word is stored
  pub stored_words : (w : SharedState) (id i x : ℕ) (p p' : Put) (ws : List ℕ) → 9 ≤ i → i ≢ 17 → IsHolder w id p ws → AreWords words key.seg w ws
      → HoldsLog words key.seg w.log w.counter (ent (set ws i x)) (word (set ws i x)) → IsUnderWay words key.seg w.log w.counter (Storing p') (ent (set ws i x)) (word (set ws i x)) → ((j : ℕ) → word (set ws i x) j < 2 ^ 32)
      → p'.counted ≡ p.counted → HoldsNumbers words key.seg w.log w.counter (num (set ws i x)) → IsNumbering words key.seg w.log (Storing p') (num (set ws i x))
      → AreWords words key.seg (record w { progress = Storing p' }) (set ws i x)
  stored_words w id i x p p' ws above other h a holds way narrow counted numbers numbering = record {
    wide = length-set ws i x ∙ a.wide;
    token = get_or-set_other ws i 0 x 0 (λ e. omega arith) ∙ h.token;
    counter = get_or-set_other ws i 8 x 0 (λ e. omega arith) ∙ a.counter;
    finished = get_or-set_other ws i 17 x 0 (λ e. other (sym e)) ∙ a.finished;
    holds = holds;
    under_way = way;
    count = get_or-set_other ws i 1 x 0 (λ e. omega arith) ∙ (h.count ∙ ap (λ (z : ℕ). length w.log + z) (sym counted));
    numbers = numbers;
    numbering = numbering;
    narrow = narrow;
    fit = a.fit;
    units = a.units;
    low = a.low;
  }

  -- the numbers of segments, where a start or a ring's word is stored
  numbers_kept : (w : SharedState) (id i x : ℕ) (p : Put) (ws : List ℕ) → ((j : ℕ) → j < 8 → num (set ws i x) j ≡ num ws j) → IsHolder w id p ws → AreWords words key.seg w ws
      → HoldsNumbers words key.seg w.log w.counter (num (set ws i x)) × IsNumbering words key.seg w.log (Storing p) (num (set ws i x))
  numbers_kept w id i x p ws same h a = (numbers_as words key.seg w.log w.counter (num ws) (num (set ws i x)) same a.numbers, numbering_as words key.seg w.log (Storing p) (num ws) (num (set ws i x)) same (h.units, h.numbered))

  -- the start of a segment
  pub starts : (slots id i s x : ℕ) (p : Put) (me : M words key) → 0 < key.seg → me.0.progress ≡ Storing p → s ≡ p.start → s ≤ p.counter → p.counter ≡ end_at key.seg p.tail (length (words p.unit)) / key.seg → p.tail / key.seg < s
      → length (words p.unit) ≤ key.seg → i ≡ 9 + s % 8 → first_in key.seg s (start_at key.seg p.tail (length (words p.unit)) ∷ end_at key.seg p.tail (length (words p.unit)) ∷ []) ≡ Some x
      → Allows (HoldsOneLog words key) slots id me i (λ _. x) (λ _. Makes (λ _. after_start) (step slots i x 0 none) me x)
  starts slots id i s x p me pos is next upto new above fits at first = stores slots id i x p (record p { start = p.start + 1 }) (λ q. record q { start = q.start + 1 }) me is refl refl refl (λ w ws h a.
      let seg : ℕ = key.seg in
      let low : s % 8 < 8 = mod-lt s (omega arith) in
      let wide = a.wide in
      let t_is = h.tail in
      let c_is = h.counter in
      let two = two_ahead seg p.tail (length (words p.unit)) pos fits in
      let put_in : Set (ent ws) (ent (set ws i x)) (s % 8) x = subst (λ (z : ℕ). Set (ent ws) (ent (set ws z x)) (s % 8) x) (sym at) (start_set ws (s % 8) x low (omega arith)) in
      let same : (j : ℕ) → word (set ws i x) j ≡ word ws j = λ j. get_or-set_other ws i (32 + j) x 0 (λ e. omega arith) in
      let kept = numbers_kept w id i x p ws (λ j l. get_or-set_other ws i (18 + j) x 0 (λ e. omega arith)) h a in
      let there = start_entered words seg pos w.log p.unit s x (subst (λ (z : ℕ). z / seg < s) t_is above) (subst (λ (z : ℕ). first_in seg s (start_at seg z (length (words p.unit)) ∷ end_at seg z (length (words p.unit)) ∷ []) ≡ Some x) t_is first) in
      let above' : tail words seg w.log / seg < s = subst (λ (z : ℕ). z / seg < s) t_is above in
      let two' : w.counter < tail words seg w.log / seg + 9 = (let q : p.tail / seg ≡ tail words seg w.log / seg = ap (λ (z : ℕ). z / seg) t_is in omega arith) in
      let both = offset words seg pos w.log p.unit w.counter s x p.start p.word p.mark (ent ws) (ent (set ws i x)) (word ws) put_in above' (omega arith) two' (sym next) there a.holds h.stored in
      stored_words w id i x p (record p { start = p.start + 1 }) ws (omega arith) (λ e. omega arith) h a
      (holds_as words seg w.log w.counter (ent (set ws i x)) (ent (set ws i x)) (word ws) (word (set ws i x)) (λ j _. refl) same both.0)
      (h.tail, h.counter, h.level, omega arith, stored_as words seg w.log p.unit (p.start + 1) p.word p.mark (ent (set ws i x)) (ent (set ws i x)) (word ws) (word (set ws i x)) (λ j _. refl) same (subst (λ (z : ℕ). HasStored words seg w.log p.unit (z + 1) p.word p.mark (ent (set ws i x)) (word ws)) next both.1))
      (λ j. subst (λ (y : ℕ). y < 2 ^ 32) (sym (same j)) (a.narrow j)) refl kept.0 kept.1)

  -- ring words below 2^32 stay so
  pub narrow_set : (ws : List ℕ) (i x : ℕ) → x < 2 ^ 32 → 32 + i < length ws → ((j : ℕ) → word ws j < 2 ^ 32) → (j : ℕ) → word (set ws (32 + i) x) j < 2 ^ 32
  narrow_set ws i x small inside all j = dite (ℕ_discrete j i)
      (λ e. subst (λ (z : ℕ). word (set ws (32 + i) x) z < 2 ^ 32) (sym e) (subst (λ (y : ℕ). y < 2 ^ 32) (sym (get_or-set_same ws (32 + i) x 0 inside)) small))
      (λ ne. subst (λ (y : ℕ). y < 2 ^ 32) (sym (get_or-set_other ws (32 + i) (32 + j) x 0 (λ e. ne (omega arith)))) (all j))

  -- another word of the unit
  pub writes : (slots id i j x : ℕ) (p : Put) (me : M words key) → 0 < key.seg → me.0.progress ≡ Storing p → p.counter ≡ end_at key.seg p.tail (length (words p.unit)) / key.seg → j ≡ p.word → p.mark ≡ 0
      → j < length (words p.unit) → length (words p.unit) ≤ key.seg → first_word words key.seg p.tail (length (words p.unit)) ≤ j → i ≡ 32 + (start_at key.seg p.tail (length (words p.unit)) + j) % (8 * key.seg) → x ≡ get_or (words p.unit) j 0 → x < 2 ^ 32
      → Allows (HoldsOneLog words key) slots id me i (λ _. x) (λ _. Makes (λ _. after_word) (step slots i x 0 none) me x)
  writes slots id i j x p me pos is new next unmarked inside fits from at x_is small = stores slots id i x p (record p { word = p.word + 1 }) (λ q. record q { word = q.word + 1 }) me is refl refl refl (λ w ws h a.
      let seg : ℕ = key.seg in
      let t_is = h.tail in
      let wide = a.wide in
      let c_is = h.counter in
      let q : ℕ = (start_at seg p.tail (length (words p.unit)) + j) % (8 * seg) in
      let low : q < 8 * seg = mod-lt (start_at seg p.tail (length (words p.unit)) + j) (omega arith) in
      let put_in : Set (word ws) (word (set ws i x)) q x = subst (λ (z : ℕ). Set (word ws) (word (set ws z x)) q x) (sym at) (word_set ws q x (omega arith)) in
      let put_in' = subst (λ (z : ℕ × ℕ). Set (word ws) (word (set ws i x)) ((start_at seg z.0 (length (words p.unit)) + j) % (8 * seg)) z.1) (λ k. (t_is k, x_is k)) put_in in
      let same : (k : ℕ) → k < 8 → ent (set ws i x) k ≡ ent ws k = λ k l. get_or-set_other ws i (9 + k) x 0 (λ e. omega arith) in
      let kept = numbers_kept w id i x p ws (λ k l. get_or-set_other ws i (18 + k) x 0 (λ e. omega arith)) h a in
      let high : end_at seg (tail words seg w.log) (length (words p.unit)) / seg ≤ w.counter = subst (λ (z : ℕ). end_at seg z (length (words p.unit)) / seg ≤ w.counter) t_is (omega arith) in
      let g : HasStored words seg w.log p.unit p.start j 0 (ent ws) (word ws) = subst (λ (z : ℕ × ℕ). HasStored words seg w.log p.unit p.start z.0 z.1 (ent ws) (word ws)) (λ k. (sym next k, unmarked k)) h.stored in
      let both = written words seg pos w.log p.unit w.counter p.start j 0 (ent ws) (word ws) (word (set ws i x)) inside fits (subst (λ (z : ℕ). first_word words seg z (length (words p.unit)) ≤ j) t_is from) put_in' high a.holds g in
      stored_words w id i x p (record p { word = p.word + 1 }) ws (omega arith) (λ e. omega arith) h a
      (holds_as words seg w.log w.counter (ent ws) (ent (set ws i x)) (word (set ws i x)) (word (set ws i x)) same (λ _. refl) both.0) (
        h.tail,
        h.counter,
        h.level,
        h.start,
        stored_as words seg w.log p.unit p.start (p.word + 1) p.mark (ent ws) (ent (set ws i x)) (word (set ws i x)) (word (set ws i x)) same (λ _. refl)
            (subst (λ (z : ℕ × ℕ). HasStored words seg w.log p.unit p.start (z.0 + 1) z.1 (ent ws) (word (set ws i x))) (λ k. (next k, sym unmarked k)) both.1),
      )
      (subst (λ (z : ℕ). (k : ℕ) → word (set ws z x) k < 2 ^ 32) (sym at) (narrow_set ws q x small (omega arith) a.narrow)) refl kept.0 kept.1)

  -- the end mark
  pub ends : (slots id i x : ℕ) (p : Put) (me : M words key) → 0 < key.seg → me.0.progress ≡ Storing p → p.counter ≡ end_at key.seg p.tail (length (words p.unit)) / key.seg → p.word ≤ length (words p.unit)
      → 0 < length (words p.unit) → length (words p.unit) ≤ key.seg → i ≡ 32 + end_at key.seg p.tail (length (words p.unit)) % (8 * key.seg) → x ≡ end_mark
      → Allows (HoldsOneLog words key) slots id me i (λ _. x) (λ _. Makes (λ _. after_mark) (step slots i x 0 none) me x)
  ends slots id i x p me pos is new within some_word fits at x_is = stores slots id i x p (record p { mark = 1 }) (λ q. record q { mark = 1 }) me is refl refl refl (λ w ws h a.
      let seg : ℕ = key.seg in
      let t_is = h.tail in
      let wide = a.wide in
      let c_is = h.counter in
      let q : ℕ = end_at seg p.tail (length (words p.unit)) % (8 * seg) in
      let low : q < 8 * seg = mod-lt (end_at seg p.tail (length (words p.unit))) (omega arith) in
      let put_in : Set (word ws) (word (set ws i x)) q x = subst (λ (z : ℕ). Set (word ws) (word (set ws z x)) q x) (sym at) (word_set ws q x (omega arith)) in
      let put_in' = subst (λ (z : ℕ × ℕ). Set (word ws) (word (set ws i x)) (end_at seg z.0 (length (words p.unit)) % (8 * seg)) z.1) (λ k. (t_is k, x_is k)) put_in in
      let same : (k : ℕ) → k < 8 → ent (set ws i x) k ≡ ent ws k = λ k l. get_or-set_other ws i (9 + k) x 0 (λ e. omega arith) in
      let kept = numbers_kept w id i x p ws (λ k l. get_or-set_other ws i (18 + k) x 0 (λ e. omega arith)) h a in
      let high : end_at seg (tail words seg w.log) (length (words p.unit)) / seg ≤ w.counter = subst (λ (z : ℕ). end_at seg z (length (words p.unit)) / seg ≤ w.counter) t_is (omega arith) in
      let both = marks words seg pos w.log p.unit w.counter p.start p.word p.mark (ent ws) (word ws) (word (set ws i x)) some_word fits within put_in' high a.holds h.stored in
      stored_words w id i x p (record p { mark = 1 }) ws (omega arith) (λ e. omega arith) h a
      (holds_as words seg w.log w.counter (ent ws) (ent (set ws i x)) (word (set ws i x)) (word (set ws i x)) same (λ _. refl) both.0)
      (h.tail, h.counter, h.level, h.start, stored_as words seg w.log p.unit p.start p.word 1 (ent ws) (ent (set ws i x)) (word (set ws i x)) (word (set ws i x)) same (λ _. refl) both.1)
      (subst (λ (z : ℕ). (k : ℕ) → word (set ws z x) k < 2 ^ 32) (sym at) (narrow_set ws q x (omega arith) (omega arith) a.narrow)) refl kept.0 kept.1)
