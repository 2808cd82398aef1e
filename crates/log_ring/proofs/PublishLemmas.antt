-- A writer announces a segment, its unit enters the log, and it leaves.
use Rattle.std.proofs.Common.{◌≡◌, ℕ, ◌+◌, ◌*◌, ◌/◌, ◌%◌, ◌^◌, ◌<◌, ◌≤◌, List, [], ◌∷◌, ◌++◌, length, get_or, set, sym, refl, ap, ◌∙◌, subst, ⊎_elim, inl, inr, arith, le_refl, le_trans, mod-lt, mod-eq_of_lt, length-set, length-append, get_or-set_same, get_or-set_other}
use mathlib.Core.Option.{some, none}
use lib.ListN.{get_elem?}
use Rattle.atomic_table.specs.Table.{step, Allows}
use Rattle.atomic_table.proofs.Lists.{set_here}
use Rattle.vsl_record.specs.Unit.{LogUnit, Log}
use Rattle.vsl_record.specs.Words.{IsUnit}
use Rattle.ring_layout.specs.Places.{IsSegment, last_tail, end_at, tail, AreFit}
use Rattle.ring_layout.specs.Content.{HasStored, last_word}
use Rattle.ring_layout.proofs.PushLemmas.{tail_push}
use Rattle.ring_layout.proofs.EntriesLemmas.{two_ahead}
use Rattle.ring_layout.proofs.TakenLemmas.{start_above}
use Rattle.ring_layout.proofs.AgreedLemmas.{Set, announced, published}
use Rattle.ring_layout.proofs.NumberedLemmas.{numbers_published}
use Rattle.log_ring.specs.declared.rule.RingKey.{RingKey}
use Rattle.log_ring.specs.declared.rule.WriterView.{WriterView}
use Rattle.log_ring.specs.declared.rule.Put.{Put}
use Rattle.log_ring.specs.declared.rule.Progress.TheVariants.{Free, Storing, Stored}
use Rattle.log_ring.specs.declared.rule.View.{View}
use Rattle.log_ring.specs.inside.Rule.{SharedState, KnowsToken, IsToken, IsCount, PutAll, AreApart, IsReader, HoldsOneLog, finished_of, writers_of, HasNumber, IsSeated}
use Rattle.log_ring.specs.inside.Writing.{going_on, with_stored, with_entry, after_announce, after_publish, after_leave, Makes}
use Rattle.log_model.proofs.SumLemmas.{sums_lt}
use Rattle.log_ring.proofs.SeatLemmas.{all_map, all_push, inside_at}
use Rattle.log_ring.proofs.EntryLemmas.{entry_here, entry_else}
use Rattle.log_ring.proofs.WordLemmas.{ent, num, word, beside, word_set, holds_as, numbers_as, numbering_as, stored_as}
use Rattle.log_ring.proofs.ReaderLemmas.{reader_higher, reader_longer}
use Rattle.log_ring.proofs.RuleLemmas.{M, St, storing_free, others_stay, changed, owners_stay, acts}
use Rattle.log_ring.proofs.TokenLemmas.{are_beside}
use Rattle.log_ring.proofs.StoreLemmas.{holds_token, narrow_set}

positive : (key : RingKey) → IsSegment key.seg → 0 < key.seg
positive key h = let low = h.0 in omega arith

module _ (words : LogUnit → List ℕ) (key : RingKey) where
  -- the counter
  pub announces : (slots id x : ℕ) (p : Put) (me : M words key) → me.0.progress ≡ Storing p → x ≡ end_at key.seg p.tail (length (words p.unit)) / key.seg → p.counter ≤ x → length (words p.unit) ≤ key.seg
      → Allows (HoldsOneLog words key) slots id me 8 (λ _. x) (λ _. Makes after_announce (step slots 8 x 0 none) me x)
  announces slots id x p me is new up fits = acts words key slots id 8 me (λ _. x) (λ _. after_announce x) (λ s r at small.
      let o = r.seats id me.0 at in
      let w = r.shared in
      let a = r.are_words in
      let h = holds_token words key w id me.0 p s.words is a o.token in
      let c_is = h.counter in
      let p' : Put = record p { counter = x } in
      let w' : SharedState = record w { progress = Storing p'; counter = x } in
      let v' : View = after_announce x me.0 in
      let now : v'.progress ≡ Storing p' = ap (going_on (λ (q : Put). record q { counter = x })) is in
      let same = beside s.words 8 x (inl (omega arith)) in
      let wide = a.wide in
      let higher = reader_higher words key w.log w.counter x w.finished w.finished (omega arith) (le_refl w.finished) in
      changed words key s r w' (set s.words 8 x) id me.0 v' at
      record {
        wide = length-set s.words 8 x ∙ a.wide;
        token = get_or-set_other s.words 8 0 x 0 (λ e. omega arith) ∙ h.token;
        counter = get_or-set_same s.words 8 x 0 (omega arith);
        finished = get_or-set_other s.words 8 17 x 0 (λ e. omega arith) ∙ a.finished;
        holds = holds_as words key.seg w.log x (ent s.words) (ent (set s.words 8 x)) (word s.words) (word (set s.words 8 x)) same.ents same.words (announced words key.seg (positive key r.segment) w.log w.counter x (ent s.words) (word s.words) (omega arith) a.holds);
        under_way = (h.tail, refl, inr (new, let two = two_ahead key.seg p.tail (length (words p.unit)) (positive key r.segment) fits in omega arith), let low = h.start in omega arith, stored_as words key.seg w.log p.unit p.start p.word p.mark (ent s.words) (ent (set s.words 8 x)) (word s.words) (word (set s.words 8 x)) same.ents same.words h.stored);
        count = get_or-set_other s.words 8 1 x 0 (λ e. omega arith) ∙ h.count;
        numbers = λ j l m. same.nums (j % 8) (mod-lt j (omega arith)) ∙ a.numbers j l (omega arith);
        numbering = numbering_as words key.seg w.log (Storing p) (num s.words) (num (set s.words 8 x)) same.nums (h.units, h.numbered);
        narrow = λ j. subst (λ (y : ℕ). y < 2 ^ 32) (sym (same.words j)) (a.narrow j);
        fit = a.fit;
        units = a.units;
        low = a.low;
      }
      r.one_each
      record {
        ring = o.ring;
        put = o.put;
        apart = o.apart;
        token = subst (KnowsToken w'.progress w'.holder id) (sym now) (refl, h.holder);
        found = o.found;
        finished = o.finished;
        idle = λ e. absurd (storing_free (sym is ∙ o.idle e));
        readers = all_map (IsReader words key w.log w.counter w.finished) (IsReader words key w.log x w.finished) me.0.readers higher o.readers;
      }
      (others_stay words key w w' id refl record { readers = higher; tail = le_refl (tail words key.seg w.log); given = λ k _. refl; before = λ _. sym h.holder; after = λ _. sym h.holder })
      (λ _. r.holder (λ e. storing_free (h.progress ∙ e)))
      (owners_stay words key s r id me.0 v' at (λ k q. q))
      refl refl)

  fit_push : (seg : ℕ) (log : Log) (u : LogUnit) → AreFit words seg log → 0 < length (words u) → length (words u) ≤ seg → AreFit words seg (log ++ u ∷ [])
  fit_push seg [] u fit l m = ((l, m), tt)
  fit_push seg (x ∷ log) u fit l m = (fit.0, fit_push seg log u fit.1 l m)

  -- a writer that is there and didn't leave is one more than those that left
  pub not_all_left : (s : St words key) (r : HoldsOneLog words key s) (id : ℕ) (v : View) → get_elem? s.views id ≡ some v → v.finished < length v.writers → r.shared.finished < key.writers
  not_all_left s r id v at less =
      let few = sums_lt finished_of writers_of s.views id v at (omega arith) (λ j u e. (r.seats j u e).finished) in
      let all = r.writers in
      let finished_seen = r.finished in
      omega arith

  -- the word at the old tail: the unit enters the log
  pub publishes : (slots id i x : ℕ) (p : Put) (y : WriterView) (me : M words key) → 0 < key.seg → IsUnit p.unit → me.0.progress ≡ Storing p → me.0.writers ≡ y ∷ [] → me.0.finished ≡ 0
      → p.counter ≡ end_at key.seg p.tail (length (words p.unit)) / key.seg → p.counter < p.start → p.counter < p.numbered → p.word ≡ length (words p.unit) → p.mark ≡ 1 → p.counted ≡ 1
      → 0 < length (words p.unit) → length (words p.unit) ≤ key.seg → end_at key.seg p.tail (length (words p.unit)) ≤ last_tail → i ≡ 32 + p.tail % (8 * key.seg) → x ≡ last_word words key.seg p.tail p.unit → x < 2 ^ 32
      → Allows (HoldsOneLog words key) slots id me i (λ _. x) (λ _. Makes (λ _. after_publish) (step slots i x 0 none) me x)
  publishes slots id i x p y me pos unit is one here new all every whole marked counted some_word fits upto at x_is small = acts words key slots id i me (λ _. x) (λ _. after_publish) (λ s r there tiny.
      let seg : ℕ = key.seg in
      let o = r.seats id me.0 there in
      let w = r.shared in
      let a = r.are_words in
      let h = holds_token words key w id me.0 p s.words is a o.token in
      let u : LogUnit = p.unit in
      let n : ℕ = length (words u) in
      let t : ℕ = tail words seg w.log in
      let t_is : p.tail ≡ t = h.tail in
      let c_is = h.counter in
      let ws : List ℕ = s.words in
      let wide = a.wide in
      let log' : Log = w.log ++ u ∷ [] in
      let w' : SharedState = record w { log = log'; owners = w.owners ++ y.number ∷ []; progress = Stored p } in
      let v' : View = after_publish me.0 in
      let y' : WriterView = record y { entries = y.entries ++ (p.tail, u) ∷ [] } in
      let shares_are : v'.writers ≡ y' ∷ [] = (λ k. with_entry (is k) (one k)) in
      let progress_is : v'.progress ≡ Stored p = ap with_stored is in
      let long : length v'.writers ≡ 1 = ap (λ (l : List WriterView). length l) shares_are in
      let long_before : length me.0.writers ≡ 1 = ap (λ (l : List WriterView). length l) one in
      let sh : PutAll words seg w.log w.owners w.seat id (y ∷ []) = subst (PutAll words seg w.log w.owners w.seat id) one o.put in
      let q : ℕ = p.tail % (8 * seg) in
      let low : q < 8 * seg = mod-lt p.tail (omega arith) in
      let put_in : Set (word ws) (word (set ws i x)) q x = subst (λ (z : ℕ). Set (word ws) (word (set ws z x)) q x) (sym at) (word_set ws q x (omega arith)) in
      let put_in' = subst (λ (z : ℕ × ℕ). Set (word ws) (word (set ws i x)) (z.0 % (8 * seg)) z.1) (λ k. (t_is k, (x_is ∙ ap (λ (z : ℕ). last_word words seg z u) t_is) k)) put_in in
      let same : (k : ℕ) → k < 8 → ent (set ws i x) k ≡ ent ws k = λ k l. get_or-set_other ws i (9 + k) x 0 (λ e. omega arith) in
      let level : w.counter ≡ end_at seg t n / seg = sym c_is ∙ (new ∙ ap (λ (z : ℕ). end_at seg z n / seg) t_is) in
      let g : HasStored words seg w.log u p.start n 1 (ent ws) (word ws) = subst (λ (z : ℕ × ℕ). HasStored words seg w.log u p.start z.0 z.1 (ent ws) (word ws)) (λ k. (whole k, marked k)) h.stored in
      let holds = published words seg pos w.log u w.counter p.start (ent ws) (word ws) (word (set ws i x)) a.fit some_word fits put_in' level (omega arith) a.holds g in
      let push : tail words seg log' ≡ end_at seg t n = tail_push words seg w.log u in
      let above = start_above seg t n pos in
      let tail_up : t ≤ tail words seg log' = omega arith in
      let longer = reader_longer words key pos w.log u w.counter w.finished (not_all_left s r id me.0 there (omega arith)) in
      changed words key s r w' (set ws i x) id me.0 v' there
      record {
        wide = length-set ws i x ∙ a.wide;
        token = get_or-set_other ws i 0 x 0 (λ e. omega arith) ∙ h.token;
        counter = get_or-set_other ws i 8 x 0 (λ e. omega arith) ∙ a.counter;
        finished = get_or-set_other ws i 17 x 0 (λ e. omega arith) ∙ a.finished;
        holds = holds_as words seg log' w.counter (ent ws) (ent (set ws i x)) (word (set ws i x)) (word (set ws i x)) same (λ _. refl) holds;
        under_way = (push ∙ ap (λ (z : ℕ). end_at seg z n) (sym t_is), level ∙ ap (λ (z : ℕ). z / seg) (sym push));
        count = get_or-set_other ws i 1 x 0 (λ e. omega arith) ∙ (let count = h.count in omega (arith, length-append w.log (u ∷ [])));
        numbers = numbers_as words seg log' w.counter (num ws) (num (set ws i x)) (λ k l. get_or-set_other ws i (18 + k) x 0 (λ e. omega arith)) (numbers_published words seg pos w.log u w.counter p.numbered (num ws) level (omega arith) a.numbers h.numbered);
        numbering = tt;
        narrow = subst (λ (z : ℕ). (k : ℕ) → word (set ws z x) k < 2 ^ 32) (sym at) (narrow_set words key ws q x small (omega arith) a.narrow);
        fit = fit_push seg w.log u a.fit some_word fits;
        units = all_push IsUnit w.log u a.units unit;
        low = subst (λ (z : ℕ). z ≤ last_tail) (sym push) (subst (λ (z : ℕ). end_at seg z n ≤ last_tail) t_is upto);
      }
      (let both = r.one_each in omega (arith, length-append w.owners (y.number ∷ []), length-append w.log (u ∷ [])))
      record {
        ring = λ _. o.ring (omega arith);
        put = subst (PutAll words seg log' w'.owners w.seat id) (sym shares_are)
            ((sh.0.0, (λ k. sh.0.1 k ++ (t_is k, u) ∷ []) ∙ sym (entry_here words seg y.number w.owners w.log u r.one_each)), tt);
        apart = subst AreApart (sym shares_are) (tt, tt);
        token = subst (KnowsToken w'.progress w'.holder id) (sym progress_is) (refl, h.holder);
        found = le_trans o.found tail_up;
        finished = omega arith;
        idle = λ e. absurd (omega arith);
        readers = all_map (IsReader words key w.log w.counter w.finished) (IsReader words key log' w.counter w.finished) me.0.readers longer o.readers;
      }
      (others_stay words key w w' id refl record {
        readers = longer;
        tail = tail_up;
        given = λ k ne. entry_else words seg k y.number w.owners w.log u r.one_each (λ e. ne (ap w.seat (sym e) ∙ sh.0.0));
        before = λ _. sym h.holder;
        after = λ _. sym h.holder;
      })
      (λ _. r.holder (λ e. storing_free (h.progress ∙ e)))
      (all_push (IsSeated w.seat (set s.views id v')) w.owners y.number
      (owners_stay words key s r id me.0 v' there (λ k has. subst (HasNumber k) (sym shares_are) (⊎_elim (λ e. inl e) (λ z. absurd z) (subst (HasNumber k) one has))))
      record { view = v'; there = ap (λ (z : ℕ). get_elem? (set s.views id v') z) sh.0.0 ∙ set_here s.views id v' (inside_at s.views id me.0 there); has = subst (HasNumber y.number) (sym shares_are) (inl refl) })
      (omega arith) refl)

  -- a writer leaves
  pub leaves : (slots id : ℕ) (me : M words key) → me.0.progress ≡ Free → me.0.finished < length me.0.writers
      → Allows (HoldsOneLog words key) slots id me 17 (λ x. (x + 1) % 2 ^ 64) (Makes (λ _. after_leave) (step slots 17 1 0 none) me)
  leaves slots id me free stays = acts words key slots id 17 me (λ x. (x + 1) % 2 ^ 64) (λ _. after_leave) (λ s r at small.
      let o = r.seats id me.0 at in
      let w = r.shared in
      let a = r.are_words in
      let few = r.few in
      let x : ℕ = get_or s.words 17 0 in
      let x' : ℕ = (x + 1) % 2 ^ 64 in
      let left_is : x ≡ w.finished = a.finished in
      let less = not_all_left s r id me.0 at stays in
      let plain : x' ≡ w.finished + 1 = mod-eq_of_lt (omega arith) ∙ ap (λ (z : ℕ). z + 1) left_is in
      let w' : SharedState = record w { finished = w.finished + 1 } in
      let wide = a.wide in
      let higher = reader_higher words key w.log w.counter w.counter w.finished (w.finished + 1) (le_refl w.counter) (omega arith) in
      changed words key s r w' (set s.words 17 x') id me.0 (after_leave me.0) at
      (are_beside words key w w' s.words 17 x' (inr refl) refl refl a (subst (λ (z : ℕ). IsToken words key.seg w.log w.progress z) (sym (get_or-set_other s.words 17 0 x' 0 (λ e. omega arith))) a.token)
      (get_or-set_other s.words 17 8 x' 0 (λ e. omega arith) ∙ a.counter) (get_or-set_same s.words 17 x' 0 (omega arith) ∙ plain) a.under_way
      (subst (λ (z : ℕ). IsCount words w.log w.progress z) (sym (get_or-set_other s.words 17 1 x' 0 (λ e. omega arith))) a.count) a.numbering)
      r.one_each
      record { ring = o.ring; put = o.put; apart = o.apart; token = o.token; found = o.found; finished = omega arith; idle = λ _. free; readers = all_map (IsReader words key w.log w.counter w.finished) (IsReader words key w.log w.counter (w.finished + 1)) me.0.readers higher o.readers }
      (λ j u ne q. record { ring = q.ring; put = q.put; apart = q.apart; token = q.token; found = q.found; finished = q.finished; idle = q.idle; readers = all_map (IsReader words key w.log w.counter w.finished) (IsReader words key w.log w.counter (w.finished + 1)) u.readers higher q.readers })
      r.holder
      (owners_stay words key s r id me.0 (after_leave me.0) at (λ k q. q))
      refl (omega arith))
