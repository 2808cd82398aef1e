-- What a step of one seat leaves of the rule.
use Rattle.std.proofs.Common.{◌≡◌, ◌≢◌, ℕ, ◌+◌, ◌^◌, ◌<◌, ◌≤◌, List, [], ◌∷◌, length, get_or, set, sym, refl, ap, ◌∙◌, subst, arith, le_trans, length-set}
use Rattle.std.specs.List.{AllByRecursion}
use mathlib.Core.Option.{some}
use lib.ListN.{get_elem?}
use lib.Seq.{set-get_or}
use Rattle.atomic_table.specs.Table.{State, Me, keeps, stepped, Allows}
use Rattle.log_model.specs.Interleaving.{given_to}
use Rattle.vsl_record.specs.Unit.{LogUnit, Log}
use Rattle.ring_layout.specs.declared.history.HistoryItem.{HistoryItem}
use Rattle.ring_layout.specs.Places.{tail}
use Rattle.log_ring.specs.declared.rule.RingKey.{RingKey}
use Rattle.log_ring.specs.declared.rule.WriterView.{WriterView}
use Rattle.log_ring.specs.declared.rule.Put.{Put}
use Rattle.log_ring.specs.declared.rule.Progress.{Progress}
use Rattle.log_ring.specs.declared.rule.Progress.TheVariants.{Free, Storing, Stored}
use Rattle.log_ring.specs.declared.rule.ReaderView.{ReaderView}
use Rattle.log_ring.specs.declared.rule.View.{View}
use Rattle.log_ring.specs.Closed.{entries_from}
use Rattle.log_ring.specs.inside.Rule.{SharedState, writers_of, finished_of, HasNumber, IsSeated, KnowsToken, PutAll, IsOverrunAt, AreWords, IsReader, IsSeat, HoldsOneLog}
use Rattle.log_model.proofs.SumLemmas.{sum_set}
use Rattle.log_ring.proofs.SeatLemmas.{all_map, seats_stay, seated_on}

pub storing_free : {p : Put} → Storing p ≡ Free → ⊥
storing_free z = cc z

pub stored_free : {p : Put} → Stored p ≡ Free → ⊥
stored_free z = cc z

-- who was overrun took an item
pub overrun_item : (at : ℕ) (items : List (HistoryItem LogUnit)) → IsOverrunAt at items → 0 < length items
overrun_item at [] h = absurd h
overrun_item at (x ∷ xs) h = omega arith

-- Another seat doesn't have the write token, where the seat id has it before and after, if one has
token_stays : (held held' : Progress) (holder holder' id j : ℕ) → (held ≢ Free → holder ≡ id) → (held' ≢ Free → holder' ≡ id) → j ≢ id → (h : Progress) → KnowsToken held holder j h → KnowsToken held' holder' j h
token_stays held held' holder holder' id j before after ne Free h = λ z e. ne (e ∙ after z)
token_stays held held' holder holder' id j before after ne (Storing p) h = absurd (ne (h.1 ∙ before (λ e. storing_free (h.0 ∙ e))))
token_stays held held' holder holder' id j before after ne (Stored p) h = absurd (ne (h.1 ∙ before (λ e. stored_free (h.0 ∙ e))))

module _ (words : LogUnit → List ℕ) (key : RingKey) where
  abbrev pub St : Type 0
  St = State ℕ View

  abbrev pub M : Type 0
  M = Me ℕ View

  abbrev pub given : SharedState → ℕ → List (ℕ × LogUnit)
  given w k = given_to k w.owners (entries_from words key.seg 0 w.log)

  -- a step of the seat id takes the one state to the other, and leaves what other seats know
  pub record LeavesOthers (w w' : SharedState) (id : ℕ) : Type 0 where
    pub readers : (r : ReaderView) → IsReader words key w.log w.counter w.finished r → IsReader words key w'.log w'.counter w'.finished r
    pub tail : tail words key.seg w.log ≤ tail words key.seg w'.log
    pub given : (k : ℕ) → w.seat k ≢ id → given w' k ≡ given w k
    pub before : w.progress ≢ Free → w.holder ≡ id
    pub after : w'.progress ≢ Free → w'.holder ≡ id

  put_stays : (log log' : Log) (owners owners' : List ℕ) (seat : ℕ → ℕ) (j : ℕ) (xs : List WriterView)
      → ((k : ℕ) → seat k ≡ j → given_to k owners' (entries_from words key.seg 0 log') ≡ given_to k owners (entries_from words key.seg 0 log))
      → PutAll words key.seg log owners seat j xs → PutAll words key.seg log' owners' seat j xs
  put_stays log log' owners owners' seat j [] same h = tt
  put_stays log log' owners owners' seat j (x ∷ xs) same h = ((h.0.0, h.0.1 ∙ sym (same x.number h.0.0)), put_stays log log' owners owners' seat j xs same h.1)

  -- what another seat says stays so
  pub others_stay : (w w' : SharedState) (id : ℕ) → w'.seat ≡ w.seat → LeavesOthers w w' id → (j : ℕ) (v : View) → j ≢ id → IsSeat words key w j v → IsSeat words key w' j v
  others_stay w w' id seats o j v ne q = record {
    ring = q.ring;
    put = subst (λ (f : ℕ → ℕ). PutAll words key.seg w'.log w'.owners f j v.writers) (sym seats)
        (put_stays w.log w'.log w.owners w'.owners w.seat j v.writers (λ k e. o.given k (λ z. ne (sym e ∙ z))) q.put);
    apart = q.apart;
    token = token_stays w.progress w'.progress w.holder w'.holder id j o.before o.after ne v.progress q.token;
    found = le_trans q.found o.tail;
    finished = q.finished;
    idle = q.idle;
    readers = all_map (IsReader words key w.log w.counter w.finished) (IsReader words key w'.log w'.counter w'.finished) v.readers o.readers q.readers;
  }

  -- the rule after a step of the seat id
  pub changed : (s : St) (r : HoldsOneLog words key s) (w' : SharedState) (ws' : List ℕ) (id : ℕ) (v v' : View) → get_elem? s.views id ≡ some v
      → AreWords words key.seg w' ws' → length w'.owners ≡ length w'.log → IsSeat words key w' id v' → ((j : ℕ) (u : View) → j ≢ id → IsSeat words key r.shared j u → IsSeat words key w' j u)
      → (w'.progress ≢ Free → w'.holder < length s.views) → AllByRecursion (IsSeated w'.seat (set s.views id v')) w'.owners → length v'.writers ≡ length v.writers → v'.finished + r.shared.finished ≡ v.finished + w'.finished
      → HoldsOneLog words key record { words = ws'; homes = s.homes; views = set s.views id v' }
  changed s r w' ws' id v v' at are long mine others holder owners same finished = record {
    segment = r.segment;
    few = r.few;
    shared = w';
    are_words = are;
    one_each = long;
    seats = seats_stay (IsSeat words key w') s.views id v' mine (λ j u ne e. others j u ne (r.seats j u e));
    holder = λ p. let h = holder p in let l = length-set s.views id v' in omega arith;
    owners = owners;
    writers = let t = sum_set writers_of s.views id v v' at in let all = r.writers in omega arith;
    finished = let t = sum_set finished_of s.views id v v' at in let all = r.finished in omega arith;
  }

  -- each writer is still in its seat
  pub owners_stay : (s : St) (r : HoldsOneLog words key s) (id : ℕ) (v v' : View) → get_elem? s.views id ≡ some v → ((k : ℕ) → HasNumber k v.writers → HasNumber k v'.writers)
      → AllByRecursion (IsSeated r.shared.seat (set s.views id v')) r.shared.owners
  owners_stay s r id v v' at keep = all_map (IsSeated r.shared.seat s.views) (IsSeated r.shared.seat (set s.views id v')) r.shared.owners
      (λ k q. seated_on r.shared.seat s.views id k v v' at (keep k) q) r.owners

  -- the rule after a load: the seat says something else that is so, for the same writers
  pub looks : (s : St) (r : HoldsOneLog words key s) (i id : ℕ) (c : List (ℕ × ℕ)) (v v' : View) → get_elem? s.views id ≡ some v → IsSeat words key r.shared id v' → v'.writers ≡ v.writers → v'.finished ≡ v.finished
      → HoldsOneLog words key (stepped s i (get_or s.words i 0) id c v' keeps)
  looks s r i id c v v' at mine same finished = subst (λ (ws : List ℕ). HoldsOneLog words key record { words = ws; homes = s.homes; views = set s.views id v' }) (sym (set-get_or s.words i 0))
      (changed s r r.shared s.words id v v' at r.are_words r.one_each mine (λ j u _ q. q) r.holder
      (owners_stay s r id v v' at (λ k h. subst (HasNumber k) (sym same) h)) (ap (λ (l : List WriterView). length l) same) (omega arith))

  -- a step whose view is a function of the number found and of the view before
  pub acts : (slots id i : ℕ) (me : M) (g : ℕ → ℕ) (f : ℕ → View → View)
      → ((s : St) (r : HoldsOneLog words key s) → get_elem? s.views id ≡ some me.0 → get_or s.words i 0 < 2 ^ 64 → HoldsOneLog words key (stepped s i (g (get_or s.words i 0)) id me.1 (f (get_or s.words i 0) me.0) keeps))
      → Allows (HoldsOneLog words key) slots id me i g (λ found after. after ≡ (f found me.0, me.1))
  acts slots id i me g f keep s r _ at small = (f (get_or s.words i 0) me.0, keeps, tt, keep s r at small, refl)
