-- Feed after feed: the log is the feeds, one after the other.
use Rattle.std.proofs.Common.{◌≡◌, ℕ, zero, suc, List, [], ◌∷◌, ◌++◌, map, sym, refl, ap, ◌∙◌, subst, ltb, arith, Option, Some, None, append_assoc}
use Rattle.std.proofs.lemmas.Bool.{cond_both}
use Rattle.std.proofs.lemmas.List.{append-nil}
use Rattle.std.proofs.lemmas.List.Concat.{flat_map-cons}
use Rattle.std.specs.List.{flat_map}
use Rattle.std.specs.Option.{option_map}
use Rattle.vsl_record.specs.Unit.{LogUnit, Log}
use Rattle.ring_layout.specs.declared.history.HistoryItem.{HistoryItem}
use Rattle.traffic_feed.specs.Turns.{next_draw}
use Rattle.feed_schedule.specs.Schedule.{Stage, first_stage, count_writers, put_by, without_next, after_writer, after_reader, has_ended, count_active, after_turn_of, chosen_by, after_turn, after_turns, IsScheduled}
use Rattle.feed_schedule.specs.Replaying.{waiting}
use Rattle.feed_schedule.specs.Unread.{count_turns, put_in, IsUnread}
use Rattle.feed_schedule.proofs.TurnLemmas.{MayStand, reader_cases, turn_may_stand, turns_keep}
use Rattle.feed_schedule.proofs.ScheduleLemmas.{none_at_end}
use Rattle.feed_schedule.proofs.UnreadLemmas.{turn_less, some_left}

-- ---- what is still to be put

-- what the first that has not left puts is the first of what was still to be put
first_put : (writers : List (Option Log)) → put_by 0 writers ++ waiting (without_next 0 writers) ≡ waiting writers
first_put [] = refl
first_put (None ∷ writers) = first_put writers
first_put (Some [] ∷ writers) = refl
first_put (Some (u ∷ units) ∷ writers) = refl

-- nothing is still to be put where all writers have left
none_waiting : (writers : List (Option Log)) → count_writers writers ≡ 0 → waiting writers ≡ []
none_waiting [] e = refl
none_waiting (None ∷ writers) e = none_waiting writers e
none_waiting (Some units ∷ writers) e = absurd (omega arith)

-- at first it is the feeds, one after the other
first_waiting : (feeds : List Log) → waiting (map Some feeds) ≡ flat_map (λ (feed : Log). feed) feeds
first_waiting [] = refl
first_waiting (feed ∷ feeds) = ap (λ (l : Log). feed ++ l) (first_waiting feeds) ∙ sym (flat_map-cons (λ (x : Log). x) feed feeds)

-- ---- with a reader

-- nothing is drawn, and what was put and then what is still to be put is this log
abbrev IsInOrder : Log → Stage → Type 0
IsInOrder log s = (s.drawn ≡ None) × (s.log ++ waiting s.writers ≡ log)

-- each turn keeps it so
turn_in_order : (log : Log) (seg : ℕ) (s : Stage) → IsInOrder log s → IsInOrder log (after_turn seg s)
turn_in_order log seg s h =
    let k : ℕ = chosen_by s.drawn (count_active s) in
    let t : Stage = record s { drawn = option_map next_draw s.drawn } in
    let undrawn : option_map next_draw s.drawn ≡ None = ap (option_map next_draw) h.0 in
    let first : k ≡ 0 = ap (λ (x : Option ℕ). chosen_by x (count_active s)) h.0 in
    let put : put_by k s.writers ++ waiting (without_next k s.writers) ≡ waiting s.writers =
    subst (λ (j : ℕ). put_by j s.writers ++ waiting (without_next j s.writers) ≡ waiting s.writers) (sym first) (first_put s.writers) in
    cond_both (has_ended s.reading) s (after_turn_of seg k t) (IsInOrder log) (λ e. h)
    (λ e. cond_both (ltb k (count_writers s.writers)) (after_writer k t) (after_reader seg t) (IsInOrder log)
    (λ l. (undrawn, append_assoc s.log (put_by k s.writers) (waiting (without_next k s.writers)) ∙ ap (λ (l : Log). s.log ++ l) put ∙ h.1))
    (λ l. reader_cases (IsInOrder log) seg t (λ lost. (undrawn, h.1)) (λ u took f. (undrawn, h.1)) (λ none f. (undrawn, h.1))))

-- the law that feed after feed the log is the feeds in order
pub schedule_in_order : (seg : ℕ) (feeds : List Log) (log : Log) (history : List (HistoryItem LogUnit)) → IsScheduled seg None feeds log history → log ≡ flat_map (λ (feed : Log). feed) feeds
schedule_in_order seg feeds log history h =
    let s : Stage = first_stage None feeds in
    let t : Stage = after_turns h.0 seg s in
    let may = turns_keep (λ (x : Stage). MayStand x.reading (count_writers x.writers)) (after_turn seg) (turn_may_stand seg) h.0 s tt in
    let order = turns_keep (IsInOrder (waiting (map Some feeds))) (after_turn seg) (turn_in_order (waiting (map Some feeds)) seg) h.0 s (refl, refl) in
    let none = none_waiting t.writers (none_at_end t.reading (count_writers t.writers) may h.1) in
    h.2 ∙ sym (append-nil t.log) ∙ ap (λ (l : Log). t.log ++ l) (sym none) ∙ order.1 ∙ first_waiting feeds

-- ---- where nobody reads

-- what is put in the turns that writers still have is what was still to be put
put_in_order : (n : ℕ) (writers : List (Option Log)) → n ≡ count_turns writers → put_in n None writers ≡ waiting writers
put_in_order zero writers e = sym (none_waiting writers (omega arith))
put_in_order (suc n) writers e =
    let less = turn_less 0 writers (some_left writers (omega arith)) in
    ap (λ (l : Log). put_by 0 writers ++ l) (put_in_order n (without_next 0 writers) (omega arith)) ∙ first_put writers

-- the law that feed after feed the log is the feeds in order
pub writing_in_order : (feeds : List Log) (log : Log) → IsUnread None feeds log → log ≡ flat_map (λ (feed : Log). feed) feeds
writing_in_order feeds log h = h ∙ put_in_order (count_turns (map Some feeds)) (map Some feeds) refl ∙ first_waiting feeds
