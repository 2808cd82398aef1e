-- What is still to come: at first, and after a turn.
use Rattle.std.proofs.Common.{◌≡◌, ℕ, zero, suc, ◌*◌, ◌<◌, ◌≤◌, true, false, eqb, List, [], ◌∷◌, ◌++◌, length, map, sym, ap, ◌∙◌, subst, arith, Option, Some, None, append_assoc}
use Rattle.std.proofs.lemmas.List.{append-nil, append_cancel_left, length-map}
use Rattle.std.specs.List.{All}
use Rattle.std.specs.Option.{option_map}
use Rattle.vsl_record.specs.Unit.{LogUnit, Log}
use Rattle.vsl_record.specs.Words.{unit_words}
use Rattle.ring_layout.specs.declared.history.HistoryItem.{HistoryItem}
use Rattle.ring_layout.specs.Places.{AreFit, last_tail}
use Rattle.ring_plain.specs.Ring.{IsRingOf}
use Rattle.ring_plain.specs.Cursor.{Stands}
use Rattle.traffic_feed.specs.Turns.{first_draw}
use Rattle.ring_layout.specs.History.{HasRun}
use Rattle.ring_layout.specs.declared.item.Item.{Item}
use Rattle.ring_layout.specs.declared.item.Item.TheVariants as items
use Rattle.ring_layout.specs.Items.{items_of}
use Rattle.feed_schedule.specs.declared.replay.Advanced.{Advanced}
use Rattle.feed_schedule.specs.declared.replay.Advanced.TheVariants.{Took, Overrun, Ended}
use Rattle.feed_schedule.specs.Schedule.{Reads, Stage, first_stage, has_ended, after_turn, after_turns, IsScheduled, met}
use Rattle.feed_schedule.specs.Replaying.{ReplayState, IsAt, IsToCome, Represents, Meets, count_feed_words}
use Rattle.feed_schedule.specs.inside.Turning.{IsSteady, Leads}
use Rattle.feed_schedule.proofs.TurnLemmas.{turns_after_end}
use Rattle.feed_schedule.proofs.ItemLemmas.{turn_later, items_go_on}
use Rattle.feed_schedule.proofs.PuttingLemmas.{counts_first, at_first}

-- ---- at first

-- a replay that has put nothing, of these feeds
pub record IsNew (r : ReplayState) (active seg : ℕ) (seed : Option ℕ) (feeds : List Log) : Type 0 where
  pub seg_is : r.ring.seg ≡ seg
  pub empty : IsRingOf r.ring []
  pub ended : r.ring.ended ≡ eqb active 0
  pub same : r.cursor.seg ≡ r.ring.seg
  pub stands : Stands r.cursor [] 0
  pub place : r.cursor.place ≡ 0
  pub counted : active ≡ length r.writers
  pub writers : r.writers ≡ map Some feeds
  pub reading : r.reading ≡ Reads
  pub drawn : r.drawn ≡ option_map first_draw seed
  pub fit : All (AreFit unit_words seg) feeds
  pub few : 2 * count_feed_words feeds ≤ last_tail

-- it stands before the first turn
pub at_new : (r : ReplayState) (active seg : ℕ) (seed : Option ℕ) (feeds : List Log) → IsNew r active seg seed feeds → IsAt r (first_stage seed feeds)
at_new r active seg seed feeds h = record {
  wrote = at_first seg feeds r.ring r.writers active h.fit h.few h.seg_is h.empty h.ended h.writers h.counted;
  writers = h.writers;
  drawn = h.drawn;
  same = h.same;
  cursor = h.stands;
  place = h.place;
  reading = h.reading;
  waits = λ e. cc e;
  newest = tt;
}

-- it is steady
pub steady_new : (r : ReplayState) (active seg : ℕ) (seed : Option ℕ) (feeds : List Log) → IsNew r active seg seed feeds → length feeds < 4294967295 → IsSteady active r
steady_new r active seg seed feeds h many = record {
  counted = counts_first feeds r.writers active h.writers h.counted;
  few = let a = h.counted in let b = ap (λ (l : List (Option Log)). length l) h.writers in let d = length-map feeds Some in omega arith;
  stage = first_stage seed feeds;
  at = at_new r active seg seed feeds h;
}

-- what comes is what the schedule's history comes to
pub new_to_come : (r : ReplayState) (active seg : ℕ) (seed : Option ℕ) (feeds : List Log) (log : Log) (history : List (HistoryItem LogUnit)) → IsNew r active seg seed feeds → IsScheduled seg seed feeds log history → Represents r (items_of history)
new_to_come r active seg seed feeds log history h scheduled =
    let s : Stage = first_stage seed feeds in
    (s, at_new r active seg seed feeds h, subst (λ (g : ℕ). IsToCome g s (items_of history)) (sym h.seg_is) (scheduled.0, scheduled.1, ap items_of (sym scheduled.3)))

-- ---- after a turn

-- what is to come of a stage is what is met in its turn, and then what is to come after it
come_after : (n seg : ℕ) (s : Stage) (more : List Item) → HasRun s.history → has_ended s.reading ≡ false → has_ended (after_turns n seg s).reading ≡ true → met (after_turns n seg s) ≡ met s ++ more
    → (rest : List Item) × IsToCome seg (after_turn seg s) rest × (met s ++ more ≡ met (after_turn seg s) ++ rest)
come_after zero seg s more run before e is = cc (e, before)
come_after (suc n) seg s more run before e is =
    let p = items_go_on n seg (after_turn seg s) (turn_later seg s run).run in
    (p.rest, (n, e, p.is), sym is ∙ p.is)

-- at the end nothing is to come
pub none_to_come : (seg : ℕ) (s : Stage) (more : List Item) → has_ended s.reading ≡ true → IsToCome seg s more → more ≡ []
none_to_come seg s more ended c = append_cancel_left (met s) more [] (sym c.2 ∙ ap met (turns_after_end c.0 seg s ended) ∙ sym (append-nil (met s)))

-- where the turn met nothing all is still to come, and else the rest of what was
abbrev pub Goes : Option Advanced → List Item → ReplayState → Type 0
Goes None more now = Represents now more
Goes (Some answer) more now = Meets answer more now

-- a turn from a stage to another goes on with what is to come
goes_on : (answer : Option Advanced) (now : ReplayState) (s t : Stage) (more rest : List Item) → Leads answer now s t → IsToCome now.ring.seg t rest → met s ++ more ≡ met t ++ rest → Goes answer more now
goes_on None now s t more rest leads c is =
    let e : more ≡ rest = append_cancel_left (met s) more rest (is ∙ ap (λ (l : List Item). l ++ rest) leads.1) in
    subst (Represents now) (sym e) (t, leads.0, c)
goes_on (Some Took) now s t more rest leads c is =
    let adds = leads.1 in
    let e : more ≡ items.Unit adds.0 ∷ rest = append_cancel_left (met s) more (items.Unit adds.0 ∷ rest) (is ∙ ap (λ (l : List Item). l ++ rest) adds.1 ∙ append_assoc (met s) (items.Unit adds.0 ∷ []) rest) in
    (adds.0, rest, e, (t, leads.0, c), adds.2)
goes_on (Some (Overrun at seen missed)) now s t more rest leads c is =
    let e : more ≡ items.Overrun at seen ∷ items.Missed missed ∷ rest = append_cancel_left (met s) more (items.Overrun at seen ∷ items.Missed missed ∷ rest) (is ∙ ap (λ (l : List Item). l ++ rest) leads.1 ∙ append_assoc (met s) (items.Overrun at seen ∷ items.Missed missed ∷ []) rest) in
    (rest, e, (t, leads.0, c))
goes_on (Some Ended) now s t more rest leads c is =
    let e : more ≡ rest = append_cancel_left (met s) more rest (is ∙ ap (λ (l : List Item). l ++ rest) leads.1.0) in
    let none : rest ≡ [] = none_to_come now.ring.seg t rest (sym (ap has_ended leads.0.reading) ∙ leads.1.1) c in
    (e ∙ none, subst (Represents now) none (t, leads.0, c))

-- a turn before the end goes on with what is to come
pub turn_goes_on : (answer : Option Advanced) (old new : ReplayState) (more : List Item) → has_ended old.reading ≡ false → new.ring.seg ≡ old.ring.seg → ((s : Stage) → IsAt old s → Leads answer new s (after_turn old.ring.seg s)) → Represents old more → Goes answer more new
turn_goes_on answer old new more before same leads c =
    let s : Stage = c.0 in
    let h : IsAt old s = c.1 in
    let t : Stage = after_turn old.ring.seg s in
    let a = come_after c.2.0 old.ring.seg s more h.newest (ap has_ended (sym h.reading) ∙ before) c.2.1 c.2.2 in
    goes_on answer new s t more a.0 (leads s h) (subst (λ (g : ℕ). IsToCome g t a.0) (sym same) a.1) a.2

-- a replay that has ended represents nothing
pub end_represents : (r : ReplayState) (more : List Item) → has_ended r.reading ≡ true → Represents r more → Meets Ended more r
end_represents r more ended c =
    let none : more ≡ [] = none_to_come r.ring.seg c.0 more (sym (ap has_ended c.1.reading) ∙ ended) c.2 in
    (none, subst (Represents r) none c)
