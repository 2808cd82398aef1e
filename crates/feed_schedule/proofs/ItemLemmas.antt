-- Stages go on by items: what each turn adds to what the reader met.
use Rattle.std.proofs.Common.{◌≡◌, ℕ, zero, suc, ◌-◌, ◌/◌, ltb, List, [], ◌∷◌, ◌++◌, ap, ◌∙◌, append_assoc, arith}
use Rattle.std.proofs.lemmas.Bool.{cond_both}
use Rattle.std.specs.Option.{option_map}
use Rattle.log_model.specs.Prefix.{IsPrefix}
use Rattle.log_model.proofs.PrefixLemmas.{prefix_same, prefix_then}
use Rattle.vsl_record.specs.Unit.{LogUnit}
use Rattle.vsl_record.specs.Words.{unit_words}
use Rattle.ring_layout.specs.History.{first_number, HasRun, with_unit}
use Rattle.ring_layout.specs.declared.item.Item.{Item}
use Rattle.ring_layout.specs.declared.item.Item.TheVariants as items
use Rattle.ring_layout.specs.declared.history.HistoryItem.{HistoryItem}
use Rattle.ring_layout.specs.declared.history.HistoryItem.TheVariants.{UnitRun, Overrun}
use Rattle.traffic_feed.specs.Turns.{next_draw}
use Rattle.feed_schedule.specs.Schedule.{Stage, count_writers, after_writer, last_segment, after_overrun, after_reader, has_ended, count_active, after_turn_of, chosen_by, after_turn, after_turns, met}
use Rattle.ring_layout.proofs.MetLemmas.{overrun_met, run_met, unit_met}
use Rattle.feed_schedule.proofs.TurnLemmas.{reader_cases}

-- an overrun is met last, and what it cost
pub overrun_items : (seg : ℕ) (s : Stage) → met (after_overrun seg s) ≡ met s ++ items.Overrun (s.place / seg) (last_segment seg s) ∷ items.Missed (first_number unit_words seg s.log (last_segment seg s - 4) - s.number) ∷ []
overrun_items seg s =
    let from : ℕ = last_segment seg s - 4 in
    let first : ℕ = first_number unit_words seg s.log from in
    let lost : Item = items.Overrun (s.place / seg) (last_segment seg s) in
    let missed : Item = items.Missed (first - s.number) in
    run_met from first (first - s.number) (Overrun (s.place / seg) (last_segment seg s) ∷ s.history) (omega arith)
    ∙ (ap (λ (l : List Item). l ++ missed ∷ []) (overrun_met (s.place / seg) (last_segment seg s) s.history) ∙ append_assoc (met s) (lost ∷ []) (missed ∷ []))

-- the newest item stays a run where a unit is taken
pub unit_keeps_run : (u : LogUnit) (history : List (HistoryItem LogUnit)) → HasRun history → HasRun (with_unit u history)
unit_keeps_run u [] h = h
unit_keeps_run u (UnitRun r ∷ older) h = h
unit_keeps_run u (Overrun at seen ∷ older) h = h

-- at a later stage what was met stays met, first, and the newest item is a run
pub record IsLater (before : List Item) (t : Stage) : Type 0 where
  pub met_more : IsPrefix before (met t)
  pub run : HasRun t.history

-- after a turn
pub turn_later : (seg : ℕ) (s : Stage) → HasRun s.history → IsLater (met s) (after_turn seg s)
turn_later seg s h =
    let k : ℕ = chosen_by s.drawn (count_active s) in
    let t : Stage = record s { drawn = option_map next_draw s.drawn } in
    let Later : Stage → Type 0 = IsLater (met s) in
    cond_both (has_ended s.reading) s (after_turn_of seg k t) Later (λ ended. record { met_more = prefix_same (met s); run = h })
    (λ before. cond_both (ltb k (count_writers s.writers)) (after_writer k t) (after_reader seg t) Later (λ writer. record { met_more = prefix_same (met s); run = h })
    (λ reader. reader_cases Later seg t (λ lost. record { met_more = record { rest = items.Overrun (s.place / seg) (last_segment seg s) ∷ items.Missed (first_number unit_words seg s.log (last_segment seg s - 4) - s.number) ∷ []; is = overrun_items seg t }; run = tt })
    (λ u near found. record { met_more = record { rest = items.Unit u ∷ []; is = unit_met u s.history h }; run = unit_keeps_run u s.history h }) (λ near none. record { met_more = prefix_same (met s); run = h })))

-- and after turns
pub items_go_on : (n seg : ℕ) (s : Stage) → HasRun s.history → IsPrefix (met s) (met (after_turns n seg s))
items_go_on zero seg s h = prefix_same (met s)
items_go_on (suc n) seg s h = let l = turn_later seg s h in prefix_then l.met_more (items_go_on n seg (after_turn seg s) l.run)
