-- Worked schedules, computed from the definitions.
use Rattle.std.proofs.Common.{◌≡◌, ℕ, zero, suc, List, [], ◌∷◌, length, map, Some, None, refl}
use Rattle.std.specs.Prelude.{codes, unwrap_or}
use Rattle.vsl_record.specs.declared.mark.Mark.TheVariants.{Client}
use Rattle.vsl_record.specs.Unit.{LogUnit, Log}
use Rattle.vsl_record.specs.Words.{unit_words}
use Rattle.ring_layout.specs.declared.history.HistoryItem.{HistoryItem}
use Rattle.ring_layout.specs.declared.history.HistoryItem.TheVariants.{UnitRun, Overrun}
use Rattle.feed_schedule.specs.Unread.{IsUnread}
use Rattle.ring_layout.specs.declared.item.Item.TheVariants as items
use Rattle.ring_layout.specs.Items.{items_of}
use Rattle.feed_schedule.specs.Schedule.{Stage, Reading, Reads, Waits, Ended, first_stage, count_writers, after_turns, IsScheduled}

-- a unit of one record of a client, with tag VCL_Log
abbrev told : ℕ → List ℕ → LogUnit
told vxid payload = record { vxid = vxid; mark = Client; records = record { tag = 24; mark = Client; payload = payload } ∷ [] }

-- two feeds: the first has two units, the second has one
abbrev a1 : LogUnit
a1 = told 2 (codes "a1")

abbrev a2 : LogUnit
a2 = told 4 (codes "a2")

abbrev b1 : LogUnit
b1 = told 6 (codes "b1")

abbrev feeds : List Log
feeds = (a1 ∷ a2 ∷ []) ∷ (b1 ∷ []) ∷ []

-- the stage after so many turns, which seed 7 draws
abbrev drawn_stage : ℕ → Stage
drawn_stage n = after_turns n 65536 (first_stage (Some 7) feeds)

the_draws : map (λ (n : ℕ). unwrap_or (drawn_stage n).drawn 0) (1 ∷ 2 ∷ 3 ∷ 4 ∷ 5 ∷ 6 ∷ 7 ∷ 8 ∷ []) ≡ 599 ∷ 44999 ∷ 32612 ∷ 21105 ∷ 10061 ∷ 33742 ∷ 40318 ∷ 9222 ∷ []
the_draws = refl

-- the VXIDs of what was put, how many units the reader took, and how many writers have not left
abbrev outline : Stage → List ℕ × ℕ × Reading × ℕ
outline s = (map (λ (u : LogUnit). u.vxid) s.log, s.number, s.reading, count_writers s.writers)

-- the reader waits, B puts, the reader takes, A puts, the reader takes, B leaves, A puts, A leaves, the reader takes, the reader ends
the_turns : map (λ (n : ℕ). outline (drawn_stage n)) (1 ∷ 2 ∷ 3 ∷ 4 ∷ 5 ∷ 6 ∷ 7 ∷ 8 ∷ 9 ∷ 10 ∷ []) ≡
    ([], 0, Waits, 2) ∷ (6 ∷ [], 0, Reads, 2) ∷ (6 ∷ [], 1, Reads, 2) ∷ (6 ∷ 2 ∷ [], 1, Reads, 2) ∷ (6 ∷ 2 ∷ [], 2, Reads, 2) ∷
    (6 ∷ 2 ∷ [], 2, Reads, 1) ∷ (6 ∷ 2 ∷ 4 ∷ [], 2, Reads, 1) ∷ (6 ∷ 2 ∷ 4 ∷ [], 2, Reads, 0) ∷ (6 ∷ 2 ∷ 4 ∷ [], 3, Reads, 0) ∷ (6 ∷ 2 ∷ 4 ∷ [], 3, Ended, 0) ∷ []
the_turns = refl

-- B leaves before A
who_leaves_first : (drawn_stage 6).writers ≡ Some (a2 ∷ []) ∷ None ∷ []
who_leaves_first = refl

drawn : IsScheduled 65536 (Some 7) feeds (b1 ∷ a1 ∷ a2 ∷ []) (UnitRun (record { segment = 0; first = 0; missed = 0; units = b1 ∷ a1 ∷ a2 ∷ [] }) ∷ [])
drawn = (10, refl, refl, refl)

-- feed after feed, and then the reader
fed_first : IsScheduled 65536 None feeds (a1 ∷ a2 ∷ b1 ∷ []) (UnitRun (record { segment = 0; first = 0; missed = 0; units = a1 ∷ a2 ∷ b1 ∷ [] }) ∷ [])
fed_first = (9, refl, refl, refl)

-- with no units, or no feeds, the run of segment 0 is empty
nothing_fed : IsScheduled 64 None ([] ∷ [] ∷ []) [] (UnitRun (record { segment = 0; first = 0; missed = 0; units = [] }) ∷ [])
nothing_fed = (3, refl, refl, refl)

nobody_feeds : IsScheduled 64 (Some 7) [] [] (UnitRun (record { segment = 0; first = 0; missed = 0; units = [] }) ∷ [])
nobody_feeds = (1, refl, refl, refl)

-- so many times the letter x
abbrev letters : ℕ → List ℕ
letters zero = []
letters (suc n) = 120 ∷ letters n

-- a unit of 64 words, the words of a segment
abbrev long : ℕ → LogUnit
long vxid = told vxid (letters 240)

long_words : length (unit_words (long 1)) ≡ 64
long_words = refl

-- the reader, which takes nothing before all was put, is overrun in segment 0 and goes on with the ninth of twelve
abbrev twelve : Log
twelve = map long (1 ∷ 2 ∷ 3 ∷ 4 ∷ 5 ∷ 6 ∷ 7 ∷ 8 ∷ 9 ∷ 10 ∷ 11 ∷ 12 ∷ [])

abbrev twelve_read : List (HistoryItem LogUnit)
twelve_read = UnitRun (record { segment = 0; first = 0; missed = 0; units = [] }) ∷ Overrun 0 13 ∷ UnitRun (record { segment = 9; first = 8; missed = 8; units = map long (9 ∷ 10 ∷ 11 ∷ 12 ∷ []) }) ∷ []

overrun : IsScheduled 64 None (twelve ∷ []) twelve twelve_read
overrun = (19, refl, refl, refl)

what_was_met : items_of twelve_read ≡ items.Overrun 0 13 ∷ items.Missed 8 ∷ items.Unit (long 9) ∷ items.Unit (long 10) ∷ items.Unit (long 11) ∷ items.Unit (long 12) ∷ []
what_was_met = refl

-- five segments ahead of the reader the writers don't overrun it, six ahead they do
five_ahead : IsScheduled 64 None (map long (1 ∷ 2 ∷ 3 ∷ 4 ∷ 5 ∷ []) ∷ []) (map long (1 ∷ 2 ∷ 3 ∷ 4 ∷ 5 ∷ [])) (UnitRun (record { segment = 0; first = 0; missed = 0; units = map long (1 ∷ 2 ∷ 3 ∷ 4 ∷ 5 ∷ []) }) ∷ [])
five_ahead = (12, refl, refl, refl)

six_ahead : IsScheduled 64 None (map long (1 ∷ 2 ∷ 3 ∷ 4 ∷ 5 ∷ 6 ∷ []) ∷ []) (map long (1 ∷ 2 ∷ 3 ∷ 4 ∷ 5 ∷ 6 ∷ []))
    (UnitRun (record { segment = 0; first = 0; missed = 0; units = [] }) ∷ Overrun 0 6 ∷ UnitRun (record { segment = 2; first = 2; missed = 2; units = map long (3 ∷ 4 ∷ 5 ∷ 6 ∷ []) }) ∷ [])
six_ahead = (13, refl, refl, refl)

-- three writers, whose turns seed 5 draws, overrun the reader twice; the eighth unit wraps
overrun_twice : IsScheduled 64 (Some 5) (map long (1 ∷ 2 ∷ 3 ∷ []) ∷ map long (4 ∷ 5 ∷ 6 ∷ []) ∷ map long (7 ∷ 8 ∷ 9 ∷ []) ∷ []) (map long (4 ∷ 5 ∷ 6 ∷ 7 ∷ 8 ∷ 9 ∷ 1 ∷ 2 ∷ 3 ∷ []))
    (UnitRun (record { segment = 0; first = 0; missed = 0; units = map long (4 ∷ []) }) ∷ Overrun 1 7 ∷ UnitRun (record { segment = 3; first = 3; missed = 2; units = map long (7 ∷ []) }) ∷
    Overrun 4 10 ∷ UnitRun (record { segment = 6; first = 6; missed = 2; units = map long (1 ∷ 2 ∷ 3 ∷ []) }) ∷ [])
overrun_twice = (20, refl, refl, refl)

-- ---- where nobody reads

-- feed after feed the log is the feeds, one after the other
put_feed_after_feed : IsUnread None feeds (a1 ∷ a2 ∷ b1 ∷ [])
put_feed_after_feed = refl

-- in the turns of seed 7, of two feeds of two units, B puts twice
b2 : LogUnit
b2 = told 8 (codes "b2")

put_in_turns : IsUnread (Some 7) ((a1 ∷ a2 ∷ []) ∷ (b1 ∷ b2 ∷ []) ∷ []) (b1 ∷ b2 ∷ a1 ∷ a2 ∷ [])
put_in_turns = refl
