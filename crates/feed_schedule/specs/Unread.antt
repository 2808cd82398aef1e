-- Stated schedules in which nobody reads: writers put the units of their feeds into a ring, one turn after another (this project's choice).
use Rattle.std.specs.Prelude.{◌≡◌, ℕ, zero, suc, ◌+◌, List, [], ◌++◌, length, map, Option, Some}
use Rattle.std.specs.Option.{option_map}
use Rattle.vsl_record.specs.Unit.{Log}
use Rattle.traffic_feed.specs.Turns.{first_draw, next_draw}
use Rattle.feed_schedule.specs.Schedule.{count_writers, put_by, without_next, chosen_by}
use Rattle.feed_schedule.specs.Replaying.{waiting}

-- how many turns writers still have: each unit is put in one, and each writer leaves in one
abbrev pub count_turns : List (Option Log) → ℕ
count_turns writers = length (waiting writers) + count_writers writers

-- what writers put in so many turns; the first that has not left has each turn, or the one that is drawn, from the number that was drawn last on
abbrev pub put_in : ℕ → Option ℕ → List (Option Log) → Log
put_in zero drawn writers = []
put_in (suc n) drawn writers =
    put_by (chosen_by drawn (count_writers writers)) writers ++ put_in n (option_map next_draw drawn)
    (without_next (chosen_by drawn (count_writers writers)) writers)

-- in this order of turns, drawn from a seed on, or none for feed after feed, these feeds give this log, which nobody reads, when all writers have left
abbrev pub IsUnread : Option ℕ → List Log → Log → Type 0
IsUnread order feeds log = log ≡ put_in (count_turns (map Some feeds)) (option_map first_draw order) (map Some feeds)
