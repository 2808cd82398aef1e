-- What is so of schedules in which nobody reads.
use Rattle.std.proofs.Common.{◌≡◌, ℕ, zero, suc, ◌+◌, ◌<◌, List, [], ◌∷◌, map, refl, arith, Option, Some, None}
use Rattle.std.specs.Option.{option_map}
use Rattle.log_model.specs.Interleaving.{IsInterleaving}
use Rattle.vsl_record.specs.Unit.{Log}
use Rattle.traffic_feed.specs.Turns.{first_draw, next_draw}
use Rattle.feed_schedule.specs.Schedule.{count_writers, without_next, chosen_by}
use Rattle.feed_schedule.specs.Unread.{count_turns, put_in, IsUnread}
use Rattle.feed_schedule.proofs.WriterLemmas.{leave_counts, left_to_put, nothing_interleaves, turn_interleaves, goes_on_first}
use Rattle.feed_schedule.proofs.TurnLemmas.{chosen_below}
use Rattle.feed_schedule.proofs.WaitingLemmas.{put_length}

-- a turn lessens the turns that writers still have by one
pub turn_less : (k : ℕ) (writers : List (Option Log)) → k < count_writers writers → count_turns (without_next k writers) + 1 ≡ count_turns writers
turn_less k writers l = let put = put_length k writers in let left = leave_counts k writers l in omega arith

-- only a writer that has not left has turns
pub some_left : (writers : List (Option Log)) → 0 < count_turns writers → 0 < count_writers writers
some_left [] l = l
some_left (None ∷ writers) l = some_left writers l
some_left (Some units ∷ writers) l = omega arith

-- what is put in the turns that writers still have is an interleaving of what was still to be put
put_interleaves : (n : ℕ) (drawn : Option ℕ) (writers : List (Option Log)) → n ≡ count_turns writers → IsInterleaving (put_in n drawn writers) (left_to_put writers)
put_interleaves zero drawn writers e = nothing_interleaves writers (omega arith)
put_interleaves (suc n) drawn writers e =
    let k : ℕ = chosen_by drawn (count_writers writers) in
    let less = turn_less k writers (chosen_below drawn (count_writers writers) (some_left writers (omega arith))) in
    turn_interleaves k writers (put_in n (option_map next_draw drawn) (without_next k writers)) (put_interleaves n (option_map next_draw drawn) (without_next k writers) (omega arith))

-- the law that the log is an interleaving of the feeds
pub writing_interleaves : (order : Option ℕ) (feeds : List Log) (log : Log) → IsUnread order feeds log → IsInterleaving log feeds
writing_interleaves order feeds log h =
    goes_on_first log feeds (put_in (count_turns (map Some feeds)) (option_map first_draw order) (map Some feeds), h, put_interleaves (count_turns (map Some feeds)) (option_map first_draw order) (map Some feeds) refl)
