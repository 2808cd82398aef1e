use Rattle.std.proofs.Common.{◌≡◌, ◌+◌, take}
use Rattle.feed_schedule.specs.Schedule.{count_writers}
use Rattle.feed_schedule.proofs.replay.place_of.Given as goal

-- so many are still to be passed as those asked for that were not
abbrev pub invariant-loop-place : goal.invariant-loop-place
invariant-loop-place l = l.fn.behind ≡ count_writers (take l.place l.writers) + l.behind
