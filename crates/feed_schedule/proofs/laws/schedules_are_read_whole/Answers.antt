use Rattle.feed_schedule.proofs.OrderLemmas.{schedule_in_order}
use Rattle.feed_schedule.proofs.ScheduleLemmas.{schedule_interleaves, schedule_read_whole}
use Rattle.feed_schedule.proofs.laws.schedules_are_read_whole.Goals as goal

pub returns-clause-interleaved : goal.returns-clause-interleaved
returns-clause-interleaved c = schedule_interleaves

pub returns-clause-in_order : goal.returns-clause-in_order
returns-clause-in_order c = schedule_in_order

pub returns-clause-read : goal.returns-clause-read
returns-clause-read c = λ seg order feeds log history segment fit h. (schedule_read_whole seg order feeds log history segment fit h).0

pub returns-clause-to_the_tail : goal.returns-clause-to_the_tail
returns-clause-to_the_tail c = λ seg order feeds log history segment fit h. (schedule_read_whole seg order feeds log history segment fit h).1
