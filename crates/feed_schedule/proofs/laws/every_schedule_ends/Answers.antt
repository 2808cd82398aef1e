use Rattle.feed_schedule.proofs.ScheduleLemmas.{schedule_ends, one_schedule}
use Rattle.feed_schedule.proofs.laws.every_schedule_ends.Goals as goal

pub returns-clause-ends : goal.returns-clause-ends
returns-clause-ends c = schedule_ends

pub returns-clause-one_way : goal.returns-clause-one_way
returns-clause-one_way c = one_schedule
