use Rattle.std.proofs.Common.{refl, sym, ◌∙◌}
use Rattle.feed_schedule.proofs.OrderLemmas.{writing_in_order}
use Rattle.feed_schedule.proofs.UnreadLemmas.{writing_interleaves}
use Rattle.feed_schedule.proofs.laws.every_writing_ends.Goals as goal

pub returns-clause-ends : goal.returns-clause-ends
returns-clause-ends c = λ order feeds. (_, refl)

pub returns-clause-one_way : goal.returns-clause-one_way
returns-clause-one_way c = λ order feeds log other h g. h ∙ sym g

pub returns-clause-interleaved : goal.returns-clause-interleaved
returns-clause-interleaved c = writing_interleaves

pub returns-clause-in_order : goal.returns-clause-in_order
returns-clause-in_order c = writing_in_order
