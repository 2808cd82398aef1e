use Rattle.std.proofs.Common.{◌≡◌, false, List}
use Rattle.ring_layout.specs.declared.item.Item.{Item}
use Rattle.feed_schedule.specs.Schedule.{has_ended}
use Rattle.feed_schedule.specs.Replaying.{Represents}
use Rattle.feed_schedule.specs.inside.Turning.{turns_to_come}
use Rattle.feed_schedule.proofs.replay.Replay.advance.Given as goal

-- what was still to come is, and the reader hasn't ended
abbrev pub invariant-loop-met : goal.invariant-loop-met
invariant-loop-met l = record {
  to_come : (more : List Item) → Represents l.fn.self more → Represents l.self more;
  goes_on : has_ended l.self.reading ≡ false;
}

abbrev pub decreases-loop-met : goal.decreases-loop-met
decreases-loop-met l = turns_to_come l.self
